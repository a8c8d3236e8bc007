-- There are enough members, and the number isn't below 0.
use Rattle.std.proofs.Common.{List, filter, length, ap, ◌∙◌}
use Rattle.std.proofs.lemmas.Result.{IfOk-weaker}
use Rattle.nl_tree.specs.Tree.{span}
use Rattle.nl_exec_meaning.specs.Code.{node_at}
use Rattle.nl_exec_meaning.specs.Walks.{Answer, is_number}
use Rattle.nl_exec_meaning.specs.Seen.{state_of}
use Rattle.nl_exec_walks.proofs.Giving.{enough_given}
use Rattle.nl_exec_walks.proofs.several.some_extremes.Goals as goal

pub returns-clause-meaning : goal.returns-clause-meaning
returns-clause-meaning g c =
    IfOk-weaker c.first_extremes.result _ _
    (λ exit meant. λ units.
    meant c.args.code.now units
    ∙ enough_given c.args.up c.args.which c.args.number c.args.answers (span (node_at c.args.code.now c.args.node)) (state_of c.args.code.now.names c.args.hands.now units)
    c.wanted_of-wanted.result c.wanted_of-wanted.ensures c.numbers_in.result (c.numbers_in.ensures ∙ ap (λ (xs : List Answer). length (filter is_number xs)) c.as_slice.ensures)
    c.if-numbers_in-wanted.false c.is_below_zero.result c.is_below_zero.ensures c.if-is_below_zero.false)
    c.first_extremes.ensures.meaning
