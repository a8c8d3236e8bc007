-- The node is a pair of parentheses, or a block of one expression.
use Rattle.std.proofs.Common.{ap, ◌∙◌, sym}
use Rattle.std.specs.Prelude.{option_map}
use Rattle.nl_exec_meaning.specs.Code.{node_at}
use Rattle.nl_exec_short.proofs.Words.{where_some}
use Rattle.nl_exec_short.proofs.Inside.{inside_had}
use Rattle.nl_exec_short.proofs.numbers.inside_of.Goals as goal

pub returns-in-Inside : goal.returns-in-Inside
returns-in-Inside c = where_some _ c.part.result (λ part is room s after value had.
    let code = c.args.code.now in
    let there = ap (option_map (node_at code)) (sym is) ∙ c.part.ensures.value in
    inside_had code.program room (node_at code c.args.node) (node_at code part) s after value c.in-Inside.ensures.op there had)
