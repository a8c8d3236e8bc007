-- The link is the one that the word makes.
use Rattle.std.proofs.Common.{refl, ◌∙◌, sym, arith}
use Rattle.nl_tree.specs.Tree.{parts}
use Rattle.nl_exec_meaning.specs.Code.{node_at}
use Rattle.nl_exec_meaning.specs.Meaning.{evaluator}
use Rattle.nl_exec_meaning.specs.State.{with_world}
use Rattle.nl_exec_meaning.specs.Seen.{state_of}
use Rattle.nl_exec_at_once.proofs.Moves.{only_part}
use Rattle.nl_exec_at_once.proofs.OneLink.{link_goes_on}
use Rattle.nl_exec_at_once.proofs.linking.do_link.Goals as goal

pub returns-in-Ok-clause-done : goal.returns-in-Ok-clause-done
returns-in-Ok-clause-done g c = λ _ room n some.
    let code = c.args.code.now in
    let before = c.args.hands.now in
    let v = g.S.Store.world c.link_one.new.store in
    let t = node_at code c.args.node in
    let x = node_at code c.in-Some.part in
    let one = c.in-Some-only_other in
    let (set, had, kind_is, members) = one.ensures.gives in
    link_goes_on before v (with_world v (state_of code.names before n)) code.names n (evaluator code.program room) t x c.args.runs c.args.way c.in-Turtle.caller one.target set
    (only_part (parts t) x (sym c.count.ensures ∙ c.if-count-ne1.false) c.in-Some.ensures.rest)
    (had room n (omega (arith, some))) (λ next. c.if-not-lives_and_may_run.ensures.stays refl code n next)
    c.in-Turtle.is kind_is members c.in-Ok.ensures.outcome c.link_one.ensures.keeps refl
