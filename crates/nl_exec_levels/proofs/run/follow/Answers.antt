-- A level on top is gone through first, and a unit is wanted before it as well as behind it.
use Rattle.std.proofs.Common.{suc, ◌-◌, length, ap, ◌∙◌}
use Rattle.nl_tree.specs.Tree.{span}
use Rattle.nl_exec_meaning.specs.Code.{node_at}
use Rattle.nl_exec_meaning.specs.State.{goes_on}
use Rattle.nl_exec_meaning.specs.Meaning.{evaluator, limited}
use Rattle.nl_exec_meaning.specs.Seen.{ground, state_of}
use Rattle.nl_exec_levels.specs.Rest.{through}
use Rattle.nl_exec_levels.specs.declared.levels.Level.{Level}
use Rattle.nl_exec_levels.specs.declared.focus.Focus.TheVariants as focus
use Rattle.nl_exec_levels.specs.declared.focus.Wish.TheVariants as wish
use Rattle.nl_exec_levels.proofs.Stack.{rest_push, spend_passes}
use Rattle.nl_exec_levels.proofs.run.follow.Goals as goal

pub returns-in-Answer-clause-focus : goal.returns-in-Answer-clause-focus
returns-in-Answer-clause-focus g c = c.limited.ensures.fits (ground c.args.hands.now) (rw c.in-Answer.is at c.requires.next)

pub returns-in_ok-push-in-Go-clause-rest : goal.returns-in_ok-push-in-Go-clause-rest
returns-in_ok-push-in-Go-clause-rest g c = λ room n lt.
    let code = c.args.code.now in
    let level : Level = record { node = c.args.node; frame = c.in-Go.frame } in
    rw (c.in_ok-push-in-Go.ensures.items, c.in-Go.is)
    (rest_push code room c.args.levels.now.items level (focus.Enter c.in-Go.child) (state_of code.names c.args.hands.now n))

pub returns-in_ok-push-in-Want-clause-rest : goal.returns-in_ok-push-in-Want-clause-rest
returns-in_ok-push-in-Want-clause-rest g c = λ room n lt.
    let code = c.args.code.now in
    let ls = c.args.levels.now.items in
    let s = state_of code.names c.args.hands.now n in
    let level : Level = record { node = c.args.node; frame = c.in-Want.frame } in
    let prev = evaluator code.program (room - suc (length ls)) in
    rw (c.in_ok-push-in-Want.ensures.items, c.in-Want.is)
    (rest_push code room ls level (focus.Want (wish.Node c.in-Want.child)) s
    ∙ ap (λ o. through code room ls (limited (span (node_at code c.args.node)) o))
    (spend_passes code prev c.in-Want.frame s (λ s1. prev (node_at code c.in-Want.child) s1)))

pub returns-in_ok-push-in-Tick-clause-rest : goal.returns-in_ok-push-in-Tick-clause-rest
returns-in_ok-push-in-Tick-clause-rest g c = λ room n lt.
    let code = c.args.code.now in
    let ls = c.args.levels.now.items in
    let s = state_of code.names c.args.hands.now n in
    let level : Level = record { node = c.args.node; frame = c.in-Tick.frame } in
    let prev = evaluator code.program (room - suc (length ls)) in
    rw (c.in_ok-push-in-Tick.ensures.items, c.in-Tick.is)
    (rest_push code room ls level (focus.Want wish.Tick) s
    ∙ ap (λ o. through code room ls (limited (span (node_at code c.args.node)) o))
    (spend_passes code prev c.in-Tick.frame s (λ s1. goes_on s1)))
