-- The word counts the members of the set that its part gives.
use Rattle.std.proofs.Common.{◌≡◌, refl, ap, ◌∙◌, sym, arith}
use Rattle.nl_tree.specs.Tree.{span}
use Rattle.nl_value.specs.Plain.{PlainNumber}
use Rattle.nl_agents.proofs.LivingMembers.{members_are_few}
use Rattle.nl_exec_meaning.specs.Code.{node_at}
use Rattle.nl_exec_meaning.specs.State.{gives}
use Rattle.nl_exec_meaning.specs.Meaning.{evaluator}
use Rattle.nl_exec_meaning.specs.Seen.{state_of}
use Rattle.nl_exec_short.proofs.Single.{roomy}
use Rattle.nl_exec_short.proofs.Sets.{count_had}
use Rattle.nl_exec_short.proofs.numbers.number_of_members.Goals as goal

pub whole-requires : goal.whole-requires
whole-requires g c =
    let w = g.S.Store.world c.args.hands.now.stage.store in
    let (set, had, so) = c.in-Some-count.ensures in
    omega (arith, members_are_few w set c.shape-stands.ensures.stands, so)

pub returns-in-Some-count : goal.returns-in-Some-count
returns-in-Some-count g c = λ room n some.
    let code = c.args.code.now in
    let h = c.args.hands.now in
    let s = state_of code.names h n in
    let t = node_at code c.args.node in
    let x = node_at code c.in-Some.part in
    let (set, had, so) = c.in-Some-count.ensures in
    let many = c.in-Some-count.many in
    roomy (λ it. evaluator code.program it t s ≡ gives (PlainNumber c.whole.result) s) 1
    (λ less enough. count_had code.program less t x s c.args.runs c.args.breed set many (sym c.requires.is) c.in-Some.ensures
    (c.if-not-may_run.ensures.allowed refl code n (span t)) (c.if-not-may_run.ensures.stays refl code n)
    (had less n enough) so ∙ ap (λ number. gives (PlainNumber number) s) (sym c.whole.ensures))
    room some
