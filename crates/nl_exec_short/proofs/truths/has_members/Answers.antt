-- The word tells whether the set has members that its part gives.
use Rattle.std.proofs.Common.{◌≡◌, ◌==◌, not, refl, sym}
use Rattle.nl_tree.specs.Tree.{span}
use Rattle.nl_value.specs.Plain.{PlainTruth}
use Rattle.nl_exec_meaning.specs.Code.{node_at}
use Rattle.nl_exec_meaning.specs.State.{gives}
use Rattle.nl_exec_meaning.specs.Meaning.{evaluator}
use Rattle.nl_exec_meaning.specs.Seen.{state_of}
use Rattle.nl_exec_short.proofs.Single.{roomy}
use Rattle.nl_exec_short.proofs.Sets.{any_had}
use Rattle.nl_exec_short.proofs.truths.has_members.Goals as goal

pub returns-in-Some-count : goal.returns-in-Some-count
returns-in-Some-count g c = λ room n some.
    let code = c.args.code.now in
    let h = c.args.hands.now in
    let s = state_of code.names h n in
    let t = node_at code c.args.node in
    let x = node_at code c.in-Some.part in
    let (set, had, so) = c.in-Some-count.ensures in
    let many = c.in-Some-count.many in
    roomy (λ it. evaluator code.program it t s ≡ gives (PlainTruth (not (many == 0))) s) 1
    (λ less enough. any_had code.program less t x s c.args.runs c.args.breed set many (sym c.requires.is) c.in-Some.ensures
    (c.if-not-may_run.ensures.allowed refl code n (span t)) (c.if-not-may_run.ensures.stays refl code n)
    (had less n enough) so)
    room some
