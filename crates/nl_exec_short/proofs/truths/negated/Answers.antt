-- The part gives a truth.
use Rattle.std.proofs.Common.{refl, sym}
use Rattle.std.specs.Prelude.{not}
use Rattle.nl_tree.specs.Tree.{span}
use Rattle.nl_value.specs.Plain.{PlainTruth}
use Rattle.nl_exec_meaning.specs.Code.{node_at}
use Rattle.nl_exec_meaning.specs.Seen.{state_of}
use Rattle.nl_exec_short.proofs.Inside.{one_nested}
use Rattle.nl_exec_short.proofs.Deciding.{not_had}
use Rattle.nl_exec_short.proofs.truths.negated.Goals as goal

pub returns-in-Some-simple_truth : goal.returns-in-Some-simple_truth
returns-in-Some-simple_truth g c = λ room n some.
    let code = c.args.code.now in
    let s = state_of code.names c.args.hands.now n in
    let t = node_at code c.args.node in
    let part = node_at code c.in-Some.part in
    let truth = c.in-Some-simple_truth.truth in
    one_nested code.program t part s 7 (PlainTruth truth) (PlainTruth (not truth))
    (λ less had. not_had code.program less t part s c.args.runs c.args.breed truth (sym c.requires.is) c.in-Some.ensures
    (c.if-not-may_run.ensures.allowed refl code n (span t)) (c.if-not-may_run.ensures.stays refl code n) had)
    (λ less h. c.in-Some-simple_truth.ensures less n h) room some
