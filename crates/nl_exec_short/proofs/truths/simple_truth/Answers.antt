-- A truth that stands in parentheses.
use Rattle.nl_value.specs.Plain.{PlainTruth}
use Rattle.nl_exec_meaning.specs.Code.{node_at}
use Rattle.nl_exec_meaning.specs.Seen.{state_of}
use Rattle.nl_exec_short.proofs.Inside.{had_inside}
use Rattle.nl_exec_short.proofs.truths.simple_truth.Goals as goal

pub returns-in-Some : goal.returns-in-Some
returns-in-Some g c =
    let code = c.args.code.now in
    had_inside code.program (node_at code c.args.node) (node_at code c.in-Some.part) (λ n. state_of code.names c.args.hands.now n) 6 (λ x. PlainTruth x)
    c.plain_truth.result c.in-Some.ensures c.plain_truth.ensures
