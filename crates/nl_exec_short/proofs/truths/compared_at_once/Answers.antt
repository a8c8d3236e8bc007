-- What a comparison tells of two numbers.
use Rattle.nl_value.specs.Plain.{PlainNumber, PlainTruth}
use Rattle.nl_exec_meaning.specs.Code.{node_at}
use Rattle.nl_exec_meaning.specs.Seen.{state_of}
use Rattle.nl_exec_short.proofs.Words.{nested}
use Rattle.nl_exec_short.proofs.truths.compared_at_once.Goals as goal

pub returns-in-Some-Some : goal.returns-in-Some-Some
returns-in-Some-Some g c = λ room n some.
    let code = c.args.code.now in
    let word = c.in-Some.word in
    let both = c.in-Some-Some in
    let truth = c.comparison.result in
    nested code.program (node_at code c.args.node) (node_at code word.left) (node_at code word.right) (state_of code.names c.args.hands.now n) 5
    (PlainNumber both.a) (PlainNumber both.b) (PlainTruth truth)
    (λ less left right. c.in-Some.ensures less n both.a both.b truth left right c.comparison.ensures)
    (λ less h. both.ensures less n h) (λ less h. both.ensures' less n h) room some
