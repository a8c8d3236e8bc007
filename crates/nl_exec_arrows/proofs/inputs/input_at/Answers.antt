-- The input that comes, if there is one.
use Rattle.std.proofs.Common.{◌≡◌, ◌<◌, ap, ◌∙◌, arith, length}
use Rattle.nl_tree.specs.Tree.{parts}
use Rattle.nl_exec_meaning.specs.Code.{node_at}
use Rattle.nl_exec_meaning.specs.Rounds.{inputs_end}
use Rattle.nl_exec_arrows.proofs.InputsLeft.{match_on, take_gone, take_here}
use Rattle.nl_exec_arrows.proofs.inputs.input_at.Goals as goal

pub returns-then-at-inputs_end-clause-inputs : goal.returns-then-at-inputs_end-clause-inputs
returns-then-at-inputs_end-clause-inputs c =
    let code = c.args.code.now in
    let ts = parts (node_at code c.args.node) in
    let n = inputs_end c.args.word (length ts) in
    let end : c.inputs_end.result ≡ n = c.inputs_end.ensures ∙ ap (inputs_end c.args.word) c.count.ensures in
    let lt = c.if-at-inputs_end.true in
    let less : c.args.at < n = omega (arith, lt, end) in
    match_on c.part.result c.part.ensures.rest (λ gone. take_gone n ts c.args.at gone) (λ i here. take_here n ts c.args.at (node_at code i) less here)
