-- A word is what its inputs make, from the first one on.
use Rattle.std.proofs.Common.{ℕ, List, ap, ◌∙◌, sym, arith}
use Rattle.std.proofs.lemmas.Result.{IfOk-weaker}
use Rattle.nl_value.specs.Plain.{Plain}
use Rattle.nl_tree.specs.Tree.{parts}
use Rattle.nl_exec_meaning.specs.Code.{node_at}
use Rattle.nl_exec_meaning.specs.Rounds.{first_input, inputs_from}
use Rattle.nl_exec_meaning.specs.Seen.{state_of}
use Rattle.nl_exec_arrows.proofs.InputsLeft.{weights_drop, word_is}
use Rattle.nl_exec_arrows.proofs.inputs.enter_arrow.Goals as goal

pub returns-clause-meaning : goal.returns-clause-meaning
returns-clause-meaning g c =
    let code = c.args.code.now in
    let t = node_at code c.args.node in
    IfOk-weaker c.next_input.result _ _ (λ next meant. λ prev units thrifty.
    let s = state_of code.names c.args.hands.now units in
    meant prev units thrifty
    ∙ ap (λ (n : ℕ). inputs_from c.args.word prev t n c.empty.result s) c.first_input.ensures
    ∙ ap (λ (made : List Plain). inputs_from c.args.word prev t (first_input c.args.word) made s) c.empty.ensures
    ∙ word_is c.args.word prev t s) c.next_input.ensures.meaning

pub returns-clause-falls : goal.returns-clause-falls
returns-clause-falls g c =
    let less = weights_drop c.first_input.result (parts (node_at c.args.code.now c.args.node)) in
    IfOk-weaker c.next_input.result _ _ (λ next few. omega (arith, few, less)) c.next_input.ensures.falls
