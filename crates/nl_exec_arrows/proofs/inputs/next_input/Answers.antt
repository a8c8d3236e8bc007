-- An input comes, or the word begins its turns.
use Rattle.std.proofs.Common.{List, ap, ◌∙◌, sym, arith}
use Rattle.std.proofs.lemmas.Result.{IfOk-weaker}
use Rattle.nl_tree.specs.Tree.{Node}
use Rattle.nl_exec_meaning.specs.Blocks.{values}
use Rattle.nl_exec_meaning.specs.Code.{node_at}
use Rattle.nl_exec_meaning.specs.Rounds.{begun}
use Rattle.nl_exec_meaning.specs.Seen.{state_of}
use Rattle.nl_exec_arrows.proofs.inputs.next_input.Goals as goal

pub returns-in-Some-clause-meaning : goal.returns-in-Some-clause-meaning
returns-in-Some-clause-meaning g c = λ prev units thrifty.
    let code = c.args.code.now in
    let t = node_at code c.args.node in
    let s = state_of code.names c.args.hands.now units in
    sym (ap (λ (ts : List Node). values prev ts c.args.made s (λ all s1. begun c.args.word prev t all s1)) c.in-Some.ensures.inputs)

pub returns-in-Some-clause-falls : goal.returns-in-Some-clause-falls
returns-in-Some-clause-falls g c = rw c.in-Some.ensures.parts (omega arith)

pub returns-in-None-clause-meaning : goal.returns-in-None-clause-meaning
returns-in-None-clause-meaning g c =
    let code = c.args.code.now in
    let t = node_at code c.args.node in
    IfOk-weaker c.begin.result _ _ (λ next meant. λ prev units thrifty.
    let s = state_of code.names c.args.hands.now units in
    meant prev units thrifty
    ∙ sym (ap (λ (ts : List Node). values prev ts c.args.made s (λ all s1. begun c.args.word prev t all s1)) c.in-None.ensures.inputs)) c.begin.ensures.meaning

pub returns-in-None-clause-falls : goal.returns-in-None-clause-falls
returns-in-None-clause-falls g c = IfOk-weaker c.begin.result _ _ (λ next none. omega (arith, none)) c.begin.ensures.falls
