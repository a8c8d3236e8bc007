-- All items come, one after another.
use Rattle.std.proofs.Common.{ap, ◌∙◌, sym}
use Rattle.std.proofs.lemmas.Result.{IfOk-weaker}
use Rattle.nl_tree.specs.Tree.{span}
use Rattle.nl_exec_meaning.specs.Code.{node_at}
use Rattle.nl_exec_meaning.specs.Seen.{ground, state_of}
use Rattle.nl_exec_meaning.specs.Rounds.{turns_left}
use Rattle.nl_exec_meaning.specs.declared.rounds.Rounds.{Rounds}
use Rattle.nl_exec_meaning.specs.declared.words.Arrow.TheVariants as arrow
use Rattle.nl_exec_arrows.proofs.beginning.begin_filter.Goals as goal

pub returns-in-Some-clause-meaning : goal.returns-in-Some-clause-meaning
returns-in-Some-clause-meaning g c =
    let code = c.args.code.now in
    let t = node_at code c.args.node in
    IfOk-weaker c.begin_turns.result _ _ (λ next meant. λ prev units thrifty.
    let s = state_of code.names c.args.hands.now units in
    meant prev units thrifty
    ∙ ap (λ (r : Rounds). turns_left arrow.Filter prev t 0 r s) c.over_places-rounds.ensures
    ∙ sym (c.in-Some.ensures.meaning (span t) s _)) c.begin_turns.ensures.meaning

pub returns-in-None-clause-meaning : goal.returns-in-None-clause-meaning
returns-in-None-clause-meaning g c = λ prev units thrifty.
    let code = c.args.code.now in
    c.refused.ensures.meaning prev units thrifty ∙ sym (c.in-None.ensures.meaning (span (node_at code c.args.node)) (state_of code.names c.args.hands.now units) _)
