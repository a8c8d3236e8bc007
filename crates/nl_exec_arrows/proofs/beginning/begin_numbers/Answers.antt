-- So many places come, one after another.
use Rattle.std.proofs.Common.{Bool, true, false, ℕ, [], ◌∷◌, Some, ap, ◌∙◌, sym}
use Rattle.std.proofs.lemmas.Result.{IfOk-weaker}
use Rattle.nl_tree.specs.Tree.{Node, span}
use Rattle.nl_exec_meaning.specs.Code.{node_at}
use Rattle.nl_exec_meaning.specs.Seen.{state_of}
use Rattle.nl_birth.specs.Births.{count_of}
use Rattle.nl_exec_acts.specs.declared.fail.ErrorKind.TheVariants.{Domain}
use Rattle.nl_exec_meaning.specs.State.{State, Outcome, Eval, choose, fails}
use Rattle.nl_exec_meaning.specs.Arrows.{all_turns, gives_kept, keep, place_number, places}
use Rattle.nl_exec_meaning.specs.Rounds.{turns_left}
use Rattle.nl_exec_meaning.specs.declared.rounds.Rounds.{Rounds}
use Rattle.nl_exec_meaning.specs.declared.words.Arrow.TheVariants as arrow
use Rattle.nl_exec_arrows.proofs.Starting.{all_left}
use Rattle.nl_exec_arrows.proofs.beginning.begin_numbers.Goals as goal

pub returns-in_default-clause-meaning : goal.returns-in_default-clause-meaning
returns-in_default-clause-meaning g c = λ prev units thrifty.
    let code = c.args.code.now in
    c.refused.ensures.meaning prev units thrifty ∙ sym (c.in_default.ensures (span (node_at code c.args.node)) (state_of code.names c.args.hands.now units) _)

abbrev turns_over : Eval → Node → State → ℕ → Outcome
turns_over prev t s many = all_turns prev t 1 (λ kept at. place_number at ∷ []) keep (places 0 many) (Some []) s (λ kept s1. gives_kept kept (span t) s1)

pub returns-then-is_negative-clause-meaning : goal.returns-then-is_negative-clause-meaning
returns-then-is_negative-clause-meaning g c = λ prev units thrifty.
    let code = c.args.code.now in
    let t = node_at code c.args.node in
    let s = state_of code.names c.args.hands.now units in
    let less = sym c.is_negative.ensures ∙ c.if-is_negative.true in
    c.refused-then-is_negative.ensures.meaning prev units thrifty
    ∙ sym (c.in-Some.ensures (span t) s _ ∙ ap (λ (b : Bool). choose b (fails Domain (span t) s) (turns_over prev t s (count_of c.in-Some.number))) less)

pub returns-clause-meaning : goal.returns-clause-meaning
returns-clause-meaning g c =
    let code = c.args.code.now in
    let t = node_at code c.args.node in
    let less = sym c.is_negative.ensures ∙ c.if-is_negative.false in
    IfOk-weaker c.begin_turns.result _ _ (λ next meant. λ prev units thrifty.
    let s = state_of code.names c.args.hands.now units in
    meant prev units thrifty
    ∙ ap (λ (r : Rounds). turns_left arrow.NValues prev t 1 r s) c.over_places-rounds.ensures
    ∙ ap (turns_over prev t s) (all_left c.turns_of.result ∙ c.turns_of.ensures.value)
    ∙ sym (c.in-Some.ensures (span t) s _ ∙ ap (λ (b : Bool). choose b (fails Domain (span t) s) (turns_over prev t s (count_of c.in-Some.number))) less))
    c.begin_turns.ensures.meaning
