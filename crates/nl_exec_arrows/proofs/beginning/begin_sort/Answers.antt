-- All pairs come, one after another.
use Rattle.std.proofs.Common.{◌≡◌, ℕ, List, Option, length, map, ap, ◌∙◌, sym}
use Rattle.std.proofs.lemmas.Result.{IfOk-weaker}
use Rattle.nl_value.specs.Plain.{Plain}
use Rattle.nl_tree.specs.Tree.{Node, span}
use Rattle.nl_exec_acts.specs.declared.fail.ErrorKind.TheVariants.{WrongType}
use Rattle.nl_exec_meaning.specs.Arrows.{pairs}
use Rattle.nl_exec_meaning.specs.Code.{node_at}
use Rattle.nl_exec_meaning.specs.Seen.{state_of}
use Rattle.nl_exec_meaning.specs.State.{State, Outcome, Eval, found}
use Rattle.nl_exec_meaning.specs.Rounds.{first_of, listed, turns_left}
use Rattle.nl_exec_meaning.specs.declared.rounds.Rounds.{Rounds}
use Rattle.nl_exec_meaning.specs.declared.words.Arrow.TheVariants as arrow
use Rattle.nl_exec_arrows.proofs.Ones.{first_long}
use Rattle.nl_exec_arrows.proofs.Starting.{over_pairs, pairs_begin}
use Rattle.nl_exec_arrows.proofs.beginning.begin_sort.Goals as goal

abbrev sorts : Eval → Node → State → List Plain → Outcome
sorts prev t s items = over_pairs prev t s items (pairs items) (map (λ item. 0) items)

abbrev of_input : Eval → Node → State → Option (List Plain) → Outcome
of_input prev t s o = found o WrongType (span t) s (λ lists. sorts prev t s (listed (first_of lists)))

pub returns-in_default-clause-meaning : goal.returns-in_default-clause-meaning
returns-in_default-clause-meaning g c = λ prev units thrifty.
    let code = c.args.code.now in
    let t = node_at code c.args.node in
    let s = state_of code.names c.args.hands.now units in
    c.refused.ensures.meaning prev units thrifty
    ∙ sym (c.in_ok-over.ensures.meaning code.names units (span t) (sorts prev t s) ∙ ap (of_input prev t s) c.in_default.is)

pub returns-clause-meaning : goal.returns-clause-meaning
returns-clause-meaning g c =
    let code = c.args.code.now in
    let t = node_at code c.args.node in
    let items = listed (first_of c.in-Some.over) in
    let full : c.first_length-many.result ≡ length items = c.first_length-many.ensures ∙ first_long c.in-Some.over in
    IfOk-weaker c.begin_turns.result _ _ (λ next meant. λ prev units thrifty.
    let s = state_of code.names c.args.hands.now units in
    meant prev units thrifty
    ∙ ap (λ (r : Rounds). turns_left arrow.SortBy prev t 0 r s) c.in_ok-rounds.ensures
    ∙ pairs_begin prev t s items c.first_length-many.result full
    ∙ sym (c.in_ok-over.ensures.meaning code.names units (span t) (sorts prev t s) ∙ ap (of_input prev t s) c.in-Some.is)) c.begin_turns.ensures.meaning
