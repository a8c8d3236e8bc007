-- The first item is handed on to the turn of the second.
use Rattle.std.proofs.Common.{◌≡◌, ◌&&◌, true, Some, None, slice_get, ap, ◌∙◌, sym, subst}
use Rattle.std.specs.Option.{option_map}
use Rattle.std.proofs.lemmas.Result.{IfOk-weaker}
use Rattle.nl_value.specs.Views.{plain}
use Rattle.nl_tree.specs.Tree.{span}
use Rattle.nl_exec_meaning.specs.Code.{node_at}
use Rattle.nl_exec_meaning.specs.Ground.{fits}
use Rattle.nl_exec_meaning.specs.Seen.{ground, state_of}
use Rattle.nl_exec_meaning.specs.Rounds.{first_of, listed, turns_left}
use Rattle.nl_exec_meaning.specs.Standing.{RoundsFit}
use Rattle.nl_exec_meaning.specs.declared.rounds.Rounds.{Rounds}
use Rattle.nl_exec_meaning.specs.declared.words.Arrow.TheVariants as arrow
use Rattle.nl_exec_meaning.proofs.Grounds.{pass_get}
use Rattle.nl_exec_arrows.proofs.Fitted.{first_fits, listed_fit}
use Rattle.nl_exec_arrows.proofs.Starting.{reduced_none, reduced_some}
use Rattle.nl_exec_arrows.proofs.beginning.begin_reduce.Goals as goal

pub returns-in_default-clause-meaning : goal.returns-in_default-clause-meaning
returns-in_default-clause-meaning g c = λ prev units thrifty.
    let code = c.args.code.now in
    c.refused.ensures.meaning prev units thrifty ∙ sym (c.in_default.ensures.meaning (span (node_at code c.args.node)) (state_of code.names c.args.hands.now units) _)

pub returns-in_default-2-clause-meaning : goal.returns-in_default-2-clause-meaning
returns-in_default-2-clause-meaning g c = λ prev units thrifty.
    let code = c.args.code.now in
    let t = node_at code c.args.node in
    let s = state_of code.names c.args.hands.now units in
    let out = sym c.in_ok-first.ensures ∙ ap (option_map plain) c.in_default-2.is in
    c.refused-in_default-2.ensures.meaning prev units thrifty ∙ sym (c.in-Some.ensures.meaning (span t) s _ ∙ reduced_none prev t s (listed (first_of c.args.made)) out)

pub begin_turns-requires : goal.begin_turns-requires
begin_turns-requires g c =
    let now = ground c.args.hands.now in
    let items = listed (first_of c.args.made) in
    let x = plain c.in-Some-2.first in
    let is : slice_get items 0 ≡ Some x = sym c.in_ok-first.ensures ∙ ap (option_map plain) c.in-Some-2.is in
    let one = pass_get (fits now) items 0 x (listed_fit now (first_of c.args.made) (first_fits now c.args.made c.requires.made)) is in
    record {
      rounds = subst (RoundsFit now arrow.Reduce) (sym c.in_ok-rounds.ensures)
          (record { over = c.requires.made; made = ap (λ b. b && true) one; stand = c.in-Some.ensures.long });
    }

pub returns-clause-meaning : goal.returns-clause-meaning
returns-clause-meaning g c =
    let code = c.args.code.now in
    let t = node_at code c.args.node in
    let items = listed (first_of c.args.made) in
    let x = plain c.in-Some-2.first in
    let is : slice_get items 0 ≡ Some x = sym c.in_ok-first.ensures ∙ ap (option_map plain) c.in-Some-2.is in
    IfOk-weaker c.begin_turns.result _ _ (λ next meant. λ prev units thrifty.
    let s = state_of code.names c.args.hands.now units in
    meant prev units thrifty
    ∙ ap (λ (r : Rounds). turns_left arrow.Reduce prev t 0 r s) c.in_ok-rounds.ensures
    ∙ reduced_some prev t s items x is
    ∙ sym (c.in-Some.ensures.meaning (span t) s _)) c.begin_turns.ensures.meaning
