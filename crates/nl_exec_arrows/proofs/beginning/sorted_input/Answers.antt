-- A list, or the living members of a set.
use Rattle.std.proofs.Common.{◌≡◌, ◌&&◌, true, List, Option, Some, ap, ◌∙◌, sym}
use Rattle.nl_value.specs.Plain.{Plain, PlainItems, PlainSet, plains}
use Rattle.nl_value.specs.Views.{plain}
use Rattle.nl_value.specs.declared.values.Value.{Value}
use Rattle.nl_value.proofs.Lists.{items_of-plains}
use Rattle.nl_agents.specs.Names.{set_fits}
use Rattle.nl_exec_acts.specs.Acts.{members_in_order}
use Rattle.nl_exec_acts.specs.declared.fail.ErrorKind.TheVariants.{WrongType}
use Rattle.nl_exec_acts.proofs.Members.{members_fit}
use Rattle.nl_exec_meaning.specs.Arrows.{in_order}
use Rattle.nl_exec_meaning.specs.Ground.{all_fit}
use Rattle.nl_exec_meaning.specs.Rounds.{first_of, listed, one_of}
use Rattle.nl_exec_meaning.specs.Seen.{ground, state_of}
use Rattle.nl_exec_meaning.specs.State.{found, rest_of}
use Rattle.nl_exec_meaning.proofs.Grounds.{fits_is}
use Rattle.nl_exec_arrows.proofs.Fitted.{one_fits}
use Rattle.nl_exec_arrows.proofs.beginning.sorted_input.Goals as goal

pub listed_members-requires : goal.listed_members-requires
listed_members-requires g c =
    let r = (g.S.Store.world c.args.hands.now.stage.store).rest in
    let set = c.in-Some-Set.set.value in
    let is : one_of c.args.made ≡ Some (PlainSet set) = sym c.in-Some-Set.ensures ∙ ap (λ (v : Value). Some (plain v)) c.in-Some-Set.field-0-is in
    ap (set_fits r) c.deref.ensures ∙ sym (fits_is r (PlainSet set)) ∙ one_fits (ground c.args.hands.now) c.args.made (PlainSet set) is c.requires.made

pub returns-in_ok-listed_members-in-Some-Set-clause-meaning : goal.returns-in_ok-listed_members-in-Some-Set-clause-meaning
returns-in_ok-listed_members-in-Some-Set-clause-meaning g c = λ names units place next.
    let r = (g.S.Store.world c.args.hands.now.stage.store).rest in
    let s = state_of names c.args.hands.now units in
    let set = c.in-Some-Set.set.value in
    let is : one_of c.args.made ≡ Some (PlainSet set) = sym c.in-Some-Set.ensures ∙ ap (λ (v : Value). Some (plain v)) c.in-Some-Set.field-0-is in
    ap (λ (o : Option Plain). found o WrongType place s (λ value. found (in_order (rest_of s) value) WrongType place s next)) is
    ∙ ap next (sym (ap (λ (ls : List Plain). listed (first_of ls)) c.in_ok-listed_members-in-Some-Set.ensures ∙ items_of-plains _ ∙ ap (members_in_order r) c.deref.ensures))

pub returns-in_ok-listed_members-in-Some-Set-clause-fits : goal.returns-in_ok-listed_members-in-Some-Set-clause-fits
returns-in_ok-listed_members-in-Some-Set-clause-fits g c =
    let r = (g.S.Store.world c.args.hands.now.stage.store).rest in
    ap (all_fit (ground c.args.hands.now)) c.in_ok-listed_members-in-Some-Set.ensures
    ∙ ap (λ b. b && true) (fits_is r (PlainItems (plains (members_in_order r c.deref.result.now))) ∙ members_fit r c.deref.result.now)
