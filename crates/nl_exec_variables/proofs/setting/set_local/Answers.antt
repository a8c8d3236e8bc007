-- The newest local of the number is that of the name.
use Rattle.std.proofs.Common.{ℕ, List, Option, slice_set, refl, ap, ◌∙◌, sym, subst}
use Rattle.nl_value.specs.Views.{plain}
use Rattle.nl_exec_acts.specs.declared.fail.ErrorKind.TheVariants.{WrongType}
use Rattle.nl_exec_meaning.specs.Code.{name_of}
use Rattle.nl_exec_meaning.specs.State.{Held, found, goes_on, with_locals}
use Rattle.nl_exec_meaning.specs.Ground.{fits}
use Rattle.nl_exec_meaning.specs.Kept.{Kept, all_held}
use Rattle.nl_exec_meaning.specs.Seen.{ended, ground, state_of}
use Rattle.nl_exec_meaning.specs.Standing.{LocalsFit}
use Rattle.nl_exec_meaning.specs.declared.exits.Exit.{Exit}
use Rattle.nl_exec_meaning.proofs.Grounds.{pass_set}
use Rattle.nl_exec_meaning.proofs.Newest.{newest_is, held_set}
use Rattle.nl_exec_variables.proofs.LocalValues.{index_within}
use Rattle.nl_exec_meaning.proofs.Standing.{stands_on}
use Rattle.nl_exec_variables.proofs.setting.set_local.Goals as goal

pub replace-requires : goal.replace-requires
replace-requires g c = index_within _ c.args.hands.now.locals c.in-Some.at (sym c.find.ensures ∙ c.in-Some.is)

pub returns-in-Some-clause-meaning : goal.returns-in-Some-clause-meaning
returns-in-Some-clause-meaning g c = λ units.
    let names = c.args.code.now.names in
    let hands = c.args.hands.now in
    let s = state_of names hands units in
    let k : Kept = record { id = c.args.id; value = plain c.args.value } in
    let h : Held = record { name = name_of names c.args.id; value = plain c.args.value } in
    ap (λ (ls : List Held). goes_on (with_locals ls s)) (ap (all_held names) c.replace.ensures.new ∙ sym (held_set names hands.locals c.in-Some.at k))
    ∙ sym (ap (λ (o : Option ℕ). found o WrongType c.args.place s (λ index. goes_on (with_locals (slice_set s.locals index h) s)))
    (newest_is names hands.locals c.args.id c.requires.apart ∙ sym c.find.ensures ∙ c.in-Some.is))

pub returns-in-Some-clause-stands : goal.returns-in-Some-clause-stands
returns-in-Some-clause-stands g c =
    let hands = c.args.hands.now in
    let now = ground hands in
    let k : Kept = record { id = c.args.id; value = plain c.args.value } in
    stands_on _ hands
    (subst (λ (ks : List Kept). LocalsFit now ks) (sym c.replace.ensures.new) (pass_set (λ (x : Kept). fits now x.value) hands.locals c.in-Some.at k c.requires.fit.locals c.requires.value))
    c.requires.fit.site refl

pub returns-in-None-clause-meaning : goal.returns-in-None-clause-meaning
returns-in-None-clause-meaning g c = λ units.
    let names = c.args.code.now.names in
    let hands = c.args.hands.now in
    let s = state_of names hands units in
    let h : Held = record { name = name_of names c.args.id; value = plain c.args.value } in
    ap (λ (e : Exit). ended e s) c.fault.ensures
    ∙ sym (ap (λ (o : Option ℕ). found o WrongType c.args.place s (λ index. goes_on (with_locals (slice_set s.locals index h) s)))
    (newest_is names hands.locals c.args.id c.requires.apart ∙ sym c.find.ensures ∙ c.in-None.is))
