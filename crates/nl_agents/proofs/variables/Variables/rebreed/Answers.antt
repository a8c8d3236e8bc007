use Rattle.std.specs.Prelude.{◌≡◌, ℕ, ◌<◌, ◌++◌, take, drop, Bool, List, Option, Some, None, length, slice_get, slice_set}
use Rattle.std.specs.Option.{option_map}
use Rattle.std.proofs.Common.{arith, ap, ap₂, ◌∙◌, sym, get_or}
use Rattle.std.proofs.lemmas.List.{set-set, length-set}
use Rattle.std.proofs.lemmas.Option.{slice_get-get_or}
use Rattle.nl_value.specs.Plain.{Plain}
use Rattle.nl_value.specs.Views.{plain}
use Rattle.nl_agents_layout.specs.Nouns.{Slot, Slots}
use Rattle.nl_agents.specs.Nouns.{Vars}
use Rattle.nl_agents_layout.specs.Layouts.{turtle_owns}
use Rattle.nl_agents.specs.Changes.{bred_entry, bred_entries}
use Rattle.nl_agents.proofs.Splices.{spliced, spliced_length, all_spliced, not_yet, bred_at, bred_length}
use Rattle.nl_agents.proofs.variables.Variables.rebreed.Goals as goal

-- how many entries there are half way
long : (owns : Slot → Bool) (slots read : Slots) (old now : Vars) (at : ℕ) → length old ≡ length slots → read ≡ slots
    → now ≡ take at (bred_entries owns slots old) ++ drop at old → at < length read → at < length now
long owns slots read old now at h e i l =
    omega (arith, ap length i, spliced_length (bred_entries owns slots old) old at (h ∙ sym (bred_length owns slots old h)), bred_length owns slots old h, ap length e, l)

pub replace-old-requires : goal.replace-old-requires
replace-old-requires c = long (turtle_owns c.args.layout.now c.args.breed) c.args.layout.now.some_turtle c.as_slice-slots.result.now c.args.self.now c.loop-at.self c.loop-at.at c.requires c.as_slice-slots.ensures.value c.loop-at.invariant c.loop-at-test.true

pub replace-requires : goal.replace-requires
replace-requires c =
    let l = long (turtle_owns c.args.layout.now c.args.breed) c.args.layout.now.some_turtle c.as_slice-slots.result.now c.args.self.now c.loop-at.self c.loop-at.at c.requires c.as_slice-slots.ensures.value c.loop-at.invariant c.loop-at-test.true in
    omega (arith, ap length c.replace-old.ensures.new, length-set c.loop-at.self c.loop-at.at None, l)

pub loop-at-preserved : goal.loop-at-preserved
loop-at-preserved c =
    let at = c.loop-at.at in
    let slots = c.args.layout.now.some_turtle in
    let owns = turtle_owns c.args.layout.now c.args.breed in
    let old = c.args.self.now in
    let new = bred_entries owns slots old in
    let slot = get_or c.as_slice-slots.result.now at 0 in
    let entry : Option Plain = option_map plain c.replace-old.result in
    let many : length old ≡ length new = c.requires ∙ sym (bred_length owns slots old c.requires) in
    let read : slice_get slots at ≡ Some slot =
    ap (λ (xs : List Slot). slice_get xs at) (sym c.as_slice-slots.ensures.value) ∙ slice_get-get_or c.as_slice-slots.result.now at 0 c.loop-at-test.true in
    let stood : slice_get old at ≡ Some entry =
    not_yet new old at entry (ap (λ (vs : Vars). slice_get vs at) (sym c.loop-at.invariant) ∙ c.replace-old.ensures.old) many in
    let there : slice_get new at ≡ Some (bred_entry (owns slot) entry) = bred_at owns slots old at slot entry read stood in
    c.replace.ensures.new
    ∙ ap₂ (λ (vs : Vars) (e : Option Plain). slice_set vs at e) c.replace-old.ensures.new (c.bred.ensures ∙ ap (λ (b : Bool). bred_entry b entry) c.turtle_owns-owned.ensures)
    ∙ set-set c.loop-at.self at None (bred_entry (owns slot) entry)
    ∙ ap (λ (vs : Vars). slice_set vs at (bred_entry (owns slot) entry)) c.loop-at.invariant
    ∙ spliced new old at (bred_entry (owns slot) entry) there many

pub returns : goal.returns
returns c =
    let slots = c.args.layout.now.some_turtle in
    let owns = turtle_owns c.args.layout.now c.args.breed in
    let bred = bred_length owns slots c.args.self.now c.requires in
    c.loop-at.invariant
    ∙ all_spliced (bred_entries owns slots c.args.self.now) c.args.self.now c.loop-at.at (c.requires ∙ sym bred) (omega (arith, bred, ap length c.as_slice-slots.ensures.value, c.loop-at-test.false, c.loop-at.auto.at-end))
