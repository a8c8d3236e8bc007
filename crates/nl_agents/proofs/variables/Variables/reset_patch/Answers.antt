use Rattle.std.specs.Prelude.{◌≡◌, List, Some, map, length, slice_get, slice_set}
use Rattle.std.specs.Option.{option_map}
use Rattle.std.proofs.Common.{arith, ap, ap₂, ◌∙◌, sym, get_or}
use Rattle.nl_value.specs.Plain.{Plain}
use Rattle.std.proofs.lemmas.List.{length-map}
use Rattle.std.proofs.lemmas.Option.{slice_get-map, slice_get-get_or}
use Rattle.nl_agents_layout.specs.Nouns.{Slot}
use Rattle.nl_agents.specs.Nouns.{Vars}
use Rattle.nl_agents_layout.specs.BuiltIn.{first_of_patch}
use Rattle.nl_agents.specs.World.{first_patch_vars}
use Rattle.nl_agents.proofs.Splices.{spliced, spliced_length, all_spliced}
use Rattle.nl_agents.proofs.variables.Variables.reset_patch.Goals as goal

long : (slots : List Slot) → length (map (λ slot. Some (first_of_patch slot)) slots) ≡ length slots
long slots = length-map slots (λ slot. Some (first_of_patch slot))

pub replace-requires : goal.replace-requires
replace-requires c = omega (arith, ap length c.loop-at.invariant, spliced_length (first_patch_vars c.args.layout.now) c.args.self.now c.loop-at.at (c.requires ∙ sym (long c.args.layout.now.every_patch)), long c.args.layout.now.every_patch, ap length c.as_slice-slots.ensures.value, c.loop-at-test.true)

pub loop-at-preserved : goal.loop-at-preserved
loop-at-preserved c =
    let at = c.loop-at.at in
    let new = first_patch_vars c.args.layout.now in
    let slots = c.args.layout.now.every_patch in
    let read : slice_get slots at ≡ Some (get_or c.as_slice-slots.result.now at 0) =
    ap (λ (xs : List Slot). slice_get xs at) (sym c.as_slice-slots.ensures.value) ∙ slice_get-get_or c.as_slice-slots.result.now at 0 c.loop-at-test.true in
    let there : slice_get new at ≡ Some (Some (first_of_patch (get_or c.as_slice-slots.result.now at 0))) =
    slice_get-map (λ slot. Some (first_of_patch slot)) slots at ∙ ap (option_map (λ slot. Some (first_of_patch slot))) read in
    c.replace.ensures.new
    ∙ ap₂ (λ (vs : Vars) (value : Plain). slice_set vs at (Some value)) c.loop-at.invariant c.first_of_patch.ensures
    ∙ spliced new c.args.self.now at (Some (first_of_patch (get_or c.as_slice-slots.result.now at 0))) there (c.requires ∙ sym (long slots))

pub returns : goal.returns
returns c =
    let slots = c.args.layout.now.every_patch in
    c.loop-at.invariant
    ∙ all_spliced (first_patch_vars c.args.layout.now) c.args.self.now c.loop-at.at (c.requires ∙ sym (long slots)) (omega (arith, long slots, ap length c.as_slice-slots.ensures.value, c.loop-at-test.false, c.loop-at.auto.at-end))
