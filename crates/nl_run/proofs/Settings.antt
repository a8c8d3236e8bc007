-- Values that can be written down fit every world.
use Rattle.std.proofs.Common.{◌≡◌, ℕ, Bool, true, false, refl, IsTrue}
use Rattle.std.specs.Cmp.{first_so, second_so}
use Rattle.std.specs.Cmp.Derive.{both_true}
use Rattle.nl_value.specs.Fit.{value_fits, values_fit}
use Rattle.nl_value.specs.Plain.{Plain, Plains, PlainNumber, PlainTruth, PlainWords, PlainItems, PlainTurtle, PlainPatch, PlainLink, PlainNobody, PlainSet, no_items, item_then}
use Rattle.nl_value.specs.declared.sets.AgentSet.{AgentSet}
use Rattle.nl_agents.specs.Names.{patch_fits, set_fits}
use Rattle.nl_agents.specs.Standing.{fits_rest}
use Rattle.nl_agents.specs.World.{Rest}
use Rattle.nl_experiment_fields.specs.Written.{is_written}

module _ (patch : ℕ → Bool) (set : AgentSet → Bool) where
  mutual
    fits : (v : Plain) → is_written v ≡ true → value_fits patch set v ≡ true
    fits (PlainItems items) all = all_fit items all
    fits (PlainPatch number) all = absurd (cc)
    fits (PlainSet members) all = absurd (cc)
    fits (PlainNumber count) all = refl
    fits (PlainTruth truth) all = refl
    fits (PlainWords bytes) all = refl
    fits (PlainTurtle turtle) all = refl
    fits (PlainLink link) all = refl
    fits PlainNobody all = refl

    all_fit : (vs : Plains) → values_fit (λ number. false) (λ members. false) vs ≡ true → values_fit patch set vs ≡ true
    all_fit no_items all = refl
    all_fit (item_then v vs) all =
        both_true (fits v (first_so (is_written v) (values_fit (λ number. false) (λ members. false) vs) all))
        (all_fit vs (second_so (is_written v) (values_fit (λ number. false) (λ members. false) vs) all))

pub fits_each : (r : Rest) (v : Plain) → is_written v ≡ true → IsTrue (fits_rest r v)
fits_each r v all = fits (patch_fits r) (set_fits r) v all
