-- Codes, by which a proof tells settings and what is varied apart.
use Rattle.std.specs.Prelude.{◌≡◌, ℕ, ℤ, List, ◌⊎◌, refl}
use Rattle.std.proofs.Common.{inl, inr}
use Rattle.std.specs.Coded.{Coded, code_by, coded_list, coded_ℕ, coded_ℤ, coded×, coded⊎}
use Rattle.nl_fixed.specs.Nouns.{Name}
use Rattle.nl_value.specs.Plain.{Plain}
use Rattle.nl_value.specs.inner.Codes.{plain_code}
use Rattle.nl_experiment_sweep.specs.Varied.{PlainSetting}
use Rattle.nl_experiment_sweep.specs.declared.varied.Choice.{Choice}
use Rattle.nl_experiment_sweep.specs.declared.varied.Choice.TheVariants.{Listed, Stepped}
use Rattle.nl_experiment_sweep.specs.declared.varied.Vary.{Vary}

abbrev coded_name : Coded Name
coded_name = coded_list coded_ℕ

abbrev pub setting_code : Coded PlainSetting
setting_code = code_by (Name × Plain) (coded× coded_name plain_code) (λ s. (s.name, s.value)) (λ c. record { name = c.0; value = c.1 }) (λ _. refl)

abbrev Parts : Type 0
Parts = List Plain ⊎ (ℤ × (ℤ × ℕ))

abbrev parts_of : Choice → Parts
parts_of (Listed values) = inl values
parts_of (Stepped from step count) = inr (from, (step, count))

abbrev choice_of : Parts → Choice
choice_of (inl values) = Listed values
choice_of (inr parts) = Stepped parts.0 parts.1.0 parts.1.1

abbrev again : (choice : Choice) → choice_of (parts_of choice) ≡ choice
again (Listed values) = refl
again (Stepped from step count) = refl

abbrev pub choice_code : Coded Choice
choice_code = code_by Parts (coded⊎ (coded_list plain_code) (coded× coded_ℤ (coded× coded_ℤ coded_ℕ))) parts_of choice_of again

abbrev pub vary_code : Coded Vary
vary_code = code_by (Name × Choice) (coded× coded_name choice_code) (λ v. (v.name, v.choice)) (λ c. record { name = c.0; choice = c.1 }) (λ _. refl)
