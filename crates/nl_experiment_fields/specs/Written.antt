-- Values that can be written down: they name no patch and no set, so they fit every world.
use Rattle.std.specs.Prelude.{◌≡◌, Bool, true, false, List}
use Rattle.std.specs.List.{list_all}
use Rattle.nl_value.specs.Fit.{value_fits}
use Rattle.nl_value.specs.Plain.{Plain}
use Rattle.nl_experiment_sweep.specs.Varied.{PlainSetting}
use Rattle.nl_experiment_sweep.specs.declared.varied.Choice.{Choice}
use Rattle.nl_experiment_sweep.specs.declared.varied.Choice.TheVariants.{Listed, Stepped}
use Rattle.nl_experiment_fields.specs.declared.fields.Fields.{Fields}

abbrev pub is_written : Plain → Bool
is_written value = value_fits (λ patch. false) (λ set. false) value

abbrev pub all_written : List PlainSetting → Bool
all_written settings = list_all (λ s. is_written s.value) settings

abbrev pub is_written_choice : Choice → Bool
is_written_choice (Listed values) = list_all is_written values
is_written_choice (Stepped from step count) = true

-- the values that an experiment sets, and those that it varies, are written down in its file
pub record AreWritten (f : Fields) : Type 0 where
  pub globals : all_written f.globals ≡ true
  pub vary : list_all (λ v. is_written_choice v.choice) f.vary ≡ true
