use Rattle.nl_value.specs.Views.{plain}
use Rattle.nl_value.proofs.Fitting.{fits_no_life}
use Rattle.nl_experiment_keys.proofs.literals.is_fitting.Goals as goal

pub text-requires : goal.text-requires
text-requires c = fits_no_life (plain c.args.value.now)
