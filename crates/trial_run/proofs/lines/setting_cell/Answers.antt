use Rattle.nl_value.specs.Views.{plain}
use Rattle.nl_value.proofs.Fitting.{fits_no_life}
use Rattle.trial_run.proofs.lines.setting_cell.Goals as goal

pub text-requires : goal.text-requires
text-requires c = fits_no_life (plain c.args.setting.now.value)
