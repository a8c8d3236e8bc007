use Rattle.nl_value.proofs.Fitting.{fits_no_life}
use Rattle.nl_value.proofs.laws.every_value_fits_no_life.Goals as goal

pub returns : goal.returns
returns c = fits_no_life
