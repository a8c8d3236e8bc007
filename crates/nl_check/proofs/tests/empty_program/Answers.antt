use Rattle.std.proofs.Common.{refl}
use Rattle.nl_check.specs.inner.Samples.{empty_body}
use Rattle.nl_check.proofs.SampleModel.{empties_fit}
use Rattle.nl_check.proofs.tests.empty_program.Goals as goal

pub check-requires-clause-fit : goal.check-requires-clause-fit
check-requires-clause-fit c = empties_fit c.in_ok-model.model c.in_ok-bodies.bodies empty_body empty_body empty_body empty_body c.in_ok-bodies.ensures refl refl refl refl
