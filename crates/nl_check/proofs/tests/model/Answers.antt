use Rattle.nl_check.proofs.SampleModel.{sample_names}
use Rattle.nl_check.proofs.tests.model.Goals as goal

pub returns-clause-names : goal.returns-clause-names
returns-clause-names c = rw (c.empty.ensures, c.empty-2.ensures, c.empty-3.ensures, c.empty-4.ensures, c.empty-5.ensures, c.empty-6.ensures, c.in_ok-procedures.ensures) (sample_names c.in_ok-index.index c.in_ok-index.ensures)
