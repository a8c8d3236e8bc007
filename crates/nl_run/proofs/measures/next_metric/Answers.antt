-- What comes behind the metrics needs no open text.
use Rattle.nl_run.specs.Plans.{job_in}
use Rattle.nl_run.proofs.measures.next_metric.Goals as goal

pub returns-in_default-clause-ready : goal.returns-in_default-clause-ready
returns-in_default-clause-ready g c =
    c.behind_measure.ensures.ready (job_in c.args.plan.now) c.requires.program c.requires.closed c.requires.steps c.requires.begun
