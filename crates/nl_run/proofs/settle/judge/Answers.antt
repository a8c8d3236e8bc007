-- A value that is no truth is an error at the first word of the condition.
use Rattle.std.proofs.Common.{Bool, ap, ◌∙◌, sym}
use Rattle.std.specs.Prelude.{Option}
use Rattle.nl_run.specs.Calls.{called_name}
use Rattle.nl_run.specs.Plans.{job_in, lone_seen}
use Rattle.nl_run.specs.inner.Cells.{truth_or}
use Rattle.nl_run.proofs.settle.judge.Goals as goal

pub returns-in_ok-end-in-None : goal.returns-in_ok-end-in-None
returns-in_ok-end-in-None c = λ s next.
    c.in_ok-end-in-None.ensures s
    ∙ ap (λ (t : Option Bool). truth_or t (job_in c.args.plan.now) (called_name c.args.called) (lone_seen c.args.text) s next) (sym c.in-None.is)
