-- The condition is judged where the stream was put back.
use Rattle.std.proofs.Common.{Bool, Result, ap, ◌∙◌, sym}
use Rattle.nl_exec_acts.specs.Stage.{Scene}
use Rattle.nl_run.specs.Course.{after_when, put_back, steps}
use Rattle.nl_run.specs.Left.{standing, stands}
use Rattle.nl_run.specs.Plans.{job_in}
use Rattle.nl_run.specs.declared.rows.RunEnd.{RunEnd}
use Rattle.nl_run.specs.inner.Cells.{goes_or_ends}
use Rattle.nl_run.proofs.settle.settle_when.Goals as goal

pub returns-in_ok-phase-in-Ok-clause-rest : goal.returns-in_ok-phase-in-Ok-clause-rest
returns-in_ok-phase-in-Ok-clause-rest g c = λ n.
    let j = job_in c.args.plan.now in
    let now = c.args.progress.now in
    c.in_ok-phase-in-Ok.ensures.rest n
    ∙ ap (λ (s : Scene). after_when j (steps j) c.in-Ok.truth (standing s n now.step now.rows)) c.put_back.ensures.stream
    ∙ ap (λ (r : Result Bool RunEnd). goes_or_ends r (put_back c.args.asked_at (stands now n)) (after_when j (steps j))) (sym c.in-Ok.is)
    ∙ c.in_ok-how.ensures c.args.asked_at (stands now n) (after_when j (steps j))

pub returns-in-Err-clause-rest : goal.returns-in-Err-clause-rest
returns-in-Err-clause-rest g c = λ n.
    let j = job_in c.args.plan.now in
    let now = c.args.progress.now in
    ap (λ (r : Result Bool RunEnd). goes_or_ends r (put_back c.args.asked_at (stands now n)) (after_when j (steps j))) (sym c.in-Err.is)
    ∙ c.in_ok-how.ensures c.args.asked_at (stands now n) (after_when j (steps j))
