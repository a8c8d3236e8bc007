use Rattle.std.proofs.Common.{ℕ, Err, subst}
use Rattle.std.proofs.lemmas.Result.{err_from_is_err_and}
use Rattle.nl_cli.specs.Outcome.{given}
use Rattle.nl_cli.specs.inner.Stages.{Puts, job_in}
use Rattle.nl_cli.proofs.RowSteps.{rows_upto, runs_more, runs_stop}
use Rattle.nl_cli.proofs.table.put_runs.Goals as goal

pub returns-in_err-put_run : goal.returns-in_err-put_run
returns-in_err-put_run g c =
    let p = err_from_is_err_and c.from_residual.result c.from_residual.ensures.1 in
    let faults = g.O.Sink.faults in
    let written = g.O.Sink.written in
    let job = job_in c.args.job.now in
    let sink = given faults written c.args.out.now c.put_run.new.out in
    let P : ℕ → Type 0 = λ m. Puts (rows_upto job m) sink (Err c.in_err-put_run.field-0.0) in
    rw (p.1, p.2) (subst P c.runs-done-end.ensures.count (runs_stop job c.runs.done c.runs-done-end.result
    (faults c.args.out.now) (faults c.runs.out) (faults c.put_run.new.out) (written c.args.out.now) (written c.runs.out) (written c.put_run.new.out)
    c.in_err-put_run.field-0.0 c.runs-test.true c.runs.invariant c.in_err-put_run.ensures))

pub runs-preserved : goal.runs-preserved
runs-preserved g c =
    let faults = g.O.Sink.faults in
    let written = g.O.Sink.written in
    runs_more (job_in c.args.job.now) c.runs.done (faults c.args.out.now) (faults c.runs.out) (faults c.put_run.new.out) (written c.args.out.now) (written c.runs.out) (written c.put_run.new.out)
    c.runs.invariant c.in_ok-put_run.ensures
