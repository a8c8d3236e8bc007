use Rattle.std.proofs.Common.{refl}
use Rattle.std.proofs.lemmas.Result.{err_from_is_err_and}
use Rattle.nl_cli.specs.Outcome.{given}
use Rattle.nl_cli.specs.inner.Stages.{job_in}
use Rattle.nl_cli.proofs.CourseSteps.{measure_puts, measure_stops}
use Rattle.nl_cli.proofs.PutSteps.{Appended-nothing}
use Rattle.nl_cli.proofs.top.bench.Goals as goal

pub returns-in_err-job : goal.returns-in_err-job
returns-in_err-job g c =
    let p = err_from_is_err_and c.from_residual.result c.from_residual.ensures.1 in
    let out = given g.O.Sink.faults g.O.Sink.written c.args.out.now c.args.out.now in
    rw (p.1, p.2) (measure_stops c.args.size out c.in_err-job.field-0.0
    (record { sound = refl; nothing = Appended-nothing (g.O.Sink.written c.args.out.now) }) c.in_err-job.ensures)

pub returns : goal.returns
returns g c =
    let out = given g.O.Sink.faults g.O.Sink.written c.args.out.now c.put_summary.new.out in
    measure_puts c.args.size _ out (job_in c.in_ok-job.job) c.put_summary.result refl c.in_ok-job.ensures.1 c.put_summary.ensures
