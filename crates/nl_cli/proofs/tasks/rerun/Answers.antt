use Rattle.std.proofs.Common.{refl, sym, ◌∙◌}
use Rattle.nl_cli.specs.Outcome.{given}
use Rattle.nl_cli.specs.inner.Stages.{job_in}
use Rattle.nl_cli.proofs.CourseSteps.{named_is_run, rerun_goes, rerun_stops}
use Rattle.nl_cli.proofs.PutSteps.{Appended-nothing}
use Rattle.nl_cli.proofs.tasks.rerun.Goals as goal

pub put_run-requires-clause-run : goal.put_run-requires-clause-run
put_run-requires-clause-run g c = named_is_run (job_in c.args.job.now) c.args.digits.now c.in-Ok.number (sym c.in-Ok.is ∙ c.run_number.ensures)

pub returns-in-Ok : goal.returns-in-Ok
returns-in-Ok g c =
    let sink = given g.O.Sink.faults g.O.Sink.written c.args.out.now c.put_run.new.out in
    rerun_goes (job_in c.args.job.now) c.args.digits.now c.in-Ok.number sink c.put_run.result (sym c.in-Ok.is ∙ c.run_number.ensures) c.put_run.ensures

pub returns-in-Err : goal.returns-in-Err
returns-in-Err g c =
    let sink = given g.O.Sink.faults g.O.Sink.written c.args.out.now c.args.out.now in
    rerun_stops (job_in c.args.job.now) c.args.digits.now c.in-Err.kind sink c.no_run.result (sym c.in-Err.is ∙ c.run_number.ensures) c.no_run.ensures
    (record { sound = refl; nothing = Appended-nothing (g.O.Sink.written c.args.out.now) })
