use Rattle.std.proofs.Common.{refl}
use Rattle.std.proofs.lemmas.Result.{err_from_is_err_and}
use Rattle.nl_cli.specs.Outcome.{asked, given}
use Rattle.nl_cli.specs.Words.{paths_in, task_in}
use Rattle.nl_cli.specs.inner.Stages.{job_in}
use Rattle.nl_cli.proofs.CourseSteps.{inputs_stop, task_runs}
use Rattle.nl_cli.proofs.PutSteps.{Appended-nothing}
use Rattle.nl_cli.proofs.top.over.Goals as goal

pub returns-in_err-job : goal.returns-in_err-job
returns-in_err-job g c =
    let p = err_from_is_err_and c.from_residual.result c.from_residual.ensures.1 in
    let files = asked g.F.Files.faults g.F.Files.last_fault g.F.Files.folder c.args.files.now c.gather.new.files in
    let out = given g.O.Sink.faults g.O.Sink.written c.args.out.now c.args.out.now in
    rw (p.1, p.2) (inputs_stop (paths_in c.args.paths.now) (task_in c.args.task.now) files out c.in_err-job.field-0.0
    (record { sound = refl; nothing = Appended-nothing (g.O.Sink.written c.args.out.now) }) c.in_err-job.ensures)

pub returns : goal.returns
returns g c =
    let files = asked g.F.Files.faults g.F.Files.last_fault g.F.Files.folder c.args.files.now c.gather.new.files in
    let out = given g.O.Sink.faults g.O.Sink.written c.args.out.now c.done.new.out in
    task_runs (paths_in c.args.paths.now) (task_in c.args.task.now) files out (job_in c.in_ok-job.job) c.done.result c.in_ok-job.ensures.0 c.in_ok-job.ensures.2 c.done.ensures
