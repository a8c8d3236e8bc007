use Rattle.std.proofs.Common.{refl}
use Rattle.nl_cli.specs.Outcome.{asked, given}
use Rattle.nl_cli.proofs.CourseSteps.{measure_runs}
use Rattle.nl_cli.proofs.top.course.Goals as goal

pub returns-in-Bench : goal.returns-in-Bench
returns-in-Bench g c =
    let files = asked g.F.Files.faults g.F.Files.last_fault g.F.Files.folder c.args.files.now c.args.files.now in
    let out = given g.O.Sink.faults g.O.Sink.written c.args.out.now c.bench.new.out in
    rw c.in-Bench.is (measure_runs c.in-Bench.size files out c.bench.result (record { faults = refl; last = refl }) c.bench.ensures)
