use Rattle.std.proofs.Common.{refl, sym}
use Rattle.nl_cli.specs.Words.{command_in}
use Rattle.nl_cli.specs.Outcome.{asked, given}
use Rattle.nl_cli.proofs.Outcomes.{complete_of, outcome_done, outcome_told}
use Rattle.nl_cli.proofs.PutSteps.{Appended-nothing}
use Rattle.nl_cli.proofs.top.run.Goals as goal

pub course-requires-clause-served : goal.course-requires-clause-served
course-requires-clause-served g c = c.requires (command_in c.in-Some.command) (sym c.in-Some.ensures.command)

pub returns-in-Err-clause-outcome : goal.returns-in-Err-clause-outcome
returns-in-Err-clause-outcome g c =
    let files = asked g.F.Files.faults g.F.Files.last_fault g.F.Files.folder c.args.files.now c.course.new.files in
    let out = given g.O.Sink.faults g.O.Sink.written c.args.out.now c.course.new.out in
    let err = given g.E.Sink.faults g.E.Sink.written c.args.err.now c.tell.new.err in
    outcome_told c.args.words.now (command_in c.in-Some.command) files out err c.in-Err.end c.tell.result (sym c.in-Some.ensures.command) c.in-Err.ensures
    (rw c.paths_for.ensures at c.tell.ensures)

pub returns-in-Ok-clause-outcome : goal.returns-in-Ok-clause-outcome
returns-in-Ok-clause-outcome g c =
    let files = asked g.F.Files.faults g.F.Files.last_fault g.F.Files.folder c.args.files.now c.course.new.files in
    let out = given g.O.Sink.faults g.O.Sink.written c.args.out.now c.course.new.out in
    let err = given g.E.Sink.faults g.E.Sink.written c.args.err.now c.args.err.now in
    outcome_done c.args.words.now (command_in c.in-Some.command) files out err (sym c.in-Some.ensures.command) c.in-Ok.ensures
    (record { sound = refl; nothing = Appended-nothing (g.E.Sink.written c.args.err.now) })

pub returns-in-Err-clause-complete : goal.returns-in-Err-clause-complete
returns-in-Err-clause-complete g c =
    let files = asked g.F.Files.faults g.F.Files.last_fault g.F.Files.folder c.args.files.now c.course.new.files in
    let out = given g.O.Sink.faults g.O.Sink.written c.args.out.now c.course.new.out in
    let err = given g.E.Sink.faults g.E.Sink.written c.args.err.now c.tell.new.err in
    complete_of c.args.words.now files out err c.tell.result (returns-in-Err-clause-outcome g c)
