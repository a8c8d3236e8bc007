use Rattle.std.proofs.lemmas.Result.{err_from_is_err_and}
use Rattle.nl_cli.specs.Outcome.{given}
use Rattle.nl_cli.specs.Table.{header_of, run_numbers, table_text}
use Rattle.nl_cli.specs.inner.Stages.{job_in, rows_among}
use Rattle.nl_cli.proofs.PutSteps.{Puts-stops, Puts-then}
use Rattle.nl_cli.proofs.table.put_table.Goals as goal

pub returns-in_err-put_header : goal.returns-in_err-put_header
unfolding table_text
returns-in_err-put_header g c =
    let p = err_from_is_err_and c.from_residual.result c.from_residual.ensures.1 in
    let job = job_in c.args.job.now in
    let sink = given g.O.Sink.faults g.O.Sink.written c.args.out.now c.put_header.new.out in
    rw (p.1, p.2) (Puts-stops sink (header_of c.args.model.now job) (rows_among job (run_numbers job)) c.in_err-put_header.field-0.0 c.in_err-put_header.ensures)

pub returns : goal.returns
unfolding table_text
returns g c =
    let faults = g.O.Sink.faults in
    let written = g.O.Sink.written in
    let job = job_in c.args.job.now in
    Puts-then (faults c.args.out.now) (faults c.put_header.new.out) (faults c.put_runs.new.out) (written c.args.out.now) (written c.put_header.new.out) (written c.put_runs.new.out)
    (header_of c.args.model.now job) (rows_among job (run_numbers job)) c.put_runs.result c.in_ok-put_header.ensures c.put_runs.ensures
