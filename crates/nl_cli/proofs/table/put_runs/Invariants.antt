use Rattle.std.proofs.Common.{Ok}
use Rattle.std.specs.List.{range_with_len}
use Rattle.nl_cli.specs.Outcome.{given}
use Rattle.nl_cli.specs.inner.Stages.{Puts, job_in, rows_among}
use Rattle.nl_cli.proofs.table.put_runs.Given as goal

-- the rows so far were put
abbrev pub invariant-runs : goal.invariant-runs
invariant-runs g l = Puts (rows_among (job_in l.job) (range_with_len 1 l.done)) (given g.O.Sink.faults g.O.Sink.written l.initial.out l.out) (Ok tt)
