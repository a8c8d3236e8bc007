use Rattle.std.proofs.Common.{◌≡◌, ◌+◌, ◌∷◌, length}
use Rattle.std.specs.List.{flat_map, range_with_len}
use Rattle.nl_cli.specs.Table.{last_line, run_lines}
use Rattle.nl_cli.specs.inner.Stages.{columns_in, job_in, rows_among}
use Rattle.nl_cli.proofs.summary.counted_runs.Given as goal

-- the bytes of the rows so far, and the last line of the header and of them
abbrev pub invariant-runs : goal.invariant-runs
invariant-runs g l =
    let job = job_in l.job in
    (l.bytes ≡ l.header + length (rows_among job (range_with_len 1 l.done)))
    × (l.last ≡ last_line (columns_in job ∷ flat_map (run_lines job) (range_with_len 1 l.done)))
