use Rattle.std.proofs.Common.{ℕ, List, []}
use Rattle.nl_store_records.specs.Records.{record_at}
use Rattle.nl_store_files.specs.Walks.{IsPath}
use Rattle.nl_store_files.specs.inner.Left.{IsLeft}
use Rattle.nl_store_files.proofs.walk.length.Given as goal

-- what is left to walk completes what was passed
abbrev pub invariant-loop-passed : goal.invariant-loop-passed
invariant-loop-passed g l =
    (keys : List ℕ) → IsPath l.chain (record_at l.records) l.fn.first keys →
    (now : List ℕ) × IsLeft l.chain (record_at l.records) l.here keys [] now l.fn.steps l.steps l.passed
