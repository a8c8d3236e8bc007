use Rattle.std.proofs.Common.{◌≡◌, ◌≤◌, ◌-◌, ◌++◌, drop, length}
use Rattle.std.specs.List.{concat}
use Rattle.nl_fixed.specs.Characters.{characters}
use Rattle.nl_listops_series.specs.Searches.{left_without}
use Rattle.nl_listops_series.proofs.occurrences.text_without.Given as goal

abbrev pub decreases-loop-place : goal.decreases-loop-place
decreases-loop-place l = length l.bytes - l.place

abbrev pub invariant-loop-place : goal.invariant-loop-place
invariant-loop-place l = record {
  so_far : concat (left_without 0 (characters l.part) (characters l.bytes)) ≡ l.rest ++ concat (left_without 0 (characters l.part) (characters (drop l.place l.bytes)));
  within : l.place ≤ length l.bytes;
}
