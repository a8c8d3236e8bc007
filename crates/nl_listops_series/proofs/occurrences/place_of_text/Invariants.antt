use Rattle.std.proofs.Common.{◌≡◌, ◌≤◌, ◌-◌, drop, length}
use Rattle.nl_fixed.specs.Characters.{characters}
use Rattle.nl_listops_series.specs.Searches.{found_from}
use Rattle.nl_listops_series.proofs.occurrences.place_of_text.Given as goal

abbrev pub decreases-loop-place : goal.decreases-loop-place
decreases-loop-place l = length l.bytes - l.place

abbrev pub invariant-loop-place : goal.invariant-loop-place
invariant-loop-place l = record {
  found : found_from 0 (characters l.part) (characters l.bytes) ≡ found_from l.index (characters l.part) (characters (drop l.place l.bytes));
  counted : l.index ≤ l.place;
  within : l.place ≤ length l.bytes;
}
