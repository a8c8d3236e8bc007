use Rattle.std.proofs.Common.{◌≡◌, ◌<◌, ℕ, length}
use Rattle.std.specs.List.{slice_index_or}
use Rattle.nl_check.proofs.reach.all_places.Given as goal

abbrev pub invariant-loop-place : goal.invariant-loop-place
invariant-loop-place l = record {
  many : length l.places.items ≡ l.place;
  each : (k : ℕ) (d : ℕ) → k < l.place → slice_index_or l.places.items k d ≡ k;
}
