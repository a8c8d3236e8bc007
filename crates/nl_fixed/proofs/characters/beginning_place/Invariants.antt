use Rattle.std.proofs.Common.{◌≡◌, ◌+◌, drop}
use Rattle.std.specs.Option.{option_map}
use Rattle.nl_fixed.specs.inner.Beginnings.{beginning_place}
use Rattle.nl_fixed.proofs.characters.beginning_place.Given as goal

abbrev pub invariant-loop-place : goal.invariant-loop-place
invariant-loop-place l = beginning_place l.bytes l.index ≡ option_map (λ k. l.place + k) (beginning_place (drop l.place l.bytes) l.left)
