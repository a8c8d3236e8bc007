use Rattle.std.proofs.Common.{◌≡◌, ◌+◌, map, drop}
use Rattle.std.specs.List.{position_or_len}
use Rattle.nl_value.specs.Equality.{same_values}
use Rattle.nl_value.specs.Views.{plain}
use Rattle.nl_listops_series.proofs.searches.place_of_item.Given as goal

abbrev pub invariant-loop-place : goal.invariant-loop-place
invariant-loop-place g l =
    let test = same_values (g.L.Life.living l.life) (plain l.value) in
    position_or_len test (map plain l.values) ≡ l.place + position_or_len test (map plain (drop l.place l.values))
