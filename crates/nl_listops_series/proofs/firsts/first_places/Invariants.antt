use Rattle.std.proofs.Common.{◌≡◌, ℕ, map, take}
use Rattle.std.specs.Ordering.{nat_cmp}
use Rattle.std.specs.BTreeMap.{get}
use Rattle.nl_value.specs.Views.{plain}
use Rattle.nl_listops_series.specs.inner.Firsts.{first_place, IsLatest, IsChained}
use Rattle.nl_listops_series.proofs.firsts.first_places.Given as goal

abbrev pub invariant-loop-place : goal.invariant-loop-place
invariant-loop-place g l =
    let w = g.L.Life.living l.life in
    let items = map plain l.values in
    record {
      so_far : l.places.items ≡ map (first_place w items) (take l.place items);
      chained : IsChained w items l.place l.earlier.items;
      latest : (digest : ℕ) → IsLatest w items digest l.place (get nat_cmp l.latest digest);
    }
