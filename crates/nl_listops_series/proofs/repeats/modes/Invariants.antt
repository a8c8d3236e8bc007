use Rattle.std.proofs.Common.{◌≡◌, ◌==◌, map, take, filter}
use Rattle.nl_value.specs.Views.{plain}
use Rattle.nl_listops_series.specs.Searches.{each_once, times_in}
use Rattle.nl_listops_series.proofs.repeats.modes.Given as goal

abbrev pub invariant-loop-place : goal.invariant-loop-place
invariant-loop-place g l =
    let w = g.L.Life.living l.life in
    let items = map plain l.values in
    l.modes ≡ filter (λ item. times_in w items item == l.most) (each_once w (take l.place items))
