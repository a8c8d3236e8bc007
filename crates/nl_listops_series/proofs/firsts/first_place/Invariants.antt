use Rattle.std.proofs.Common.{map}
use Rattle.nl_value.specs.Views.{plain}
use Rattle.nl_listops_series.proofs.FirstPlaces.{Leads, steps_left}
use Rattle.nl_listops_series.proofs.firsts.first_place.Given as goal

abbrev pub invariant-loop-candidate : goal.invariant-loop-candidate
invariant-loop-candidate g l = Leads (g.L.Life.living l.life) (map plain l.values) l.place l.candidate

abbrev pub decreases-loop-candidate : goal.decreases-loop-candidate
decreases-loop-candidate g l = steps_left l.candidate
