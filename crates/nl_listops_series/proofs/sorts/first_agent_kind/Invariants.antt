use Rattle.std.proofs.Common.{◌≡◌, map, take, []}
use Rattle.std.specs.List.{filter_map}
use Rattle.nl_value.specs.Views.{plain}
use Rattle.nl_listops_series.specs.Sorts.{agent_kind}
use Rattle.nl_listops_series.proofs.sorts.first_agent_kind.Given as goal

abbrev pub invariant-loop-value : goal.invariant-loop-value
invariant-loop-value g l = filter_map (agent_kind (g.L.Life.living l.life)) (map plain (take l.value-index l.values)) ≡ []
