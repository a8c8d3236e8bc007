use Rattle.std.proofs.Common.{◌≡◌, map, drop}
use Rattle.nl_value.specs.Views.{plain}
use Rattle.nl_agentset.specs.Places.{offsets_in}
use Rattle.nl_agentset.proofs.Offsets.{behind}
use Rattle.nl_agentset.proofs.standing.offsets_in.Given as goal

abbrev pub invariant-loop-value : goal.invariant-loop-value
invariant-loop-value l = offsets_in (map plain l.values) ≡ behind l.offsets.items (offsets_in (map plain (drop l.value-index l.values)))
