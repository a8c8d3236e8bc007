-- The entries so far.
use Rattle.std.proofs.Common.{◌≡◌, take, map}
use Rattle.std.specs.Option.{option_map}
use Rattle.nl_value.specs.Views.{plain}
use Rattle.nl_agents.proofs.variables.Variables.copy.Given as goal

abbrev pub invariant-loop-entry : goal.invariant-loop-entry
invariant-loop-entry l = l.copied ≡ map (option_map plain) (take l.entry-index l.entry-items)
