use Rattle.std.proofs.Common.{◌≡◌, take}
use Rattle.nl_agents_layout.proofs.layout.BreedLayouts.copy.Given as goal

abbrev pub invariant-loop-breed : goal.invariant-loop-breed
invariant-loop-breed l = l.copied ≡ take l.breed-index l.self
