use Rattle.std.proofs.Common.{◌≡◌, take, map}
use Rattle.nl_agents_layout.specs.Layouts.{breed_layout}
use Rattle.nl_agents_layout.proofs.numbering.breeds_of.Given as goal

abbrev pub invariant-loop-breed : goal.invariant-loop-breed
invariant-loop-breed l = l.kept ≡ map (breed_layout l.program.declared) (take l.breed-index l.breeds)
