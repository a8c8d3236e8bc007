use Rattle.std.proofs.Common.{◌≡◌, ◌++◌, take}
use Rattle.nl_agents_layout.specs.inner.Numbering.{slots_of_breeds}
use Rattle.nl_agents_layout.proofs.numbering.add_breeds.Given as goal

abbrev pub invariant-loop-breed : goal.invariant-loop-breed
invariant-loop-breed l = l.list.items ≡ l.initial.list.items ++ slots_of_breeds l.program.declared l.link (take l.breed-index l.breeds)
