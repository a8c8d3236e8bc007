use Rattle.std.proofs.Common.{◌≡◌, ◌++◌, take}
use Rattle.nl_agents_layout.specs.inner.Numbering.{slots_named}
use Rattle.nl_agents_layout.proofs.numbering.add_named.Given as goal

abbrev pub invariant-loop-name : goal.invariant-loop-name
invariant-loop-name l = l.list.items ≡ l.initial.list.items ++ slots_named l.program.declared (take l.name-index l.names)
