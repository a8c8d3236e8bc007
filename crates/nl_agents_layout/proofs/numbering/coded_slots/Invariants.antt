use Rattle.std.proofs.Common.{◌≡◌, take}
use Rattle.std.specs.List.{filter_map}
use Rattle.nl_agents_layout.specs.inner.Numbering.{coded_named}
use Rattle.nl_agents_layout.proofs.numbering.coded_slots.Given as goal

abbrev pub invariant-loop-name : goal.invariant-loop-name
invariant-loop-name l = l.list.items ≡ filter_map (coded_named l.program.declared l.globals) (take l.name-index l.names)
