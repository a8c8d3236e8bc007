use Rattle.nl_agents_layout.proofs.SlotNames.{owned_have_slots, slots_are_apart, globals_keep_their_slots, layouts_tell_slots, color_and_heading_are_first}
use Rattle.nl_agents_layout.proofs.slot_laws.slots_are_names.Goals as goal

pub returns-clause-owned : goal.returns-clause-owned
returns-clause-owned c = owned_have_slots

pub returns-clause-apart : goal.returns-clause-apart
returns-clause-apart c = slots_are_apart

pub returns-clause-told : goal.returns-clause-told
returns-clause-told c = layouts_tell_slots

pub returns-clause-first : goal.returns-clause-first
returns-clause-first c = color_and_heading_are_first

pub returns-clause-globals : goal.returns-clause-globals
returns-clause-globals c = globals_keep_their_slots
