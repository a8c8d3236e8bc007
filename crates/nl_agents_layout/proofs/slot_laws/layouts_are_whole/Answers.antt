use Rattle.nl_agents_layout.proofs.SlotNames.{slots_are_below, owners_are_some}
use Rattle.nl_agents_layout.proofs.slot_laws.layouts_are_whole.Goals as goal

pub returns-clause-below : goal.returns-clause-below
returns-clause-below c = slots_are_below

pub returns-clause-some : goal.returns-clause-some
returns-clause-some c = owners_are_some
