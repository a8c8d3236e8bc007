-- What fits the ground fits the world.
use Rattle.std.proofs.Common.{◌∙◌, sym}
use Rattle.nl_value.specs.Views.{plain}
use Rattle.nl_exec_meaning.proofs.Grounds.{fits_is}
use Rattle.nl_exec_walks.proofs.agents.one_agent.Goals as goal

pub as_agent-requires : goal.as_agent-requires
as_agent-requires g c = sym (fits_is (g.S.Store.world c.args.hands.now.stage.store).rest (plain c.args.value.now)) ∙ c.requires
