-- The member is an agent of the world.
use Rattle.std.proofs.Common.{IsTrue, [], ◌∷◌, refl, sym, subst}
use Rattle.nl_agents.specs.declared.agents.Owner.{Owner}
use Rattle.nl_exec_meaning.specs.Ground.{agent_fits}
use Rattle.nl_exec_meaning.specs.Seen.{ground}
use Rattle.nl_exec_walks.proofs.Members.{member_small, member_agent_fits}
use Rattle.nl_exec_walks.proofs.answering.agent_of.Goals as goal

pub owner_of-requires : goal.owner_of-requires
owner_of-requires g c =
    member_small (g.S.Store.world c.args.hands.now.stage.store) c.args.which (c.args.member ∷ []) 0 c.args.member c.shape-stands.ensures.stands c.requires refl

pub returns-clause-fits : goal.returns-clause-fits
returns-clause-fits g c =
    let now = ground c.args.hands.now in
    subst (λ (o : Owner). IsTrue (agent_fits now o)) (sym c.owner_of.ensures)
    (member_agent_fits now c.args.which (c.args.member ∷ []) 0 c.args.member c.requires refl)
