use Rattle.std.proofs.Common.{ap, sym, ◌∙◌}
use Rattle.nl_agentset.specs.Places.{turtles_on, some_patch}
use Rattle.nl_agentset.proofs.OnPatches.{none_on}
use Rattle.nl_agentset.proofs.standing.turtles_found.Goals as goal

pub returns-in-None-clause-list : goal.returns-in-None-clause-list
returns-in-None-clause-list g c =
    let r = (g.S.Store.world c.args.store.now).rest in
    c.empty.ensures ∙ none_on r c.args.breed ∙ ap (λ found. turtles_on r c.args.breed (some_patch found)) (sym c.in-None.is)
