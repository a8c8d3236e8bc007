use Rattle.std.specs.Prelude.{find, IsSome}
use Rattle.std.proofs.Common.{subst}
use Rattle.nl_agents.specs.Changes.{is_turtle}
use Rattle.nl_store_files.specs.Agents.{Agents}
use Rattle.nl_store.proofs.Cutting.{fewer-turtles}
use Rattle.nl_store.proofs.roster.Roster.remove_all.Goals as goal

pub loop-turtle-smaller : goal.loop-turtle-smaller
loop-turtle-smaller c =
    fewer-turtles c.in-Some.turtle c.args.self.now c.loop-turtle.self c.remove.new.self c.remove.ensures
    (subst (λ (a : Agents). IsSome (find (is_turtle c.in-Some.turtle) a.turtles)) c.files.ensures c.in-Some.ensures.lives)
