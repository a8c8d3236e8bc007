use Rattle.std.specs.Prelude.{find, IsSome}
use Rattle.std.proofs.Common.{subst}
use Rattle.nl_agents.specs.Changes.{is_link}
use Rattle.nl_store_files.specs.Agents.{Agents}
use Rattle.nl_store.proofs.Cutting.{fewer-links}
use Rattle.nl_store.proofs.roster.Roster.clear_links.Goals as goal

pub loop-link-smaller : goal.loop-link-smaller
loop-link-smaller c =
    fewer-links 0 c.in-Some.link c.args.self.now c.loop-link.self c.cut.new.self c.cut.ensures
    (subst (λ (a : Agents). IsSome (find (is_link c.in-Some.link) a.links)) c.files.ensures c.in-Some.ensures.lives)
