use Rattle.std.specs.Prelude.{◌<◌, length, true, false}
use Rattle.std.proofs.Common.{sym, subst}
use Rattle.nl_store_files.specs.Agents.{Agents}
use Rattle.nl_store.proofs.Rosters.{room-for-link}
use Rattle.nl_store.proofs.roster.Roster.add_link.Goals as goal

pub link_more-requires-clause-directed : goal.link_more-requires-clause-directed
link_more-requires-clause-directed c =
    room-for-link c.self.inside.files c.self.inside.census c.self.inside.shape c.self.inside.breeds c.self.invariant true
    (subst (λ (a : Agents). length a.links < 400_000) (sym c.self.view_is) c.requires.few)

pub link_more-requires-clause-undirected : goal.link_more-requires-clause-undirected
link_more-requires-clause-undirected c =
    room-for-link c.self.inside.files c.self.inside.census c.self.inside.shape c.self.inside.breeds c.self.invariant false
    (subst (λ (a : Agents). length a.links < 400_000) (sym c.self.view_is) c.requires.few)
