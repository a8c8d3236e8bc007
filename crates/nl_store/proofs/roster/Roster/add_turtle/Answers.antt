use Rattle.std.specs.Prelude.{◌<◌, length}
use Rattle.std.proofs.Common.{sym, subst}
use Rattle.nl_store_files.specs.Agents.{Agents}
use Rattle.nl_store.proofs.Rosters.{room-for-turtle}
use Rattle.nl_store.proofs.roster.Roster.add_turtle.Goals as goal

pub turtle_more-requires-clause-room : goal.turtle_more-requires-clause-room
turtle_more-requires-clause-room c =
    room-for-turtle c.self.inside.files c.self.inside.census c.self.inside.shape c.self.inside.breeds c.self.invariant c.args.breed
    (subst (λ (a : Agents). length a.turtles < 200_000) (sym c.self.view_is) c.requires.few)
