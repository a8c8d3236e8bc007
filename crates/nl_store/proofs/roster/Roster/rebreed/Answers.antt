use Rattle.std.specs.Prelude.{◌≤◌, length}
use Rattle.std.proofs.Common.{sym, subst}
use Rattle.nl_store_files.specs.Agents.{Agents}
use Rattle.nl_store.specs.Sound.{TurtlesAscend}
use Rattle.nl_store.proofs.Rosters.{middle-room, old-counted, turtle-rebred}
use Rattle.nl_store.proofs.roster.Roster.rebreed.Goals as goal

pub turtle_less-requires : goal.turtle_less-requires
turtle_less-requires c = old-counted c.self.inside.files c.self.inside.census c.self.inside.shape c.self.inside.breeds c.self.invariant c.args.turtle c.breed_of-was.result c.args.breed c.breed_of-was.ensures

pub turtle_more-requires-clause-room : goal.turtle_more-requires-clause-room
turtle_more-requires-clause-room c =
    middle-room c.self.inside.files c.self.inside.census c.self.inside.shape c.self.inside.breeds c.self.invariant c.args.turtle c.breed_of-was.result c.args.breed c.breed_of-was.ensures c.turtle_less.new.self
    (subst (λ (a : Agents). length a.turtles ≤ 200_000) (sym c.self.view_is) c.requires.few) c.turtle_less.ensures

pub invariant_of-self : goal.invariant_of-self
invariant_of-self c =
    turtle-rebred c.self.inside.files c.self.inside.census c.self.inside.shape c.self.inside.breeds c.self.invariant c.args.turtle c.breed_of-was.result c.args.breed c.breed_of-was.ensures c.rebreed_turtle.new.self c.turtle_less.new.self c.turtle_more.new.self c.args.layout.now
    (subst (λ (a : Agents). TurtlesAscend a.turtles) (sym c.self.view_is) c.requires.order)
    c.rebreed_turtle.ensures c.turtle_less.ensures c.turtle_more.ensures
