use Rattle.std.specs.Prelude.{ℕ, ◌<◌, ◌+◌, ◌++◌, ◌∷◌, []}
use Rattle.std.proofs.Common.{◌∙◌, ap, refl, subst, sym}
use Rattle.nl_agents.specs.Nouns.{Vars}
use Rattle.nl_agents.specs.Changes.{birth_vars}
use Rattle.nl_agents.specs.Standing.{IsWorld}
use Rattle.nl_agents.specs.declared.agents.Turtle.{Turtle}
use Rattle.nl_agents.proofs.Worlds.{born_is_world}
use Rattle.nl_store_files.specs.Agents.{Agents}
use Rattle.nl_store.specs.Held.{world_in}
use Rattle.nl_store.specs.Worlds.{birth_vars_among, world_with, AreOf}
use Rattle.nl_store.proofs.Holds.{either-way, parent-found, room-for-turtles, still-of}
use Rattle.nl_store.proofs.indexed.IndexedStore.bear.Goals as goal

pub invariant_of-self-2 : goal.invariant_of-self-2
invariant_of-self-2 c =
    let s = c.args.self.now in
    let a = s.roster in
    let turtle : Vars → Turtle = λ vars. record { serial = a.turtles_given; breed = c.args.breed; at = c.args.at; vars = vars } in
    let joined : Vars → Agents = λ vars. record a { turtles = a.turtles ++ turtle vars ∷ []; turtles_given = a.turtles_given + 1 } in
    let kept = c.in_ok-vars.ensures ∙ ap (λ (x : Agents). birth_vars_among s.land.layout c.args.breed c.args.parent x.turtles) c.files-2.ensures
    ∙ ap (birth_vars s.land.layout c.args.breed) (parent-found c.args.parent s.land a s.base) in
    let room = room-for-turtles (world_in s) (subst (λ (n : ℕ). n < 200_000) c.turtle_count.ensures c.if-turtle_count-ge-MOST_TURTLES.false)
    (subst (λ (x : Agents). x.turtles_given < 9_000_000_000_000) c.files.ensures (subst (λ (n : ℕ). n < 9_000_000_000_000) c.turtles_given.ensures c.if-turtles_given-ge-MOST_SERIALS.false)) in
    let world = subst (λ (vars : Vars). IsWorld (world_with s.land (joined vars) s.base)) (sym kept)
    (born_is_world c.args.breed c.args.at c.args.parent (world_in s) s.stands c.requires.breed c.requires.at room) in
    let e = c.add_turtle.ensures in
    record {
      stands = either-way (λ (x : Agents). IsWorld (world_with s.land x s.base)) c.add_turtle.result c.add_turtle.new.self (joined c.in_ok-vars.vars) a e.added e.kept world s.stands;
      fits = either-way (AreOf s.land) c.add_turtle.result c.add_turtle.new.self (joined c.in_ok-vars.vars) a e.added e.kept (still-of s.land a (joined c.in_ok-vars.vars) s.fits refl refl) s.fits;
    }
