use Rattle.std.proofs.Common.{ap, subst, sym}
use Rattle.nl_agents.specs.Standing.{IsWorld}
use Rattle.nl_agents.proofs.Worlds.{moved_is_world}
use Rattle.nl_store_files.specs.Agents.{Agents}
use Rattle.nl_store.specs.Held.{world_in}
use Rattle.nl_store.specs.Worlds.{world_with}
use Rattle.nl_store.proofs.Holds.{still-of}
use Rattle.nl_grid.specs.Geometry.{IsPointOf, Plane}
use Rattle.nl_store.proofs.indexed.IndexedStore.shift.Goals as goal

pub move_turtle-requires-clause-at : goal.move_turtle-requires-clause-at
move_turtle-requires-clause-at c = subst (λ (p : Plane). IsPointOf p c.args.to) (sym c.args.self.now.fits.shape_is) c.requires.at

pub invariant_of-self : goal.invariant_of-self
invariant_of-self c =
    let s = c.args.self.now in
    record {
      stands = subst (λ (a : Agents). IsWorld (world_with s.land a s.base)) (sym c.move_turtle.ensures) (moved_is_world c.args.turtle c.args.to (world_in s) s.stands c.requires.at);
      fits = still-of s.land s.roster c.move_turtle.new.self s.fits (ap (λ (a : Agents). a.shape) c.move_turtle.ensures) (ap (λ (a : Agents). a.breeds) c.move_turtle.ensures);
    }

pub returns : goal.returns
returns c = ap (λ (a : Agents). world_with c.args.self.now.land a c.args.self.now.base) c.move_turtle.ensures
