use Rattle.std.proofs.Common.{subst, sym}
use Rattle.nl_agents.specs.Standing.{IsWorld}
use Rattle.nl_agents.proofs.Worlds.{globals_cleared_is_world}
use Rattle.nl_store.specs.Held.{world_in}
use Rattle.nl_store.proofs.Holds.{observed-anew, of-the-same}
use Rattle.nl_store.proofs.indexed.IndexedStore.clear_globals.Goals as goal

pub invariant_of-self : goal.invariant_of-self
invariant_of-self c =
    let s = c.args.self.now in
    let e = c.clear_globals.ensures in
    record {
      stands = subst IsWorld
          (sym (observed-anew s.land c.clear_globals.new.self s.roster s.base _ _ e.rest e.globals e.run))
          (globals_cleared_is_world (world_in s) s.stands);
      fits = of-the-same s.land c.clear_globals.new.self s.roster s.fits e.rest.shape_is e.rest.layout_is;
    }
