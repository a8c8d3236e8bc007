use Rattle.std.proofs.Common.{ap, subst, sym}
use Rattle.nl_agents.specs.Standing.{IsWorld}
use Rattle.nl_agents.proofs.Worlds.{cut_is_world}
use Rattle.nl_store_files.specs.Agents.{Agents}
use Rattle.nl_store.specs.Held.{world_in}
use Rattle.nl_store.specs.Worlds.{world_with}
use Rattle.nl_store.proofs.Holds.{still-of}
use Rattle.nl_store.proofs.indexed.IndexedStore.cut.Goals as goal

pub invariant_of-self : goal.invariant_of-self
invariant_of-self c =
    let s = c.args.self.now in
    record {
      stands = subst (λ (a : Agents). IsWorld (world_with s.land a s.base)) (sym c.cut.ensures) (cut_is_world c.args.link (world_in s) s.stands);
      fits = still-of s.land s.roster c.cut.new.self s.fits (ap (λ (a : Agents). a.shape) c.cut.ensures) (ap (λ (a : Agents). a.breeds) c.cut.ensures);
    }

pub returns : goal.returns
returns c = ap (λ (a : Agents). world_with c.args.self.now.land a c.args.self.now.base) c.cut.ensures
