use Rattle.std.proofs.Common.{ap, subst, sym}
use Rattle.nl_agents.specs.Standing.{IsWorld}
use Rattle.nl_agents.proofs.Worlds.{rebred_is_world}
use Rattle.nl_store_files.specs.Agents.{Agents}
use Rattle.nl_store.specs.Held.{world_in}
use Rattle.nl_store.specs.Worlds.{world_with}
use Rattle.nl_store.proofs.Holds.{still-of}
use Rattle.nl_store.proofs.Holds.{breed-inside, keep-all}
use Rattle.nl_store.proofs.indexed.IndexedStore.rebreed.Goals as goal

pub rebreed-requires-clause-many : goal.rebreed-requires-clause-many
rebreed-requires-clause-many c = keep-all c.args.self.now.land c.args.self.now.roster c.args.self.now.base c.args.self.now.stands

pub rebreed-requires-clause-breed : goal.rebreed-requires-clause-breed
rebreed-requires-clause-breed c = breed-inside c.args.self.now.land c.args.self.now.roster c.args.breed c.args.self.now.fits c.requires.breed

pub invariant_of-self : goal.invariant_of-self
invariant_of-self c =
    let s = c.args.self.now in
    record {
      stands = subst (λ (a : Agents). IsWorld (world_with s.land a s.base)) (sym c.rebreed.ensures) (rebred_is_world c.args.turtle c.args.breed (world_in s) s.stands c.requires.breed);
      fits = still-of s.land s.roster c.rebreed.new.self s.fits (ap (λ (a : Agents). a.shape) c.rebreed.ensures) (ap (λ (a : Agents). a.breeds) c.rebreed.ensures);
    }

pub returns : goal.returns
returns c = ap (λ (a : Agents). world_with c.args.self.now.land a c.args.self.now.base) c.rebreed.ensures
