use Rattle.std.proofs.Common.{◌∙◌, subst, sym}
use Rattle.nl_grid.specs.Geometry.{patches_of}
use Rattle.nl_agents.specs.Standing.{IsWorld}
use Rattle.nl_agents.specs.World.{first_patch_vars, first_patches}
use Rattle.nl_agents.proofs.Worlds.{patches_cleared_is_world}
use Rattle.nl_store.specs.Held.{world_in}
use Rattle.nl_store.proofs.Holds.{all-first, of-the-same, patched-anew}
use Rattle.nl_store.proofs.indexed.IndexedStore.clear_patches.Goals as goal

pub invariant_of-self : goal.invariant_of-self
invariant_of-self c =
    let s = c.args.self.now in
    let e = c.clear_patches.ensures in
    let first = all-first (first_patch_vars s.land.layout) s.land.patches.items (patches_of s.land.shape) s.stands.patches.many in
    record {
      stands = subst IsWorld
          (sym (patched-anew s.land c.clear_patches.new.self s.roster s.base (first_patches s.land.layout s.land.shape) e.rest (e.patches ∙ first)))
          (patches_cleared_is_world (world_in s) s.stands);
      fits = of-the-same s.land c.clear_patches.new.self s.roster s.fits e.rest.shape_is e.rest.layout_is;
    }

pub returns : goal.returns
returns c =
    let s = c.args.self.now in
    let e = c.clear_patches.ensures in
    let first = all-first (first_patch_vars s.land.layout) s.land.patches.items (patches_of s.land.shape) s.stands.patches.many in
    patched-anew s.land c.clear_patches.new.self s.roster s.base (first_patches s.land.layout s.land.shape) e.rest (e.patches ∙ first)
