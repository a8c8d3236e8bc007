use Rattle.std.proofs.Common.{ap, subst, sym, ◌∙◌}
use Rattle.nl_agents.specs.Standing.{IsWorld}
use Rattle.nl_grid.specs.Geometry.{patches_of}
use Rattle.nl_agents.specs.World.{first_patch_vars}
use Rattle.nl_agents.proofs.Worlds.{patches_cleared_is_world}
use Rattle.nl_plain.specs.Held.{world_in}
use Rattle.nl_plain.proofs.Holds.{with_patches, all_first}
use Rattle.nl_plain.proofs.plain.PlainStore.clear_patches.Goals as goal

pub invariant_of-self : goal.invariant_of-self
invariant_of-self c =
    let w = world_in c.args.self.now in
    let first = all_first (first_patch_vars w.rest.layout) w.rest.patches (patches_of w.rest.shape) c.args.self.now.stands.patches.many in
    record { stands = subst IsWorld (sym (ap (with_patches w) (c.reset_patches.ensures ∙ first))) (patches_cleared_is_world w c.args.self.now.stands) }

pub returns : goal.returns
returns c =
    let w = world_in c.args.self.now in
    ap (with_patches w) (c.reset_patches.ensures ∙ all_first (first_patch_vars w.rest.layout) w.rest.patches (patches_of w.rest.shape) c.args.self.now.stands.patches.many)
