use Rattle.std.specs.Prelude.{ℕ, ◌<◌, length, slice_set}
use Rattle.std.proofs.Common.{ap, ◌∙◌, subst}
use Rattle.std.proofs.lemmas.List.Edits.{map_over_more}
use Rattle.nl_agents.specs.Nouns.{Vars}
use Rattle.nl_agents.specs.World.{first_patch_vars}
use Rattle.nl_agents_ground.proofs.patches.reset_patches.Goals as goal

pub loop-at-preserved : goal.loop-at-preserved
loop-at-preserved c =
    let first : Vars → Vars = λ vars. first_patch_vars c.args.layout.now in
    let l : c.loop-at.at < length c.args.patches.now.items = subst (λ (n : ℕ). c.loop-at.at < n) (ap length c.as_slice-count.ensures.value) c.loop-at-test.true in
    ap (λ (vars : Vars). slice_set c.loop-at.patches.items c.loop-at.at vars) c.reset_patch.ensures
    ∙ map_over_more first c.args.patches.now.items c.loop-at.patches.items c.loop-at.at c.index_mut.result.now l c.loop-at.invariant c.index_mut.ensures.value
