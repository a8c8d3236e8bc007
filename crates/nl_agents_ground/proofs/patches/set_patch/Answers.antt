use Rattle.std.proofs.Common.{◌∙◌, ap, slice_set}
use Rattle.nl_value.specs.Views.{plain}
use Rattle.nl_agents.specs.Nouns.{Vars}
use Rattle.nl_agents.specs.Changes.{value_set}
use Rattle.nl_agents_ground.proofs.Patched.{changed_patch}
use Rattle.nl_agents_ground.proofs.patches.set_patch.Goals as goal

pub returns-clause-new : goal.returns-clause-new
returns-clause-new c =
    ap (λ (vars : Vars). slice_set c.args.patches.now.items c.args.patch vars) c.set.ensures.new
    ∙ changed_patch (λ vars. value_set c.args.slots.now vars c.args.slot (plain c.args.value)) c.args.patches.now.items c.args.patch c.index_mut.result.now c.requires c.index_mut.ensures.value
