use Rattle.std.proofs.Common.{ap, sym, ◌∙◌, length}
use Rattle.std.proofs.lemmas.List.FromFn.{length-range_with_len}
use Rattle.nl_grid.specs.Geometry.{patches_of}
use Rattle.nl_agents.specs.Members.{members_of}
use Rattle.nl_agentset.proofs.sets.count.Goals as goal

pub returns-in-Patches-clause-count : goal.returns-in-Patches-clause-count
returns-in-Patches-clause-count g c =
    let r = (g.S.Store.world c.args.store.now).rest in
    c.patches.ensures.count ∙ ap patches_of c.shape.ensures.value ∙ sym (length-range_with_len 0 (patches_of r.shape))
    ∙ ap (λ set. length (members_of r set)) (sym c.in-Patches.is)
