use Rattle.std.proofs.Common.{ap, sym, ◌∙◌, length}
use Rattle.std.proofs.lemmas.List.FromFn.{length-range_with_len}
use Rattle.nl_grid.specs.Geometry.{patches_of}
use Rattle.nl_agents.specs.Members.{members_of}
use Rattle.nl_agents.proofs.view.View.count.Goals as goal

pub returns-in-Patches : goal.returns-in-Patches
returns-in-Patches g c =
    let r = (g.S.Store.world c.args.self.now.store.now).rest in
    c.patches.ensures.count ∙ ap patches_of c.shape.ensures.value ∙ sym (length-range_with_len 0 (patches_of r.shape))
    ∙ ap (λ set. length (members_of r set)) (sym c.in-Patches.is)
