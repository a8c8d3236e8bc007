use Rattle.std.proofs.Common.{◌≡◌, ap, ◌∙◌}
use Rattle.std.proofs.lemmas.Result.{IfOk-weaker}
use Rattle.nl_fixed.specs.Nouns.{Bytes}
use Rattle.nl_grid.specs.Geometry.{center_of}
use Rattle.nl_agents.specs.Names.{patch_text}
use Rattle.nl_agents.proofs.Naming.{patch_named}
use Rattle.nl_agents.proofs.view.View.patch_name.Goals as goal

pub returns : goal.returns
returns g c =
    let w = g.S.Store.world c.args.self.now.store.now in
    let center = c.center-center.ensures.center ∙ ap (λ shape. center_of shape c.args.patch) c.shape.ensures.value in
    IfOk-weaker c.agent_name.result (λ (name : Bytes). name ≡ _) (λ (name : Bytes). name ≡ patch_text w.rest c.args.patch)
    (λ name is. is ∙ patch_named w c.args.patch c.center-center.result center)
    c.agent_name.ensures
