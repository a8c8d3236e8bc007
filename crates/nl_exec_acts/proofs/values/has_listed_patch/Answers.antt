use Rattle.std.proofs.Common.{◌≡◌, ap, sym, ◌∙◌}
use Rattle.nl_agents.specs.Members.{is_listed}
use Rattle.nl_agents.specs.Names.{patch_fits}
use Rattle.nl_exec_acts.proofs.Membership.{some_patches_listed, both_then, both_else}
use Rattle.nl_exec_acts.proofs.values.has_listed_patch.Goals as goal

pub returns-then-is_inside : goal.returns-then-is_inside
returns-then-is_inside g c =
    let r = (g.S.Store.world c.args.store.now).rest in
    let z = c.args.patch in
    let same : c.from.result ≡ z = cc in
    c.contains.ensures ∙ ap (λ n. is_listed c.args.listed.now n) same
    ∙ both_then (patch_fits r z) (is_listed c.args.listed.now z) _ (some_patches_listed r c.args.listed.now z)
    (sym c.is_inside.ensures ∙ c.if-is_inside.true)

pub returns-else-is_inside : goal.returns-else-is_inside
returns-else-is_inside g c =
    let r = (g.S.Store.world c.args.store.now).rest in
    let z = c.args.patch in
    c.is_inside.ensures
    ∙ both_else (patch_fits r z) (is_listed c.args.listed.now z) _ (some_patches_listed r c.args.listed.now z)
    (sym c.is_inside.ensures ∙ c.if-is_inside.false)
