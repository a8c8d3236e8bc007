use Rattle.std.proofs.Common.{◌≡◌, sym, subst, ◌∙◌}
use Rattle.nl_value.specs.declared.sets.AgentKind.TheVariants as the_kind
use Rattle.nl_exec_acts.specs.Acts.{is_agent_in}
use Rattle.nl_exec_acts.proofs.Membership.{all_patches_listed}
use Rattle.nl_exec_acts.proofs.values.has_patch.Goals as goal

pub returns-in-Patches : goal.returns-in-Patches
returns-in-Patches g c =
    let r = (g.S.Store.world c.args.store.now).rest in
    subst (λ s. c.is_inside.result ≡ is_agent_in r the_kind.Patch c.args.patch s) (sym c.in-Patches.is)
    (c.is_inside.ensures ∙ sym (all_patches_listed r c.args.patch))
