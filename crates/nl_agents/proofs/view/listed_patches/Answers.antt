use Rattle.std.proofs.Common.{◌≡◌, ◌∙◌}
use Rattle.std.proofs.lemmas.Result.{IfOk-weaker}
use Rattle.nl_agents.specs.Members.{members_of}
use Rattle.nl_value.specs.Nouns.{Serials}
use Rattle.nl_value.specs.declared.sets.AgentSet.TheVariants.{SomePatches}
use Rattle.nl_agents.proofs.LivingMembers.{listed_patches}
use Rattle.nl_agents.proofs.view.listed_patches.Goals as goal

pub returns : goal.returns
returns g c =
    let r = (g.S.Store.world c.args.store.now).rest in
    let list = c.args.list.now in
    IfOk-weaker c.copy.result (λ (again : Serials). again ≡ list) (λ (again : Serials). again ≡ members_of r (SomePatches list))
    (λ again same. same ∙ listed_patches r list c.as_slice-ascending.ensures.ascending c.requires)
    c.copy.ensures
