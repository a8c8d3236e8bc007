-- The members of a set fit the world.
use Rattle.std.proofs.Common.{List, ℕ, ◌∙◌, sym, subst}
use Rattle.nl_value.specs.Sets.{set_kind}
use Rattle.nl_exec_meaning.specs.Ground.{ground_of}
use Rattle.nl_exec_meaning.specs.Standing.{MembersFit}
use Rattle.nl_agents.specs.Members.{members_of}
use Rattle.std.proofs.Common.{◌≡◌}
use Rattle.nl_exec_walks.proofs.Members.{members_fit}
use Rattle.nl_exec_walks.proofs.agents.in_order.Goals as goal

pub returns-clause-fits : goal.returns-clause-fits
returns-clause-fits g c =
    let r = (g.S.Store.world c.args.store.now).rest in
    let same : members_of r c.args.set.now ≡ c.of_vec.result = sym (c.of_vec.ensures ∙ c.into_vec.ensures.value ∙ c.in_ok-members.ensures) in
    subst (λ (xs : List ℕ). MembersFit (ground_of r) (set_kind c.args.set.now) xs) same (members_fit r c.args.set.now)
