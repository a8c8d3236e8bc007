use Rattle.std.proofs.Common.{◌≡◌, ℕ, List, [], Contains, MatchOption, subst, ◌∙◌}
use Rattle.nl_agentset_query.proofs.Chosen.{member_small}
use Rattle.nl_agentset_query.proofs.choices.one_member.Goals as goal

pub agent_or_nobody-requires : goal.agent_or_nobody-requires
agent_or_nobody-requires g c =
    member_small (g.S.Store.world c.args.store.now) c.args.set.now c.kind.result c.one_of-chosen.result c.shape-stands.ensures.stands c.kind.ensures
    (subst (λ (l : List ℕ). MatchOption c.one_of-chosen.result (l ≡ []) (Contains l)) (c.as_slice.ensures.value ∙ c.in_ok-members.ensures.list) c.one_of-chosen.ensures.member)
