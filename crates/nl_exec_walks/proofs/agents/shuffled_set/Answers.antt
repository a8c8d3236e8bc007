-- The members of a set in another order.
use Rattle.std.proofs.Common.{◌≡◌, List, ℕ, ap, ◌∙◌, sym, subst}
use Rattle.std.specs.List.Sorted.{IsPermutation}
use Rattle.nl_value.specs.Sets.{set_kind}
use Rattle.nl_draw.specs.Stream.{shuffled}
use Rattle.nl_agents.specs.Members.{members_of}
use Rattle.nl_exec_meaning.specs.Walks.{at_stream}
use Rattle.nl_exec_meaning.specs.Ground.{Ground}
use Rattle.nl_exec_meaning.specs.Seen.{state_of}
use Rattle.nl_exec_meaning.specs.Standing.{MembersFit}
use Rattle.nl_exec_walks.proofs.Members.{mixed_fit}
use Rattle.nl_exec_walks.proofs.agents.shuffled_set.Goals as goal

pub returns-clause-fits : goal.returns-clause-fits
returns-clause-fits g c =
    let r = (g.S.Store.world c.args.hands.now.stage.store).rest in
    let same : c.into_vec.result.items ≡ members_of r c.args.set.now = c.into_vec.ensures.value ∙ c.in_ok-members.ensures in
    subst (λ (now : Ground). MembersFit now (set_kind c.args.set.now) c.mixed.result) (sym c.mixed.ensures.stands.same)
    (mixed_fit r c.args.set.now c.mixed.result (subst (λ (xs : List ℕ). IsPermutation xs c.mixed.result) same c.mixed.ensures.members))

pub returns-clause-state : goal.returns-clause-state
returns-clause-state g c = λ names units.
    let r = (g.S.Store.world c.args.hands.now.stage.store).rest in
    let same : c.into_vec.result.items ≡ members_of r c.args.set.now = c.into_vec.ensures.value ∙ c.in_ok-members.ensures in
    c.mixed.ensures.state names units
    ∙ ap (λ (xs : List ℕ). at_stream (shuffled xs c.args.hands.now.stage.stream).1 (state_of names c.args.hands.now units)) same
