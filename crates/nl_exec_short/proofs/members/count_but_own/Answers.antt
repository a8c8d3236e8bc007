-- The word gives the set of the members but the agent that runs.
use Rattle.std.proofs.Common.{ℕ, ◌≤◌, ◌≡◌, not, List, length, refl, ap, ◌∙◌, sym, arith}
use Rattle.nl_tree.specs.Tree.{span}
use Rattle.nl_value.specs.Sets.{set_kind}
use Rattle.nl_value.specs.Plain.{PlainSet}
use Rattle.nl_agents.specs.Members.{members_of}
use Rattle.nl_agents.proofs.LivingMembers.{members_are_few}
use Rattle.nl_agentset_query.specs.Agents.{listed}
use Rattle.nl_agentset.specs.Sets.{is_caller, others}
use Rattle.nl_exec_meaning.specs.Code.{node_at}
use Rattle.nl_exec_meaning.specs.State.{gives}
use Rattle.nl_exec_meaning.specs.Meaning.{evaluator}
use Rattle.nl_exec_meaning.specs.Seen.{state_of}
use Rattle.nl_exec_short.proofs.Single.{roomy}
use Rattle.nl_exec_short.proofs.Listing.{some_members, small, asks}
use Rattle.nl_exec_short.proofs.Sets.{others_had}
use Rattle.nl_exec_short.proofs.members.count_but_own.Goals as goal

pub returns-in-Some-counted_by_word : goal.returns-in-Some-counted_by_word
returns-in-Some-counted_by_word g c =
    let code = c.args.code.now in
    let h = c.args.hands.now in
    let w = g.S.Store.world h.stage.store in
    let t = node_at code c.args.node in
    let x = node_at code c.in-Some.part in
    let agent = h.site.agent in
    let it = c.in-Some-counted_by_word in
    let (set, had, all, apart) = it.ensures.given in
    let world = it.ensures.stands in
    let but = others w.rest agent set in
    let rest = listed (set_kind set) but in
    let again : members_of w.rest rest ≡ but = some_members w set (λ n. not (is_caller agent (set_kind set) n)) world in
    let few : length but ≤ 400_000 = omega (arith, members_are_few w rest world, ap (λ (l : List ℕ). length l) again) in (
      rest,
      (λ room n some.
          let s = state_of code.names h n in
          roomy (λ it. evaluator code.program it t s ≡ gives (PlainSet rest) s) 0
          (λ less enough. others_had code.program less t x s c.args.runs c.args.breed set (sym c.requires.is) c.in-Some.ensures
          (c.if-not-lives_and_may_run.ensures.allowed refl code n (span t)) (c.if-not-lives_and_may_run.ensures.stays refl code n)
          (asks w agent (c.if-not-lives_and_may_run.ensures.lives refl)) (had less n enough) (small (set_kind set) but few))
          room some),
      ap (λ (l : List ℕ). length l) again ∙ apart,
    )
