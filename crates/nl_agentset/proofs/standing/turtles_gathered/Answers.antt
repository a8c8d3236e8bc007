use Rattle.std.proofs.Common.{◌≤◌, ◌+◌, ◌++◌, ℕ, List, length, ap, subst, ◌∙◌, arith}
use Rattle.std.specs.List.{flat_map}
use Rattle.std.proofs.lemmas.List.{take_all}
use Rattle.nl_agents.specs.Members.{turtles_where, is_on}
use Rattle.nl_agentset.proofs.OnPatches.{gathered_more, reads_more, reads_at_most}
use Rattle.nl_agentset.proofs.standing.turtles_gathered.Goals as goal

pub loop-patch-preserved : goal.loop-patch-preserved
loop-patch-preserved g c =
    let r = (g.S.Store.world c.args.store.now).rest in
    let found = c.loop-patch.found.items in
    let more = c.in_ok-extend_from_slice.ensures.items ∙ ap (λ (l : List ℕ). found ++ l) (c.as_slice.ensures.value ∙ c.in_ok-members_on.ensures.list) in (
      gathered_more (λ patch. turtles_where (is_on r patch) r) _ c.loop-patch.patch-index found _ c.loop-patch-test.true c.loop-patch.invariant.0 more,
      reads_more found _ _ c.loop-patch.patch-index c.args.steps.now c.loop-patch.steps c.members_on.new.steps more c.loop-patch.invariant.1 c.members_on.ensures.reads,
    )

pub returns-in_err-members_on-clause-reads : goal.returns-in_err-members_on-clause-reads
returns-in_err-members_on-clause-reads g c =
    let r = (g.S.Store.world c.args.store.now).rest in
    let f : ℕ → List ℕ = λ patch. turtles_where (is_on r patch) r in
    let Few : List ℕ → Type 0 = λ l. c.members_on.new.steps ≤ c.args.steps.now + (length (flat_map f l) + length l) in
    subst Few c.as_slice-numbers.ensures.value
    (reads_at_most f _ c.loop-patch.found.items c.loop-patch.patch-index c.args.steps.now c.loop-patch.steps c.members_on.new.steps c.loop-patch-test.true
    c.loop-patch.invariant.0 c.loop-patch.invariant.1 c.members_on.ensures.reads)

pub returns-in_err-extend_from_slice-clause-reads : goal.returns-in_err-extend_from_slice-clause-reads
returns-in_err-extend_from_slice-clause-reads g c =
    let r = (g.S.Store.world c.args.store.now).rest in
    let f : ℕ → List ℕ = λ patch. turtles_where (is_on r patch) r in
    let Few : List ℕ → Type 0 = λ l. c.members_on.new.steps ≤ c.args.steps.now + (length (flat_map f l) + length l) in
    subst Few c.as_slice-numbers.ensures.value
    (reads_at_most f _ c.loop-patch.found.items c.loop-patch.patch-index c.args.steps.now c.loop-patch.steps c.members_on.new.steps c.loop-patch-test.true
    c.loop-patch.invariant.0 c.loop-patch.invariant.1 c.members_on.ensures.reads)

pub returns-clause-turtles : goal.returns-clause-turtles
returns-clause-turtles g c =
    let r = (g.S.Store.world c.args.store.now).rest in
    let all = take_all c.loop-patch.patch-index c.as_slice-numbers.result.now (omega arith) ∙ c.as_slice-numbers.ensures.value in
    c.loop-patch.invariant.0 ∙ ap (flat_map (λ patch. turtles_where (is_on r patch) r)) all

pub returns-clause-reads : goal.returns-clause-reads
returns-clause-reads g c =
    let r = (g.S.Store.world c.args.store.now).rest in
    let all = take_all c.loop-patch.patch-index c.as_slice-numbers.result.now (omega arith) ∙ c.as_slice-numbers.ensures.value in
    let found = c.loop-patch.invariant.0 ∙ ap (flat_map (λ patch. turtles_where (is_on r patch) r)) all in
    let long = ap (λ (l : List ℕ). length l) c.as_slice-numbers.ensures.value in
    omega (arith, c.loop-patch.invariant.1, ap (λ (l : List ℕ). length l) found, long, c.loop-patch.invariant)
