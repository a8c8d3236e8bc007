use Rattle.std.proofs.Common.{◌<◌, List, ℕ, Bool, length, get_or, filter, ap, sym, subst, ◌∙◌, arith}
use Rattle.std.specs.List.Sorted.{IsStrictlyIncreasing}
use Rattle.std.proofs.lemmas.List.{take_all}
use Rattle.std.proofs.lemmas.List.Kept.{IsStrictlyIncreasing-filter}
use Rattle.nl_value.specs.Sets.{set_kind}
use Rattle.nl_grid.specs.Geometry.{patches_of}
use Rattle.nl_agentset_query.specs.Near.{stands_where}
use Rattle.nl_agentset.specs.Places.{is_on_one}
use Rattle.nl_agentset_query.proofs.Inside.{patch_members}
use Rattle.nl_agentset.proofs.standing.members_on.Goals as goal

pub is_on_one-requires : goal.is_on_one-requires
is_on_one-requires g c =
    let r = (g.S.Store.world c.args.store.now).rest in
    let i = c.loop-number.number-index in
    let Small : List ℕ → Type 0 = λ l. i < length l → get_or l i 0 < patches_of r.shape in
    λ is. subst Small (sym (c.as_slice-numbers.ensures.value ∙ c.in_ok-members.ensures.list)) (λ inside. patch_members r c.args.set.now (sym c.kind.ensures ∙ is) i 0 inside) (omega arith)

pub of_vec-requires : goal.of_vec-requires
of_vec-requires g c =
    let Ascends : List ℕ → Type 0 = λ l. IsStrictlyIncreasing l in
    let r = (g.S.Store.world c.args.store.now).rest in
    let kept : ℕ → Bool = stands_where (is_on_one r.shape c.args.patches.now) r (set_kind c.args.set.now) in
    let all = take_all c.loop-number.number-index c.as_slice-numbers.result.now (omega arith) ∙ c.as_slice-numbers.ensures.value in
    subst Ascends (sym (c.loop-number.invariant ∙ ap (filter kept) all)) (IsStrictlyIncreasing-filter kept _ c.as_slice-numbers.ensures.ascending)

pub returns-clause-list : goal.returns-clause-list
returns-clause-list g c =
    let r = (g.S.Store.world c.args.store.now).rest in
    let kept : ℕ → Bool = stands_where (is_on_one r.shape c.args.patches.now) r (set_kind c.args.set.now) in
    let all = take_all c.loop-number.number-index c.as_slice-numbers.result.now (omega arith) ∙ c.as_slice-numbers.ensures.value ∙ c.in_ok-members.ensures.list in
    c.of_vec.ensures ∙ c.loop-number.invariant ∙ ap (filter kept) all
