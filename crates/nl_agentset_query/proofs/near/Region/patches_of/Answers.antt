use Rattle.std.proofs.Common.{◌<◌, List, ℕ, filter, length, get_or, ap, sym, subst, ◌∙◌, arith}
use Rattle.std.specs.List.Sorted.{IsStrictlyIncreasing}
use Rattle.std.proofs.lemmas.List.{take_all}
use Rattle.std.proofs.lemmas.List.Kept.{IsStrictlyIncreasing-filter}
use Rattle.nl_value.specs.declared.sets.AgentKind.TheVariants as the_kind
use Rattle.nl_grid.specs.Geometry.{patches_of}
use Rattle.nl_agentset_query.specs.Near.{stands_where}
use Rattle.nl_agentset_query.specs.inner.Regions.{holds}
use Rattle.nl_agentset_query.proofs.near.Region.patches_of.Goals as goal

pub has_patch-requires-clause-patch : goal.has_patch-requires-clause-patch
has_patch-requires-clause-patch g c =
    let r = (g.S.Store.world c.args.store.now).rest in
    let i = c.loop-number.number-index in
    let Small : List ℕ → Type 0 = λ l. i < length l → get_or l i 0 < patches_of r.shape in
    subst Small (sym c.as_slice-numbers.ensures.value) (λ inside. c.requires.inside i 0 inside) (omega arith)

pub of_vec-requires : goal.of_vec-requires
of_vec-requires g c =
    let Ascends : List ℕ → Type 0 = λ l. IsStrictlyIncreasing l in
    let r = (g.S.Store.world c.args.store.now).rest in
    let kept = stands_where (holds r.shape c.args.self.now) r the_kind.Patch in
    let all = take_all c.loop-number.number-index c.as_slice-numbers.result.now (omega arith) ∙ c.as_slice-numbers.ensures.value in
    subst Ascends (sym (c.loop-number.invariant ∙ ap (filter kept) all)) (IsStrictlyIncreasing-filter kept c.args.list.now c.as_slice-numbers.ensures.ascending)

pub returns : goal.returns
returns g c =
    let r = (g.S.Store.world c.args.store.now).rest in
    let kept = stands_where (holds r.shape c.args.self.now) r the_kind.Patch in
    let all = take_all c.loop-number.number-index c.as_slice-numbers.result.now (omega arith) ∙ c.as_slice-numbers.ensures.value in
    c.of_vec.ensures ∙ c.loop-number.invariant ∙ ap (filter kept) all
