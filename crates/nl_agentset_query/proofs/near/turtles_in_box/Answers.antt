use Rattle.std.proofs.Common.{ap, sym, subst, ◌∙◌, arith, List, ◌++◌, ℕ, Option}
use Rattle.std.proofs.lemmas.List.Filters.{dedup_is}
use Rattle.std.proofs.lemmas.Map.Keys.{IsStrictlyIncreasing-dedup}
use Rattle.nl_grid.specs.Geometry.{box_patches}
use Rattle.nl_grid.proofs.WalkLemmas.{walk_goes_on, not_some}
use Rattle.nl_agentset_query.proofs.Gathering.{Gathered, begins, goes_on, gathered, walks_in_world, reads_are_few, put_in_order}
use Rattle.nl_agentset_query.proofs.near.turtles_in_box.Goals as goal

pub loop-next-init : goal.loop-next-init
loop-next-init g c =
    let r = (g.S.Store.world c.args.store.now).rest in
    let Begun : List ℕ → Type 0 = λ l. Gathered r c.box_of-around.result c.first-next.result l c.args.steps.now c.args.steps.now in
    subst Begun (sym c.new-found.ensures.items) (begins r c.box_of-around.result c.first-next.result c.args.steps.now c.first-next.ensures)

pub members_on-requires : goal.members_on-requires
members_on-requires g c =
    let r = (g.S.Store.world c.args.store.now).rest in
    let box = c.box_of-around.ensures.patches ∙ ap (λ plane. box_patches plane c.args.at c.args.radius) c.shape.ensures.value in
    let InBox : List ℕ → Type 0 = λ l. Gathered r l c.loop-next.next c.loop-next.found.items c.args.steps.now c.loop-next.steps in
    walks_in_world r c.args.at c.args.radius c.loop-next.next c.loop-next.found.items c.args.steps.now c.loop-next.steps c.in-Some.patch
    (subst InBox box c.loop-next.invariant) c.in-Some.is

pub returns-in_err-members_on-clause-reads : goal.returns-in_err-members_on-clause-reads
returns-in_err-members_on-clause-reads g c =
    let r = (g.S.Store.world c.args.store.now).rest in
    let box = c.box_of-around.ensures.patches ∙ ap (λ plane. box_patches plane c.args.at c.args.radius) c.shape.ensures.value in
    let InBox : List ℕ → Type 0 = λ l. Gathered r l c.loop-next.next c.loop-next.found.items c.args.steps.now c.loop-next.steps in
    reads_are_few r c.args.at c.args.radius c.loop-next.next c.loop-next.found.items c.args.steps.now c.loop-next.steps c.members_on.new.steps c.in-Some.patch
    (subst InBox box c.loop-next.invariant) c.in-Some.is c.members_on.ensures.reads

pub returns-in_err-extend_from_slice-clause-reads : goal.returns-in_err-extend_from_slice-clause-reads
returns-in_err-extend_from_slice-clause-reads g c =
    let r = (g.S.Store.world c.args.store.now).rest in
    let box = c.box_of-around.ensures.patches ∙ ap (λ plane. box_patches plane c.args.at c.args.radius) c.shape.ensures.value in
    let InBox : List ℕ → Type 0 = λ l. Gathered r l c.loop-next.next c.loop-next.found.items c.args.steps.now c.loop-next.steps in
    reads_are_few r c.args.at c.args.radius c.loop-next.next c.loop-next.found.items c.args.steps.now c.loop-next.steps c.members_on.new.steps c.in-Some.patch
    (subst InBox box c.loop-next.invariant) c.in-Some.is c.members_on.ensures.reads

pub loop-next-smaller : goal.loop-next-smaller
loop-next-smaller g c = walk_goes_on c.box_of-around.result c.in-Some.patch c.loop-next.next c.next-next.result (omega arith) c.in-Some.is c.next-next.ensures.after

pub loop-next-preserved : goal.loop-next-preserved
loop-next-preserved g c =
    let r = (g.S.Store.world c.args.store.now).rest in
    let box = c.box_of-around.result in
    let found = c.loop-next.found.items in
    let more = c.in_ok-extend_from_slice.ensures.items ∙ ap (λ (l : List ℕ). found ++ l) (c.as_slice.ensures.value ∙ c.in_ok-members_on.ensures.list) in
    let Goes : List ℕ → Type 0 = λ l. Gathered r box c.next-next.result l c.args.steps.now c.members_on.new.steps in
    subst Goes (sym more)
    (goes_on r box c.loop-next.next c.next-next.result found c.args.steps.now c.loop-next.steps c.members_on.new.steps c.in-Some.patch
    c.loop-next.invariant c.in-Some.is c.next-next.ensures.walk c.members_on.ensures.reads)

pub of_vec-requires : goal.of_vec-requires
of_vec-requires g c =
    let is = dedup_is _ _ _ c.dedup.ensures.filtered in
    rw is (IsStrictlyIncreasing-dedup _ c.sort_unstable.ensures.sorted)

pub returns-clause-list : goal.returns-clause-list
returns-clause-list g c =
    let w = g.S.Store.world c.args.store.now in
    let box = c.box_of-around.ensures.patches ∙ ap (λ plane. box_patches plane c.args.at c.args.radius) c.shape.ensures.value in
    let End : List ℕ → Option ℕ → Type 0 = λ l next. Gathered w.rest l next c.loop-next.found.items c.args.steps.now c.loop-next.steps in
    let at_end = subst (λ next. End (box_patches w.rest.shape c.args.at c.args.radius) next) (not_some c.loop-next.next c.in_default.not-Some) (subst (λ l. End l c.loop-next.next) box c.loop-next.invariant) in
    let all = gathered w.rest c.args.at c.args.radius c.loop-next.found.items c.args.steps.now c.loop-next.steps at_end in
    c.of_vec.ensures ∙ dedup_is _ _ _ c.dedup.ensures.filtered
    ∙ put_in_order w c.args.at c.args.radius c.loop-next.found.items _ c.shape.ensures.stands c.sort_unstable.ensures.permutation c.sort_unstable.ensures.sorted all.0

pub returns-clause-reads : goal.returns-clause-reads
returns-clause-reads g c =
    let w = g.S.Store.world c.args.store.now in
    let box = c.box_of-around.ensures.patches ∙ ap (λ plane. box_patches plane c.args.at c.args.radius) c.shape.ensures.value in
    let End : List ℕ → Option ℕ → Type 0 = λ l next. Gathered w.rest l next c.loop-next.found.items c.args.steps.now c.loop-next.steps in
    let at_end = subst (λ next. End (box_patches w.rest.shape c.args.at c.args.radius) next) (not_some c.loop-next.next c.in_default.not-Some) (subst (λ l. End l c.loop-next.next) box c.loop-next.invariant) in
    (gathered w.rest c.args.at c.args.radius c.loop-next.found.items c.args.steps.now c.loop-next.steps at_end).1
