use Rattle.std.proofs.Common.{◌≡◌, ◌+◌, map, List, refl, ap, sym, ◌∙◌, arith}
use Rattle.std.proofs.lemmas.Result.{err_from_is_err_and}
use Rattle.nl_value.specs.Plain.{Plain, plains}
use Rattle.nl_value.specs.Views.{plain}
use Rattle.nl_value.specs.inner.Weights.{weight, weights}
use Rattle.nl_agents.specs.Standing.{fits_rest}
use Rattle.nl_agentset_query.specs.Inputs.{inputs_fit}
use Rattle.nl_agentset_query.proofs.Fitting.{list_fits_as_items, item_fits, item_weighs}
use Rattle.nl_agentset_query.proofs.Uniting.{goes_on, fails_here, at_end, reads_split}
use Rattle.nl_agentset_query.proofs.unions.+gather.Goals as goal

pub gather-gather_all-requires : goal.gather-gather_all-requires
gather-gather_all-requires g t c κs within =
    let r = (g.S.Store.world c.args.store.now).rest in
    let items = c.in-Items.items.value in
    let lent = c.as_slice.ensures ∙ c.deref-in-Items.ensures in
    let same : weights (plains (map plain c.as_slice.result.now)) ≡ weights (plains items) = ap (λ (ps : List Plain). weights (plains ps)) lent in
    let whole : weight (plain c.args.value.now) ≡ 2 + weights (plains items) = ap (λ v. weight (plain v)) c.in-Items.is in
    let fit = ap (inputs_fit r) lent ∙ list_fits_as_items r items ∙ sym (ap (λ v. fits_rest r (plain v)) c.in-Items.is) ∙ c.requires in
    (omega (arith, same, whole, c.decreases), (within.0, (within.1, fit)))

pub gather_all-gather-requires : goal.gather_all-gather-requires
gather_all-gather-requires g t c κs within =
    let r = (g.S.Store.world c.args.store.now).rest in
    let less = item_weighs c.args.values.now c.loop-value.value-index c.value-item.result c.loop-value-test.true c.value-item.is in
    let fit = item_fits r c.args.values.now c.loop-value.value-index c.value-item.result c.requires c.loop-value-test.true c.value-item.is in
    (omega (arith, less, c.decreases), (within.0, (within.1, fit)))

pub gather_all-returns-in_err-gather-clause-gathered : goal.gather_all-returns-in_err-gather-clause-gathered
gather_all-returns-in_err-gather-clause-gathered g t c =
    let r = (g.S.Store.world c.args.store.now).rest in
    let p = err_from_is_err_and c.from_residual.result c.from_residual.ensures.1 in
    rw (p.1, p.2) (λ other.
    c.loop-value.invariant.0
    ∙ fails_here r c.args.kind c.args.values.now c.loop-value.value-index c.value-item.result c.loop-value.into.items c.in_err-gather.field-0.0 c.loop-value-test.true c.value-item.is (c.in_err-gather.ensures.gathered other))

pub gather_all-loop-value-preserved : goal.gather_all-loop-value-preserved
gather_all-loop-value-preserved g t c =
    let r = (g.S.Store.world c.args.store.now).rest in
    let split = reads_split r c.args.values.now c.loop-value.value-index c.value-item.result c.loop-value-test.true c.value-item.is in (
      c.loop-value.invariant.0
          ∙ goes_on r c.args.kind c.args.values.now c.loop-value.value-index c.value-item.result c.loop-value.into.items c.gather.new.into.items c.loop-value-test.true c.value-item.is c.in_ok-gather.ensures.gathered,
      omega (arith, c.loop-value.invariant.1, split, c.gather.ensures.reads),
    )

pub gather_all-loop-value-init : goal.gather_all-loop-value-init
gather_all-loop-value-init g t c = (refl, omega arith)

pub gather_all-returns-in_err-gather-clause-reads : goal.gather_all-returns-in_err-gather-clause-reads
gather_all-returns-in_err-gather-clause-reads g t c =
    let r = (g.S.Store.world c.args.store.now).rest in
    let split = reads_split r c.args.values.now c.loop-value.value-index c.value-item.result c.loop-value-test.true c.value-item.is in
    omega (arith, c.loop-value.invariant.1, split, c.gather.ensures.reads)

pub gather_all-returns-clause-gathered : goal.gather_all-returns-clause-gathered
gather_all-returns-clause-gathered g t c =
    let r = (g.S.Store.world c.args.store.now).rest in
    c.loop-value.invariant.0 ∙ at_end r c.args.kind c.args.values.now c.loop-value.value-index c.loop-value.into.items c.loop-value-test.false

pub gather_all-returns-clause-reads : goal.gather_all-returns-clause-reads
gather_all-returns-clause-reads g t c = omega (arith, c.loop-value.invariant.1)
