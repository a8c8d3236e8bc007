use Rattle.std.proofs.Common.{◌∙◌, sym, ap, map, drop, ◌+◌}
use Rattle.std.proofs.lemmas.Result.{err_from_is_err_and}
use Rattle.nl_value.specs.Views.{plain}
use Rattle.nl_agentset.specs.Places.{offsets_in}
use Rattle.nl_agentset.proofs.Offsets.{behind, from_first, one_offset, no_offset, all_offsets}
use Rattle.nl_agentset.proofs.standing.offsets_in.Goals as goal

pub loop-value-init : goal.loop-value-init
loop-value-init c = from_first c.args.values.now ∙ ap (λ ns. behind ns (offsets_in (map plain c.args.values.now))) (sym c.new-offsets.ensures.items)

pub returns-in_err-as_offset : goal.returns-in_err-as_offset
returns-in_err-as_offset c =
    let p = err_from_is_err_and c.from_residual.result c.from_residual.ensures.1 in
    let fail = no_offset c.args.values.now c.loop-value.offsets.items c.loop-value.value-index c.value-item.result c.in_err-as_offset.field-0.0 c.loop-value-test.true c.value-item.is (sym c.in_err-as_offset.ensures) in
    rw (p.1, p.2) (λ other. c.loop-value.invariant ∙ fail)

pub loop-value-preserved : goal.loop-value-preserved
loop-value-preserved c =
    let one = one_offset c.args.values.now c.loop-value.offsets.items c.loop-value.value-index c.value-item.result c.in_ok-as_offset.field-0 c.loop-value-test.true c.value-item.is (sym c.in_ok-as_offset.ensures) in
    c.loop-value.invariant ∙ (one ∙ ap (λ ns. behind ns (offsets_in (map plain (drop (c.loop-value.value-index + 1) c.args.values.now)))) (sym c.in_ok-push.ensures.items))

pub returns : goal.returns
returns c = c.loop-value.invariant ∙ all_offsets c.args.values.now c.loop-value.offsets.items c.loop-value.value-index c.loop-value-test.false
