-- Where a slice ends the text, it comes to what it had come to with all units that were left.
use Rattle.std.proofs.Common.{◌≡◌, ℕ, ◌+◌, ◌-◌, Ok, ap, sym, ◌∙◌, arith}
use Rattle.std.specs.Prelude.{min}
use Rattle.nl_exec_meaning.specs.LoneTexts.{ending_of, scene_in}
use Rattle.nl_exec.specs.Machines.{end_in, rest_of, spent_of, units_left}
use Rattle.nl_exec.proofs.Ended.{with_all, with_others}
use Rattle.nl_exec.proofs.sliced.through.Goals as goal

pub returns-in-Ended-clause-end : goal.returns-in-Ended-clause-end
returns-in-Ended-clause-end g c = λ e is.
    let m = c.slices.machine in
    let was = c.args.machine.now in
    let left = units_left m in
    let told = ap Ok c.in-Ended.is ∙ is in
    let all = with_all (λ k. rest_of m k) c.in-Some.units.now left (c.in_ok-end.ensures.over e told) in
    let units : (spent_of m - spent_of was) + left ≡ units_left was = omega (arith, c.slices.invariant.bounded, c.slices.invariant.rises) in
    let whole : rest_of m left ≡ rest_of was (units_left was) = c.slices.invariant.rest left ∙ ap (λ k. rest_of was k) units in
    c.in_ok-end.ensures.end e told ∙ sym (ap (λ o. end_in m o) all) ∙ ap (λ o. end_in m o) whole
    ∙ ap (λ f. ending_of f (rest_of was (units_left was)).exit) c.slices.invariant.form

pub returns-in-Ended-clause-scene : goal.returns-in-Ended-clause-scene
returns-in-Ended-clause-scene g c = λ e is.
    let m = c.slices.machine in
    let was = c.args.machine.now in
    let left = units_left m in
    let told = ap Ok c.in-Ended.is ∙ is in
    let all = with_all (λ k. rest_of m k) c.in-Some.units.now left (c.in_ok-end.ensures.over e told) in
    let units : (spent_of m - spent_of was) + left ≡ units_left was = omega (arith, c.slices.invariant.bounded, c.slices.invariant.rises) in
    let whole : rest_of m left ≡ rest_of was (units_left was) = c.slices.invariant.rest left ∙ ap (λ k. rest_of was k) units in
    ap (λ o. scene_in o.state) (sym whole) ∙ ap (λ o. scene_in o.state) all ∙ c.in_ok-end.ensures.scene e told

pub returns-in-Ended-clause-left : goal.returns-in-Ended-clause-left
returns-in-Ended-clause-left g c = λ e is.
    let m = c.slices.machine in
    let was = c.args.machine.now in
    let left = units_left m in
    let slice = c.in-Some.units.now in
    let told = ap Ok c.in-Ended.is ∙ is in
    let all = with_all (λ k. rest_of m k) slice left (c.in_ok-end.ensures.over e told) in
    let units : (spent_of m - spent_of was) + left ≡ units_left was = omega (arith, c.slices.invariant.bounded, c.slices.invariant.rises) in
    let whole : rest_of m left ≡ rest_of was (units_left was) = c.slices.invariant.rest left ∙ ap (λ k. rest_of was k) units in
    let kept : (rest_of was (units_left was)).state.units ≡ (rest_of m (min slice left)).state.units + (left - slice) =
    ap (λ o. o.state.units) (sym whole ∙ all) in
    let others = with_others slice left in
    let spent = c.in_ok-end.ensures.spent e told in
    let bounded = c.in_ok-end.ensures.bounded in
    omega (arith, kept, others, spent, bounded)
