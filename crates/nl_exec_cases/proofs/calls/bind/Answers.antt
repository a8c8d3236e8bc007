-- There is a name for each value, and each further value has its name.
use Rattle.std.proofs.Common.{◌≡◌, ◌+◌, IsTrue, slice_get, List, [], ◌∷◌, ◌++◌, length, map, take, get_or, refl, ap, ◌∙◌, sym, subst, arith, length-append}
use Rattle.std.proofs.lemmas.List.{take_more, map-append}
use Rattle.nl_value.specs.Plain.{Plain}
use Rattle.nl_value.specs.Views.{plain}
use Rattle.nl_value.specs.declared.values.Value.{Value}
use Rattle.nl_exec_meaning.specs.Code.{inputs_at, name_of}
use Rattle.nl_exec_meaning.specs.Calls.{bound}
use Rattle.nl_exec_meaning.specs.State.{Held}
use Rattle.nl_exec_meaning.specs.Ground.{all_fit, fits}
use Rattle.nl_exec_meaning.specs.Kept.{Kept, all_held, held}
use Rattle.nl_exec_meaning.specs.Standing.{LocalsFit}
use Rattle.nl_exec_meaning.proofs.Newest.{held_push}
use Rattle.nl_exec_meaning.proofs.Grounds.{pass_push}
use Rattle.nl_exec_cases.proofs.Binding.{bound_more, bound_none, named, taken, front_passes}
use Rattle.nl_exec_cases.proofs.calls.bind.Goals as goal

pub loop-value-init : goal.loop-value-init
loop-value-init c = record {
  many = ap length c.in_ok-locals.ensures;
  held = ap (all_held c.args.code.now.names) c.in_ok-locals.ensures ∙ sym (bound_none (inputs_at c.args.code.now.program c.args.procedure));
  fit = λ g all. subst (λ (ks : List Kept). LocalsFit g ks) (sym c.in_ok-locals.ensures) refl;
}

pub returns-in_default-clause-held : goal.returns-in_default-clause-held
returns-in_default-clause-held c =
    absurd (named (inputs_at c.args.code.now.program c.args.procedure) c.args.made.now c.as_slice-value-items.result.now c.loop-value.value-index c.len.result
    c.as_slice-value-items.ensures c.requires.many c.loop-value-test.true (c.len.ensures ∙ c.loop-value.invariant.many) c.in_default.ensures)

pub returns-in_default-clause-fits : goal.returns-in_default-clause-fits
returns-in_default-clause-fits c = λ g all.
    absurd (named (inputs_at c.args.code.now.program c.args.procedure) c.args.made.now c.as_slice-value-items.result.now c.loop-value.value-index c.len.result
    c.as_slice-value-items.ensures c.requires.many c.loop-value-test.true (c.len.ensures ∙ c.loop-value.invariant.many) c.in_default.ensures)

pub loop-value-preserved : goal.loop-value-preserved
loop-value-preserved c =
    let names = c.args.code.now.names in
    let inputs = inputs_at c.args.code.now.program c.args.procedure in
    let items = c.as_slice-value-items.result.now in
    let i = c.loop-value.value-index in
    let old = c.loop-value.locals in
    let before = map plain (take i items) in
    let k : Kept = record { id = c.in-Some.id; value = plain c.in_ok-value.value } in
    let item = c.value-item.result in
    let copied : k.value ≡ plain item = c.in_ok-value.ensures.value in
    let more : map plain (take (i + 1) items) ≡ before ++ plain item ∷ [] =
    ap (map plain) (take_more items i item c.loop-value-test.true) ∙ map-append plain (take i items) (get_or items i item ∷ [])
    ∙ ap (λ (v : Value). before ++ plain v ∷ []) (sym c.value-item.is) in
    let many : length before ≡ length old = taken items i (omega (arith, c.loop-value-test.true)) ∙ sym c.loop-value.invariant.many in
    let name = ap (slice_get inputs) (many ∙ sym c.len.ensures) ∙ sym c.in-Some.ensures in
    record {
      many = ap length c.in_ok-push.ensures.ok ∙ omega (arith, length-append old (k ∷ []), c.loop-value.invariant.many);
      held = ap (all_held names) c.in_ok-push.ensures.ok ∙ held_push names old k
          ∙ ap (λ (hs : List Held). hs ++ held names k ∷ []) c.loop-value.invariant.held
          ∙ sym (bound_more inputs before k.value (name_of names c.in-Some.id) name)
          ∙ ap (bound inputs) (ap (λ (v : Plain). before ++ v ∷ []) copied ∙ sym more);
      fit = λ g all.
          let both = front_passes (fits g) before (plain item) (subst (λ (vs : List Plain). IsTrue (all_fit g vs)) more all) in
          subst (λ (ks : List Kept). LocalsFit g ks) (sym c.in_ok-push.ensures.ok)
          (pass_push (λ (x : Kept). fits g x.value) old k (c.loop-value.invariant.fit g both.0) (subst (λ (v : Plain). IsTrue (fits g v)) (sym copied) both.1));
    }
