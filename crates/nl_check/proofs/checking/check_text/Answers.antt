use Rattle.std.proofs.Common.{[], false, OnOk, sym, ap, subst, ◌∙◌}
use Rattle.std.specs.Prelude.{IfErr}
use Rattle.nl_words.specs.Kinds.{observers}
use Rattle.nl_tree.specs.Views.{plain}
use Rattle.nl_tree.specs.Vocabulary.{terms}
use Rattle.nl_tree.specs.Context.{IsRightText}
use Rattle.nl_check.specs.inner.Steps.{steps_of}
use Rattle.nl_tree.specs.Context.{pieces}
use Rattle.nl_check.specs.inner.Faults.{first_wrong}
use Rattle.nl_check.specs.Answers.{IsTextRefusal}
use Rattle.nl_check.proofs.Judged.{text_right, text_refused, told_ok}
use Rattle.nl_tree.proofs.Slots.{have_slots}
use Rattle.nl_check.proofs.checking.check_text.Goals as goal

pub returns-clause-right : goal.returns-clause-right
returns-clause-right c =
    let program = c.args.program.now in
    let t = plain c.args.tree.now in
    let fit = c.declared.ensures.checked in
    let steps = c.as_slice.ensures.value ∙ c.in_ok-steps.ensures ∙ ap (λ d. steps_of (terms d) false (pieces (terms d) t)) c.declared.ensures.value in
    let found = c.in_ok-found.ensures ∙ ap (λ ks. first_wrong ks false [] c.observers-first.result c.as_slice.result.now) (c.as_slice-2.ensures.value ∙ c.in_ok-called.ensures)
    ∙ ap (λ k. first_wrong program.kinds false [] k c.as_slice.result.now) c.observers-first.ensures ∙ ap (first_wrong program.kinds false [] observers) steps in
    subst (λ r. OnOk r (IsRightText (terms program.declared) program.bodies t)) (sym c.accept.ensures)
    (text_right program.declared program.bodies program.kinds (fit.1.1 ∙ sym fit.1.0) fit.4 t c.in_ok-found.found found)

pub returns-clause-refused : goal.returns-clause-refused
returns-clause-refused c =
    let program = c.args.program.now in
    let t = plain c.args.tree.now in
    let fit = c.declared.ensures.checked in
    let steps = c.as_slice.ensures.value ∙ c.in_ok-steps.ensures ∙ ap (λ d. steps_of (terms d) false (pieces (terms d) t)) c.declared.ensures.value in
    let found = c.in_ok-found.ensures ∙ ap (λ ks. first_wrong ks false [] c.observers-first.result c.as_slice.result.now) (c.as_slice-2.ensures.value ∙ c.in_ok-called.ensures)
    ∙ ap (λ k. first_wrong program.kinds false [] k c.as_slice.result.now) c.observers-first.ensures ∙ ap (first_wrong program.kinds false [] observers) steps in
    subst (λ r. IfErr r (IsTextRefusal program.declared program.bodies t)) (sym c.accept.ensures)
    (text_refused program.declared program.bodies program.kinds (fit.1.1 ∙ sym fit.1.0) fit.4 t c.in_ok-found.found found)

pub returns-clause-slots : goal.returns-clause-slots
returns-clause-slots c = told_ok c.accept.result (have_slots c.args.program.now.declared c.args.form [] (plain c.args.tree.now) c.requires)
