use Rattle.std.proofs.Common.{◌<◌, [], length, refl, sym, ap, subst, ◌∙◌, arith}
use Rattle.std.specs.Prelude.{slice_get}
use Rattle.std.proofs.lemmas.Option.{slice_get_read}
use Rattle.nl_words.specs.Kinds.{everyone}
use Rattle.nl_tree.specs.Views.{plain}
use Rattle.nl_check.specs.inner.Faults.{first_wrong}
use Rattle.nl_check.specs.inner.Judged.{IsJudged}
use Rattle.nl_check.proofs.Judged.{body_judged}
use Rattle.nl_check.proofs.checking.check_body.Goals as goal

pub returns : goal.returns
returns c =
    let d = c.args.declared.now in
    let bodies = c.args.bodies.now in
    let called = c.args.called.now in
    let p = c.index-as_slice-at.result in
    let within : c.args.at < length c.as_slice.result.now = omega (arith, c.requires.within, ap length c.as_slice.ensures) in
    let here = ap (λ xs. slice_get xs c.args.at) (sym c.as_slice.ensures) ∙ slice_get_read c.as_slice.result.now (length c.as_slice.result.now) c.args.at p refl within c.index-as_slice-at.is in
    let found = c.in_ok-found.ensures ∙ ap (λ k. first_wrong called p.reporter [] k c.as_slice-2.result.now) c.everyone-first.ensures ∙ ap (first_wrong called p.reporter [] everyone) (c.as_slice-2.ensures.value ∙ c.in_ok-steps.ensures) in
    subst (IsJudged d bodies c.args.at) (sym c.accept.ensures)
    (body_judged d bodies called c.requires.kinds.kinds_many c.requires.kinds.left c.args.at p (plain c.in-Some.body.now) here (sym c.in-Some.ensures.value) c.in_ok-found.found found)
