use Rattle.std.proofs.Common.{arith, sym, ap, ◌∙◌, ◌++◌, ◌<◌, false, Err, length, map}
use Rattle.std.proofs.lemmas.List.{take_all}
use Rattle.std.proofs.lemmas.Result.{err_from_is_err_and}
use Rattle.nl_value.specs.Living.{fits}
use Rattle.nl_value.specs.Limits.{most_bytes}
use Rattle.nl_value.specs.Plain.{PlainWords}
use Rattle.nl_value.specs.Text.{text_of}
use Rattle.nl_value.specs.Views.{plain}
use Rattle.nl_listops_series.specs.Outcomes.{kept_within}
use Rattle.nl_listops_series.specs.Texts.{word_of}
use Rattle.nl_listops_series.proofs.Joins.{item_passes, joined_more, joined_long, too_large, not_too_large}
use Rattle.nl_listops_series.proofs.texts.word.Goals as goal

pub put_text-requires-clause-fit : goal.put_text-requires-clause-fit
put_text-requires-clause-fit g c =
    item_passes plain (fits (g.L.Life.living c.args.life.now)) c.args.values.now c.loop-value.value-index c.value-item.result c.requires c.loop-value-test.true c.value-item.is

pub returns-in_err-put_text : goal.returns-in_err-put_text
returns-in_err-put_text g c =
    let w = g.L.Life.living c.args.life.now in
    let p = err_from_is_err_and c.from_residual.result c.from_residual.ensures.1 in
    rw (p.1, p.2) (λ other.
    let told = c.in_err-put_text.ensures.2 other in
    let long = joined_long plain (text_of w false) c.args.values.now c.loop-value.value-index c.value-item.result c.loop-value-test.true c.value-item.is in
    let so_far = ap length c.loop-value.invariant.so_far in
    let beyond = told.1 in
    let whole : most_bytes < length (word_of w (map plain c.args.values.now)) = omega arith in
    too_large (word_of w (map plain c.args.values.now)) whole ∙ ap Err (sym told.0))

pub loop-value-preserved : goal.loop-value-preserved
loop-value-preserved g c =
    let w = g.L.Life.living c.args.life.now in
    let more = joined_more plain (text_of w false) c.args.values.now c.loop-value.value-index c.value-item.result c.loop-value-test.true c.value-item.is in
    record {
      so_far = c.in_ok-put_text.ensures.0 ∙ (ap (λ s. s ++ text_of w false (plain c.value-item.result)) c.loop-value.invariant.so_far ∙ sym more);
      within = c.in_ok-put_text.ensures.1;
    }

pub returns : goal.returns
returns g c =
    let w = g.L.Life.living c.args.life.now in
    let is = c.loop-value.invariant.so_far ∙ ap (λ values. word_of w (map plain values)) (take_all c.loop-value.value-index c.args.values.now c.loop-value-test.false) in
    ap (λ bytes. kept_within (PlainWords bytes)) (sym is) ∙ not_too_large c.loop-value.whole c.loop-value.invariant.within
