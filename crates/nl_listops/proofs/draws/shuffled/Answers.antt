use Rattle.std.proofs.Common.{◌∙◌, sym, ap, map, drop, length}
use Rattle.nl_draw.specs.Stream.{shuffled}
use Rattle.nl_value.specs.Views.{plain}
use Rattle.nl_listops.proofs.Drawing.{shuffled-map, written_back}
use Rattle.nl_listops.proofs.draws.shuffled.Goals as goal

pub returns-clause-items : goal.returns-clause-items
returns-clause-items c =
    let stream = c.args.stream.now in
    let new = c.shuffle.new.list in
    let values = c.in_ok-values.values in
    let long = values.ok.0 ∙ (ap length (sym c.deref_mut.ensures.value) ∙ sym c.shuffle.auto.list) in
    c.of_vec.ensures
    ∙ (ap (map plain) (written_back values.len new (drop (length new) values.items) long)
    ∙ (ap (map plain) c.shuffle.ensures.order
    ∙ (ap (λ vs. map plain (shuffled vs stream).0) c.deref_mut.ensures.value
    ∙ (sym (shuffled-map plain values.items stream).0 ∙ ap (λ ps. (shuffled ps stream).0) (c.in_ok-values.ensures ∙ c.as_slice.ensures)))))

pub returns-clause-state : goal.returns-clause-state
returns-clause-state c =
    let stream = c.args.stream.now in
    c.shuffle.ensures.state
    ∙ (ap (λ vs. (shuffled vs stream).1) c.deref_mut.ensures.value ∙ (sym (shuffled-map plain c.in_ok-values.values.items stream).1 ∙ ap (λ ps. (shuffled ps stream).1) (c.in_ok-values.ensures ∙ c.as_slice.ensures)))
