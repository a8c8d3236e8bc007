use Rattle.std.proofs.Common.{◌≡◌, ◌∙◌, IfOk, List, ap, map, subst}
use Rattle.nl_fixed.specs.Nouns.{Bytes, Names}
use Rattle.nl_experiment_sweep.specs.declared.varied.Vary.{Vary}
use Rattle.nl_experiment_fields.specs.declared.fields.Fields.{Fields}
use Rattle.nl_table.specs.Header.{header_text}
use Rattle.nl_cli.specs.Table.{header_of}
use Rattle.nl_cli.proofs.table.header_text.Goals as goal

pub returns : goal.returns
unfolding header_of
returns c =
    let names_in : List Vary → Names = map (λ (v : Vary). v.name) in
    let f = c.fields-fields.result.now in
    let P : Names → Type 0 = λ names. IfOk c.header.result (λ (h : Bytes). h ≡ header_text c.args.model.now f.name f.bounds names f.metrics) in
    let Q : Fields → Type 0 = λ f. IfOk c.header.result (λ (h : Bytes). h ≡ header_text c.args.model.now f.name f.bounds (names_in f.vary) f.metrics) in
    subst Q c.fields-fields.ensures.same (subst P (c.in_ok-names.ensures ∙ ap names_in c.as_slice.ensures) c.header.ensures)
