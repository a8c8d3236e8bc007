use Rattle.std.proofs.Common.{◌++◌, [], ◌∷◌, ap, ◌∙◌}
use Rattle.nl_table.specs.Lines.{line_text}
use Rattle.nl_table.specs.Header.{header_text}
use Rattle.nl_table.proofs.LineText.{six_lines}
use Rattle.nl_table.proofs.headers.header.Goals as goal

pub returns : goal.returns
unfolding header_text
returns c =
    six_lines _ _ _ _ _ _ _ _ _ _ _ _ _ (c.of_vec-text.ensures ∙ c.new.ensures.items)
    (c.in_ok-add_cell.ensures)
    (c.in_ok-add_cell-2.ensures ∙ ap (λ bytes. c.add_cell.new.text ++ line_text (bytes ∷ [])) c.as_bytes.ensures.value)
    (c.in_ok-add_cell-3.ensures ∙ ap (λ bytes. c.add_cell-2.new.text ++ line_text (bytes ∷ [])) c.as_bytes-2.ensures)
    c.in_ok-add_names_of_bounds.ensures c.in_ok-add_bounds.ensures c.in_ok-add_columns.ensures
