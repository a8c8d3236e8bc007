use Rattle.std.proofs.Common.{map, ap, ◌∙◌}
use Rattle.csv.specs.Writing.{row_text as csv_text}
use Rattle.nl_table.specs.Lines.{always_quoted}
use Rattle.nl_table.proofs.LineText.{csv_text-line_text}
use Rattle.nl_table.proofs.lines.Record.text.Goals as goal

pub returns : goal.returns
returns c =
    c.of_vec.ensures
    ∙ c.in_ok-bytes.ensures
    ∙ ap (λ cells. csv_text always_quoted (map (λ cell. cell.now) cells)) c.as_slice.ensures.value
    ∙ ap (csv_text always_quoted) c.self.view_is
    ∙ csv_text-line_text _ c.requires
