-- The lines of the rows of a run, each behind what all of them begin with.
use Rattle.std.proofs.Common.{◌≡◌, ℕ, List, [], ◌∷◌, Result, Ok, Err, IfOk, map, length, refl, ap, ◌∙◌}
use Rattle.nl_fixed.specs.Nouns.{Texts}
use Rattle.nl_fixed.specs.declared.memory.NoMemory.{NoMemory}
use Rattle.nl_table.specs.Lines.{lines_text}
use Rattle.nl_run.specs.Course.{rows_of}
use Rattle.nl_run.specs.declared.rows.Row.{Row}
use Rattle.nl_cli.specs.declared.rows.Head.{Head}
use Rattle.nl_cli.specs.declared.rows.Lines.{Lines}
use Rattle.nl_cli.specs.Inputs.{Job, run_of}
use Rattle.nl_cli.specs.Table.{last_line, row_cells, rows_text, run_lines, settings_in}
use Rattle.nl_cli.specs.inner.Stages.{IsHead, cells_behind}

module _ (job : Job) (number : ℕ) (head : Head) (is : IsHead job number head) where
  cells_are : (row : Row) → cells_behind head row ≡ row_cells number (settings_in job number) (length job.fields.metrics) row
  cells_are row = rw (is.called, is.settings, is.metrics) refl

  lines_are : (rows : List Row) → map (cells_behind head) rows ≡ map (row_cells number (settings_in job number) (length job.fields.metrics)) rows
  lines_are [] = refl
  lines_are (row ∷ rows) = ap (λ (cells : Texts). cells ∷ map (cells_behind head) rows) (cells_are row) ∙ ap (λ (lines : List Texts). row_cells number (settings_in job number) (length job.fields.metrics) row ∷ lines) (lines_are rows)

  run_is : (rows : List Row) → rows ≡ rows_of (run_of job number) → map (cells_behind head) rows ≡ run_lines job number
  run_is rows e = lines_are rows ∙ ap (λ (rs : List Row). map (row_cells number (settings_in job number) (length job.fields.metrics)) rs) e

  pub text_of_run : (rows : List Row) (r : Result Lines NoMemory) → rows ≡ rows_of (run_of job number)
      → IfOk r (λ (lines : Lines). lines.text ≡ lines_text (map (cells_behind head) rows)) → IfOk r (λ (lines : Lines). lines.text ≡ rows_text job number)
  unfolding rows_text
  text_of_run rows (Ok lines) e made = made ∙ ap lines_text (run_is rows e)
  text_of_run rows (Err refused) e made = made

  pub last_of_run : (rows : List Row) (r : Result Lines NoMemory) → rows ≡ rows_of (run_of job number)
      → IfOk r (λ (lines : Lines). lines.last ≡ last_line (map (cells_behind head) rows)) → IfOk r (λ (lines : Lines). lines.last ≡ last_line (run_lines job number))
  last_of_run rows (Ok lines) e made = made ∙ ap last_line (run_is rows e)
  last_of_run rows (Err refused) e made = made
