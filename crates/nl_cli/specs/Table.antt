-- The bytes of the table of a job: its header, and the rows of its runs.
use Rattle.std.specs.Prelude.{ℕ, List, [], ◌∷◌, ◌++◌, map, length, replicate, codes, false, Option, Some, None}
use Rattle.std.specs.Fmt.{decimal}
use Rattle.std.specs.List.{flat_map, range_with_len}
use Rattle.nl_fixed.specs.Nouns.{Bytes, Names, Texts}
use Rattle.nl_value.specs.Living.{no_life}
use Rattle.nl_value.specs.Text.{text_of}
use Rattle.nl_experiment_sweep.specs.Sweep.{settings_of}
use Rattle.nl_experiment_sweep.specs.Varied.{PlainSetting}
use Rattle.nl_experiment.specs.Plan.{order_of}
use Rattle.nl_table.specs.Header.{header_lines, header_text}
use Rattle.nl_table.specs.Lines.{line_text, lines_text}
use Rattle.nl_run.specs.Course.{rows_of}
use Rattle.nl_run.specs.Rows.{end_text}
use Rattle.nl_run.specs.declared.rows.Row.{Row}
use Rattle.nl_cli.specs.Inputs.{Job, run_of, runs_in}

-- ---- pieces

-- pieces, one after another
abbrev pub joined_text : List Bytes → Bytes
joined_text [] = []
joined_text (piece ∷ pieces) = piece ++ joined_text pieces

-- ---- the rows of a run

-- the value of a setting, without quotes; no setting holds an agent
abbrev pub setting_text : PlainSetting → Bytes
setting_text setting = text_of no_life false setting.value

-- a row that measures nothing has an empty cell for each metric
abbrev pub metric_texts : ℕ → Option Texts → Texts
metric_texts metrics None = replicate metrics []
metric_texts metrics (Some texts) = texts

-- the run's number, its settings, the count of steps, the metrics and the end
abbrev pub row_cells : ℕ → List PlainSetting → ℕ → Row → Texts
row_cells number settings metrics row =
    decimal number ∷ (map setting_text settings ++ (decimal row.step ∷ (metric_texts metrics row.cells ++ end_text row.end ∷ [])))

-- what is varied, with its values in a run
abbrev pub settings_in : Job → ℕ → List PlainSetting
settings_in job number = settings_of (order_of job.fields) job.fields.vary number

abbrev pub run_lines : Job → ℕ → List Texts
run_lines job number = map (row_cells number (settings_in job number) (length job.fields.metrics)) (rows_of (run_of job number))

unfoldable pub rows_text : Job → ℕ → Bytes
rows_text job number = lines_text (run_lines job number)

-- ---- the table

-- the runs count from 1
abbrev pub run_numbers : Job → List ℕ
run_numbers job = range_with_len 1 (runs_in job)

abbrev pub varied_names : Job → Names
varied_names job = map (λ v. v.name) job.fields.vary

unfoldable pub header_of : Bytes → Job → Bytes
header_of model job = header_text model job.fields.name job.fields.bounds (varied_names job) job.fields.metrics

-- the header, and the rows of one run after another
unfoldable pub table_text : Bytes → Job → Bytes
table_text model job = header_of model job ++ joined_text (map (rows_text job) (run_numbers job))

-- ---- a table in short

-- the lines of the table
abbrev pub table_lines : Bytes → Job → List Texts
table_lines model job =
    header_lines model job.fields.name job.fields.bounds (varied_names job) job.fields.metrics ++ flat_map (run_lines job) (run_numbers job)

-- the last of some lines; a table has one at least
abbrev pub last_line : List Texts → Bytes
last_line [] = []
last_line (cells ∷ []) = line_text cells
last_line (cells ∷ next ∷ lines) = last_line (next ∷ lines)

-- how many runs it is of, how many bytes it has, and its last line
unfoldable pub summary_text : Bytes → Job → Bytes
summary_text model job =
    joined_text (codes "runs " ∷ decimal (runs_in job) ∷ codes "\nbytes " ∷ decimal (length (table_text model job)) ∷ codes "\n" ∷ last_line (table_lines model job) ∷ [])
