-- Words over a folder have one answer.
use Rattle.std.proofs.Common.{◌≡◌, ℕ, List, [], ◌∷◌, ◌++◌, Option, Some, None, Result, Ok, Err, map, length, refl, sym, ap, ◌∙◌}
use Rattle.std.specs.Prelude.{codes}
use Rattle.std.specs.Fmt.{decimal}
use Rattle.std.specs.List.{flat_map}
use mathlib.Core.Path.{fun_ext}
use Rattle.nl_table.specs.Header.{header_lines}
use Rattle.nl_table.specs.Lines.{lines_text}
use Rattle.nl_fixed.specs.Nouns.{Bytes, Texts}
use Rattle.nl_run.specs.declared.rows.Row.{Row}
use Rattle.nl_experiment.specs.Numbers.{number_of, run_among}
use Rattle.nl_cli.specs.Steps.{◌>>=◌, with_fault}
use Rattle.nl_cli.specs.declared.ends.End.{End}
use Rattle.nl_cli.specs.Words.{Command, table, rerun, check, over, bench, command_of, paths_for}
use Rattle.nl_cli.specs.Inputs.{Found, Job, found_in, run_of, runs_in}
use Rattle.nl_cli.specs.Table.{header_of, joined_text, last_line, row_cells, rows_text, run_lines, run_numbers, settings_in, summary_text, table_text, varied_names}
use Rattle.nl_cli.specs.Answer.{Answer, AnswersTo, answer_to, made_by, no_such_run}
use Rattle.nl_cli.specs.Laws.{AnswersAreUnique}
use Rattle.nl_cli.proofs.OneAnswer.{bare_job, bared, jobs_are_alike}
use Rattle.nl_cli.proofs.RowsAlike.{rows_same}

lines_same : (job : Job) → run_lines (bare_job job) ≡ run_lines job
lines_same job = fun_ext (λ number.
    ap (λ (rows : List Row). map (row_cells number (settings_in job number) (length job.fields.metrics)) rows) (rows_same (run_of job number)))

rows_text_same : (job : Job) → rows_text (bare_job job) ≡ rows_text job
unfolding rows_text
rows_text_same job =
    let texts : (ℕ → List Texts) → ℕ → Bytes = λ lines number. lines_text (lines number) in
    ap texts (lines_same job)

table_same : (model : Bytes) (job : Job) → table_text model (bare_job job) ≡ table_text model job
unfolding table_text header_of
table_same model job = ap (λ (rows : ℕ → Bytes). header_of model job ++ joined_text (map rows (run_numbers job))) (rows_text_same job)

summary_by : (model : Bytes) (job : Job) → Bytes → (ℕ → List Texts) → Bytes
summary_by model job whole lines =
    joined_text (codes "runs " ∷ decimal (runs_in job) ∷ codes "\nbytes " ∷ decimal (length whole) ∷ codes "\n"
    ∷ last_line (header_lines model job.fields.name job.fields.bounds (varied_names job) job.fields.metrics ++ flat_map lines (run_numbers job)) ∷ [])

summary_same : (model : Bytes) (job : Job) → summary_text model (bare_job job) ≡ summary_text model job
unfolding summary_text summary_by
summary_same model job =
    ap (λ (whole : Bytes). summary_by model job whole (run_lines (bare_job job))) (table_same model job)
    ∙ ap (summary_by model job (table_text model job)) (lines_same job)

made_same : (command : Command) (job : Job) → made_by command (bare_job job) ≡ made_by command job
made_same (over paths table) job = ap Ok (table_same paths.model job)
made_same (over paths check) job = refl
made_same (bench size) job = ap Ok (summary_same _ job)
made_same (over paths (rerun digits)) job =
    ap (λ (rows : ℕ → Bytes). with_fault no_such_run (run_among (runs_in job) (number_of digits)) >>= λ number. Ok (rows number)) (rows_text_same job)

same_jobs : (j k : Job) → bared (Ok j) ≡ bared (Ok k) → bare_job j ≡ bare_job k
same_jobs j k same = cc

comes_once : (command : Command) (r s : Result Job End) → bared r ≡ bared s → (r >>= made_by command) ≡ (s >>= made_by command)
comes_once command (Ok j) (Ok k) same = sym (made_same command j) ∙ ap (made_by command) (same_jobs j k same) ∙ made_same command k
comes_once command (Err a) (Err b) same = let e : Err a ≡ Err b = same in ap (λ (x : Result Job End). x >>= made_by command) e
comes_once command (Ok j) (Err b) same = cc
comes_once command (Err a) (Ok k) same = cc

answers_once : (found : Command → Found) (o : Option Command) (a b : Answer) → AnswersTo o found a → AnswersTo o found b → a ≡ b
answers_once found None a b h k = h ∙ sym k
answers_once found (Some command) a b (r, ((x, (is_x, r_is)), a_is)) (s, ((y, (is_y, s_is)), b_is)) =
    a_is ∙ ap (answer_to (paths_for command)) (r_is ∙ comes_once command x y (jobs_are_alike (found command) x y is_x is_y) ∙ sym s_is) ∙ sym b_is

pub answers_are_unique : AnswersAreUnique
answers_are_unique words folder a b h k = answers_once (λ command. found_in command folder) (command_of words) a b h k
