-- A table is its lines; it is a header and what `rerun` puts; and `check` is Done where it is.
use Rattle.std.proofs.Common.{◌≡◌, inl, inr, ℕ, ◌<◌, ◌≤◌, ◌^◌, true, ◌++◌, Option, Some, Result, Ok, Err, refl, sym, ap, ◌∙◌, subst, arith}
use Rattle.std.specs.Prelude.{nat_le}
use Rattle.std.specs.Fmt.{decimal}
use Rattle.std.specs.List.{flat_map}
use Rattle.std.proofs.lemmas.Bool.Decides.{nat_tests}
use Rattle.nl_fixed.specs.Nouns.{Bytes}
use Rattle.nl_outer.specs.Nouns.{Path}
use Rattle.nl_table.specs.Header.{header_lines, header_text}
use Rattle.nl_table.specs.Lines.{lines_text}
use Rattle.nl_experiment.specs.Numbers.{number_of, run_among}
use Rattle.nl_scan.specs.CodePart.{code_of}
use Rattle.nl_experiment_keys.specs.declared.faults.KeyFault.{KeyFault}
use Rattle.nl_experiment_fields.specs.declared.fields.Fields.{Fields}
use Rattle.nl_experiment.specs.Plan.{experiment_says}
use Rattle.nl_check_model.specs.Verdict.{Verdict}
use Rattle.nl_cli.specs.Steps.{◌>>=◌, Goes, with_fault}
use Rattle.nl_cli.specs.declared.words.Role.{Role}
use Rattle.nl_cli.specs.declared.ends.End.{End}
use Rattle.nl_cli.specs.declared.ends.Status.{Status}
use Rattle.nl_cli.specs.Words.{Command, Paths, table, rerun, check, over, command_of, paths_to}
use Rattle.nl_cli.specs.Inputs.{Found, InputsSay, IsJob, Job, ModelSays, TextsSay, end_of_key, found_in, read, runs_in}
use Rattle.nl_cli.specs.Table.{header_of, rows_text, run_lines, run_numbers, table_text, varied_names}
use Rattle.nl_cli.specs.Answer.{Answer, AnswersTo, ComesTo, answer_to, checked_text, made_by, no_such_run}
use Rattle.nl_cli.specs.Laws.{ChecksTellOfTables, TablesAreInParts, TablesAreLines, check_words, puts_alone, rerun_words, table_words}
use Rattle.nl_cli.proofs.Decimals.{decimal_is_number, decimal_says}
use Rattle.nl_cli.proofs.FewRuns.{few_runs}
use Rattle.nl_cli.proofs.InputSteps.{experiment_read}
use Rattle.nl_cli.proofs.Pieces.{lines_text-append, lines_text-flat_map}

-- ---- lines

pub tables_are_lines : TablesAreLines
unfolding table_text header_of header_text rows_text
tables_are_lines model job =
    let header = header_lines model job.fields.name job.fields.bounds (varied_names job) job.fields.metrics in
    ap (λ rows. lines_text header ++ rows) (sym (lines_text-flat_map (run_lines job) (run_numbers job)))
    ∙ sym (lines_text-append header (flat_map (run_lines job) (run_numbers job)))

-- ---- what an answer that is Done comes from

-- steps that went on to a value
went : {A B E : Type 0} (step : Result A E) (y : B) (next : A → Type 0) → Goes step (Ok y) next → (x : A) × ((step ≡ Ok x) × next x)
went (Ok x) y next h = (x, (refl, h))
went (Err e) y next h = cc

of_fields : (step : Result Fields KeyFault) (f : Fields) → with_fault end_of_key step ≡ Ok f → step ≡ Ok f
of_fields (Ok g) f h = cc
of_fields (Err fault) f h = cc

by_verdict : (f : Fields) (source : Bytes) (v : Verdict) (j : Job) → Goes (with_fault End.Model v) (Ok j) (λ p. TextsSay f p source (Ok j)) → j.fields ≡ f
by_verdict f source (Ok p) j (inl (trees, (are, is))) = let e : j ≡ record { fields = f; program = p; source = source; texts = trees } = cc in ap (λ (x : Job). x.fields) e
by_verdict f source (Ok p) j (inr (fault, (bad, is))) = cc
by_verdict f source (Err fault) j h = cc

inputs_fields : (model experiment : Bytes) (j : Job) → InputsSay model experiment (Ok j) → experiment_says experiment ≡ Ok j.fields
unfolding InputsSay
inputs_fields model experiment j says =
    let (f, (is, (verdict, (said, more)))) = went (with_fault end_of_key (experiment_says experiment)) j (λ f. ModelSays f model (Ok j)) says in
    of_fields (experiment_says experiment) f is ∙ ap Ok (sym (by_verdict f (code_of model) verdict j more))

job_fields : (found : Found) (j : Job) → IsJob found (Ok j) → (experiment : Bytes) × (experiment_says experiment ≡ Ok j.fields)
unfolding IsJob
job_fields found j is =
    let (model, (there, more)) = went (read Role.Model found) j (λ model. experiment_read found (Ok j) model) is in
    let (experiment, (too, says)) = went (read Role.Experiment found) j (λ experiment. InputsSay model experiment (Ok j)) more in
    (experiment, inputs_fields model experiment j says)

-- a job has not too many runs
job_few : (found : Found) (j : Job) → IsJob found (Ok j) → runs_in j ≤ 100000
job_few found j is =
    let (experiment, says) = job_fields found j is in
    few_runs experiment j.fields says

-- an answer that puts bytes alone is that of a job
record IsOfJob (found : Found) (command : Command) (bytes : Bytes) : Type 0 where
  job : Job
  is : IsJob found (Ok job)
  made : made_by command job ≡ Ok bytes

not_end : (paths : Paths) (end : End) (bytes : Bytes) → puts_alone bytes ≡ answer_to paths (Err end) → ⊥
not_end paths (End.Model fault) bytes h = let e = ap (λ (a : Answer). a.status) h in cc
not_end paths (End.Plan fault) bytes h = let e = ap (λ (a : Answer). a.status) h in cc
not_end paths (End.Read role) bytes h = let e = ap (λ (a : Answer). a.status) h in cc
not_end paths End.Write bytes h = let e = ap (λ (a : Answer). a.status) h in cc
not_end paths End.Memory bytes h = let e = ap (λ (a : Answer). a.status) h in cc

same_put : (bytes other : Bytes) → puts_alone bytes ≡ puts_alone other → bytes ≡ other
same_put bytes other h = ap (λ (a : Answer). a.bytes) h

of_job : (paths : Paths) (found : Found) (command : Command) (r : Result Bytes End) (bytes : Bytes) → ComesTo command found r → puts_alone bytes ≡ answer_to paths r → IsOfJob found command bytes
of_job paths found command (Err end) bytes comes is = absurd (not_end paths end bytes is)
of_job paths found command (Ok put) bytes (Ok job, (is_job, made)) is =
    record { job = job; is = is_job; made = sym made ∙ ap Ok (sym (same_put bytes put is)) }
of_job paths found command (Ok put) bytes (Err end, (is_job, made)) is = cc

-- and such a job gives it
job_gives : (found : Command → Found) (o : Option Command) (command : Command) (job : Job) (bytes : Bytes) → o ≡ Some command → IsJob (found command) (Ok job) → made_by command job ≡ Ok bytes
    → AnswersTo o found (puts_alone bytes)
job_gives found o command job bytes form is made =
    subst (λ x. AnswersTo x found (puts_alone bytes)) (sym form) (Ok bytes, ((Ok job, (is, sym made)), refl))

-- ---- parts

rerun_form : (model experiment : Path) (number : ℕ) → number < 2 ^ 64 → command_of (rerun_words model experiment number) ≡ Some (over (paths_to model experiment) (rerun (decimal number)))
rerun_form model experiment number small = rw (decimal_is_number number small) refl

among_runs : (runs n : ℕ) → 1 ≤ n → n ≤ runs → run_among runs n ≡ Ok n
among_runs runs n low high =
    let from : nat_le 1 n ≡ true = grind (arith, nat_tests) in
    let to : nat_le n runs ≡ true = grind (arith, nat_tests) in
    rw (from, to) refl

rerun_made : (paths : Paths) (job : Job) (number : ℕ) → number < 2 ^ 64 → 1 ≤ number → number ≤ runs_in job → made_by (over paths (rerun (decimal number))) job ≡ Ok (rows_text job number)
rerun_made paths job number small low high =
    let e : run_among (runs_in job) (number_of (decimal number)) ≡ Ok number = ap (run_among (runs_in job)) (decimal_says number small) ∙ among_runs (runs_in job) number low high in
    ap (λ r. with_fault no_such_run r >>= λ n. Ok (rows_text job n)) e

pub tables_are_in_parts : TablesAreInParts
unfolding table_text
tables_are_in_parts model experiment folder bytes (r, (comes, is)) =
    let paths = paths_to model experiment in
    let found = found_in (over paths table) folder in
    let of = of_job paths found (over paths table) r bytes comes is in
    let job = of.job in
    let few = job_few found job of.is in
    let made : table_text model job ≡ bytes = cc in
    record {
      header = header_of model job;
      runs = runs_in job;
      rows = rows_text job;
      whole = sym made;
      each = λ number low high.
          let small : number < 2 ^ 64 = omega (arith, high, few) in
          job_gives (λ c. found_in c folder) (command_of (rerun_words model experiment number)) (over paths (rerun (decimal number))) job (rows_text job number)
          (rerun_form model experiment number small) of.is (rerun_made paths job number small low high);
      count = job_gives (λ c. found_in c folder) (command_of (check_words model experiment)) (over paths check) job (checked_text job) refl of.is refl;
    }

-- ---- tables and checks

-- an end comes of the inputs, where the command makes bytes of every job
err_same : (found : Found) (c d : Command) (f : Job → Bytes) → ((j : Job) → made_by c j ≡ Ok (f j)) → (end : End) → ComesTo c found (Err end) → ComesTo d found (Err end)
err_same found c d f made end (Ok j, (is, e)) = let never : Err end ≡ Ok (f j) = e ∙ made j in cc
err_same found c d f made end (Err x, (is, e)) = (Err x, (is, e))

other_answer : (paths : Paths) (found : Found) (c d : Command) (f : Job → Bytes) → ((j : Job) → made_by c j ≡ Ok (f j)) → (r : Result Bytes End) (answer : Answer)
    → (answer.status ≡ Status.Done → ⊥) → ComesTo c found r → answer ≡ answer_to paths r
    → (s : Result Bytes End) × (ComesTo d found s × (answer ≡ answer_to paths s))
other_answer paths found c d f made (Ok bytes) answer undone comes is = absurd (undone (ap (λ (a : Answer). a.status) is))
other_answer paths found c d f made (Err end) answer undone comes is = (Err end, (err_same found c d f made end comes, is))

pub checks_tell_of_tables : ChecksTellOfTables
checks_tell_of_tables model experiment folder =
    let paths = paths_to model experiment in
    let found = found_in (over paths table) folder in (
      (
        (λ h. let of = of_job paths found (over paths table) h.1.0 h.0 h.1.1.0 h.1.1.1 in
            (checked_text of.job, job_gives (λ c. found_in c folder) (command_of (check_words model experiment)) (over paths check) of.job (checked_text of.job) refl of.is refl)),
        (λ h. let of = of_job paths found (over paths check) h.1.0 h.0 h.1.1.0 h.1.1.1 in
            (table_text model of.job, job_gives (λ c. found_in c folder) (command_of (table_words model experiment)) (over paths table) of.job (table_text model of.job) refl of.is refl)),
      ),
      (λ answer undone. (
        (λ h. other_answer paths found (over paths table) (over paths check) (table_text model) (λ j. refl) h.0 answer undone h.1.0 h.1.1),
        (λ h. other_answer paths found (over paths check) (over paths table) checked_text (λ j. refl) h.0 answer undone h.1.0 h.1.1),
      )),
    )
