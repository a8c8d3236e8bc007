-- From what the parts of a command did to its course.
use Rattle.std.proofs.Common.{◌≡◌, inl, inr, ℕ, ◌≤◌, Bool, true, false, ◌&&◌, if◌then◌else◌, [], Some, Result, Ok, Err, refl, sym, ap, subst, arith}
use Rattle.std.specs.Prelude.{nat_le}
use Rattle.std.specs.Option.{ForSome}
use Rattle.std.proofs.lemmas.Bool.Decides.{nat_tests}
use Rattle.nl_fixed.specs.Nouns.{Bytes}
use Rattle.nl_experiment_keys.specs.declared.faults.PlanKind.{PlanKind}
use Rattle.nl_experiment_keys.specs.declared.faults.PlanKind.TheVariants.{NoSuchRun}
use Rattle.nl_experiment.specs.Numbers.{number_of, run_among}
use Rattle.nl_cli.specs.declared.ends.End.{End}
use Rattle.nl_cli.specs.Steps.{◌>>=◌, with_fault}
use Rattle.nl_cli.specs.Words.{Command, Paths, Task, table, rerun, check, over, bench}
use Rattle.nl_cli.specs.Inputs.{Found, IsJob, Job, found_at, found_in, made_for, runs_in}
use Rattle.nl_cli.specs.Table.{rows_text, summary_text}
use Rattle.nl_cli.specs.Answer.{ComesTo, done_by, made_by, no_such_run}
use Rattle.nl_cli.specs.Outcome.{AllRead, Asked, Given, told_over}
use Rattle.nl_cli.specs.inner.Stages.{Does, Gathers, IsNoRun, IsRunIn, Makes, Measures, NothingPut, Puts, Runs}

-- ---- numbers of runs

among : (first second : Bool) (n number : ℕ) → Ok number ≡ (if first && second then Ok n else Err NoSuchRun) → (first ≡ true) × (second ≡ true) × (number ≡ n)
among true true n number h = (refl, refl, cc)
among true false n number h = cc
among false second n number h = cc

-- a number that is named is that of a run
pub named_is_run : (job : Job) (digits : Bytes) (number : ℕ) → Ok number ≡ run_among (runs_in job) (number_of digits) → IsRunIn job number
named_is_run job digits number h =
    let n = number_of digits in
    let (from, to, same) = among (nat_le 1 n) (nat_le n (runs_in job)) n number h in
    let low : 1 ≤ number = rw same (grind (arith, nat_tests)) in
    let high : number ≤ runs_in job = rw same (grind (arith, nat_tests)) in
    record { from = low; to = high }

-- ---- tasks

pub rerun_goes : (job : Job) (digits : Bytes) (number : ℕ) (sink : Given) (r : Result (Unit {0}) End)
    → Ok number ≡ run_among (runs_in job) (number_of digits) → Puts (rows_text job number) sink r → Does (done_by [] (rerun digits) job) sink r
rerun_goes job digits number sink r e puts = subst (λ x. Does (with_fault no_such_run x >>= λ n. Ok (rows_text job n)) sink r) e puts

no_run : (kind : PlanKind) (sink : Given) (end : End) → IsNoRun kind end → NothingPut sink → Does (Err (no_such_run kind)) sink (Err end)
no_run kind sink end (inl e) nothing = (nothing, inl (ap Err e))
no_run kind sink end (inr e) nothing = (nothing, inr (ap Err e))

pub rerun_stops : (job : Job) (digits : Bytes) (kind : PlanKind) (sink : Given) (end : End)
    → Err kind ≡ run_among (runs_in job) (number_of digits) → IsNoRun kind end → NothingPut sink → Does (done_by [] (rerun digits) job) sink (Err end)
rerun_stops job digits kind sink end e told nothing =
    subst (λ x. Does (with_fault no_such_run x >>= λ n. Ok (rows_text job n)) sink (Err end)) e (no_run kind sink end told nothing)

-- ---- courses

module _ (command : Command) (files : Asked) (out : Given) where
  puts_run : (bytes : Bytes) (r : Result (Unit {0}) End) → AllRead files
      → ForSome (told_over (Some command) files.folder) (λ folder. ComesTo command (found_in command folder) (Ok bytes)) → Puts bytes out r → Runs command files out r
  puts_run bytes (Ok _) all comes puts = (all, puts.0, λ folder is. (bytes, comes folder is, puts.1))
  puts_run bytes (Err End.Write) all comes puts = (all, puts.0, λ folder is. record { bytes = bytes; comes = comes folder is; part = puts.1 })
  puts_run bytes (Err End.Memory) all comes puts = (all, puts.0, λ folder is. inr (record { bytes = bytes; comes = comes folder is; part = puts.1 }))
  puts_run bytes (Err (End.Model fault)) all comes puts = absurd puts
  puts_run bytes (Err (End.Plan fault)) all comes puts = absurd puts
  puts_run bytes (Err (End.Read role)) all comes puts = absurd puts

  plan_run : (kind : PlanKind) (r : Result (Unit {0}) End) → AllRead files
      → ForSome (told_over (Some command) files.folder) (λ folder. ComesTo command (found_in command folder) (Err (no_such_run kind))) → Does (Err (no_such_run kind)) out r → Runs command files out r
  plan_run kind r all comes (nothing, inl e) = subst (λ x. Runs command files out x) (sym e) (all, nothing, comes)
  plan_run kind r all comes (nothing, inr e) = subst (λ x. Runs command files out x) (sym e) (all, nothing.sound, λ folder is. inl nothing.nothing)

-- what a task comes to over its job
comes_of : (command : Command) (found : Found) (job : Job) → IsJob found (Ok job) → ComesTo command found (made_by command job)
comes_of command found job is = (Ok job, (is, refl))

named_run : (paths : Paths) (digits : Bytes) (files : Asked) (out : Given) (job : Job) (x : Result ℕ PlanKind) (r : Result (Unit {0}) End)
    → AllRead files
    → ForSome files.folder (λ folder. ComesTo (over paths (rerun digits)) (found_in (over paths (rerun digits)) folder) (with_fault no_such_run x >>= λ n. Ok (rows_text job n)))
    → Does (with_fault no_such_run x >>= λ n. Ok (rows_text job n)) out r → Runs (over paths (rerun digits)) files out r
named_run paths digits files out job (Ok number) r all comes does = puts_run (over paths (rerun digits)) files out (rows_text job number) r all comes does
named_run paths digits files out job (Err kind) r all comes does = plan_run (over paths (rerun digits)) files out kind r all comes does

pub task_runs : (paths : Paths) (task : Task) (files : Asked) (out : Given) (job : Job) (r : Result (Unit {0}) End) → AllRead files
    → ForSome files.folder (λ folder. IsJob (found_at paths folder) (Ok job)) → Does (done_by paths.model task job) out r → Runs (over paths task) files out r
task_runs paths table files out job r all is does =
    puts_run (over paths table) files out _ r all (λ folder at. comes_of (over paths table) (found_at paths folder) job (is folder at)) does
task_runs paths check files out job r all is does =
    puts_run (over paths check) files out _ r all (λ folder at. comes_of (over paths check) (found_at paths folder) job (is folder at)) does
task_runs paths (rerun digits) files out job r all is does =
    named_run paths digits files out job (run_among (runs_in job) (number_of digits)) r all
    (λ folder at. comes_of (over paths (rerun digits)) (found_at paths folder) job (is folder at)) does

-- the inputs of a task stop it
pub inputs_stop : (paths : Paths) (task : Task) (files : Asked) (out : Given) (end : End) → NothingPut out → Gathers paths files (Err end) → Runs (over paths task) files out (Err end)
inputs_stop paths task files out (End.Read role) nothing stops = (
  record {
    rose = stops.rose;
    named = ap Some stops.named;
    told = stops.named;
    turn = λ folder is. (Err (End.Read role), (stops.turn folder is, refl));
  },
  nothing,
)
inputs_stop paths task files out (End.Model fault) nothing stops = (stops.0, nothing, λ folder is. (Err (End.Model fault), (stops.1 folder is, refl)))
inputs_stop paths task files out (End.Plan fault) nothing stops = (stops.0, nothing, λ folder is. (Err (End.Plan fault), (stops.1 folder is, refl)))
inputs_stop paths task files out End.Memory nothing stops = (stops, nothing.sound, λ folder is. inl nothing.nothing)
inputs_stop paths task files out End.Write nothing stops = absurd stops

-- ---- the measure

pub measure_stops : (size : ℕ) (out : Given) (end : End) → NothingPut out → Makes size (Err end) → Measures size out (Err end)
measure_stops size out (End.Model fault) nothing stops = (nothing, (Err (End.Model fault), (stops, refl)))
measure_stops size out (End.Plan fault) nothing stops = (nothing, (Err (End.Plan fault), (stops, refl)))
measure_stops size out End.Memory nothing stops = (nothing.sound, inl nothing.nothing)
measure_stops size out (End.Read role) nothing stops = absurd stops
measure_stops size out End.Write nothing stops = absurd stops

pub measure_puts : (size : ℕ) (model : Bytes) (out : Given) (job : Job) (r : Result (Unit {0}) End) → made_by (bench size) job ≡ Ok (summary_text model job)
    → IsJob (made_for size) (Ok job) → Puts (summary_text model job) out r → Measures size out r
measure_puts size model out job (Ok _) called is puts = (puts.0, (summary_text model job, (Ok job, (is, sym called)), puts.1))
measure_puts size model out job (Err End.Write) called is puts =
    (puts.0, record { bytes = summary_text model job; comes = (Ok job, (is, sym called)); part = puts.1 })
measure_puts size model out job (Err End.Memory) called is puts =
    (puts.0, inr (record { bytes = summary_text model job; comes = (Ok job, (is, sym called)); part = puts.1 }))
measure_puts size model out job (Err (End.Model fault)) called is puts = absurd puts
measure_puts size model out job (Err (End.Plan fault)) called is puts = absurd puts
measure_puts size model out job (Err (End.Read role)) called is puts = absurd puts

-- a measure reads no file
pub measure_runs : (size : ℕ) (files : Asked) (out : Given) (r : Result (Unit {0}) End) → AllRead files → Measures size out r → Runs (bench size) files out r
measure_runs size files out (Ok _) all does = (all, does.0, λ folder is. does.1)
measure_runs size files out (Err (End.Model fault)) all does = (all, does.0, λ folder is. does.1)
measure_runs size files out (Err (End.Plan fault)) all does = (all, does.0, λ folder is. does.1)
measure_runs size files out (Err End.Write) all does = (all, does.0, λ folder is. does.1)
measure_runs size files out (Err End.Memory) all does = (all, does.0, λ folder is. does.1)
measure_runs size files out (Err (End.Read role)) all does = absurd does
