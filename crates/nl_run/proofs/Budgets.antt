-- The units that are left are some of those that there were.
use Rattle.std.proofs.Common.{ℕ, ◌≤◌, Bool, true, false, [], arith}
use Rattle.std.specs.Prelude.{Option, Some, None}
use Rattle.nl_run.specs.Course.{Finish, Standing, course_within, ends_as, ends_by, measured_if, with_row}
use Rattle.nl_run.specs.Job.{Job, Lone}
use Rattle.nl_run.specs.declared.rows.RunEnd.{RunEnd}
use Rattle.nl_run.proofs.Keeping.{Lasts, cells_keep, course_keeps}

abbrev on : ℕ → Standing → Type 0
on n s = s.left ≤ n

abbrev to : ℕ → Finish → Type 0
to n f = f.left ≤ n

lasts : (n : ℕ) → Lasts (on n) (to n)
lasts n = record {
  fewer = λ s scene left less here. omega (arith, less, here);
  spent = λ s here. here;
  fails = λ s text here. here;
}

measures : (n : ℕ) (truth : Bool) (j : Job) (s : Standing) (next : Standing → Finish) → s.left ≤ n → ((s1 : Standing) → s1.left ≤ n → (next s1).left ≤ n)
    → (measured_if truth j s next).left ≤ n
measures n true j s next here keeps = cells_keep j (on n) (to n) (lasts n) 1 j.metrics [] s _ here (λ all s1 there. keeps (with_row j all s1) there)
measures n false j s next here keeps = keeps s here

ends : (n : ℕ) (when : Option Lone) (how : RunEnd) (j : Job) (s : Standing) → s.left ≤ n → (ends_by when how j s).left ≤ n
ends n None how j s here = measures n true j s (ends_as how) here (λ s1 there. there)
ends n (Some l) how j s here = here

pub units_are_left : (j : Job) (units : ℕ) → (course_within j units).left ≤ units
units_are_left j units =
    course_keeps j (on units) (on units) (to units) (record {
      early = lasts units;
      later = lasts units;
      measures = λ l is truth. measures units truth j;
      goes = λ s here. here;
      counts = λ s here. here;
      steps = ends units j.when _ j;
      condition = ends units j.when _ j;
      stop = ends units j.when _ j;
    }) units (omega arith)
