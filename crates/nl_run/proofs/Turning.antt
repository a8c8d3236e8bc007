-- What a slice of a run comes to.
use Rattle.std.proofs.Common.{◌≡◌, ℕ, zero, suc, ◌+◌, ◌<◌, Bool, true, false, IsTrue, Ok, Err, sym, ap, ◌∙◌, arith}
use Rattle.std.proofs.Math.Dec.{eqb}
use Rattle.std.proofs.lemmas.Bool.{eq-eqb}
use Rattle.nl_agents.specs.declared.store.Store.{Ghosts}
use Rattle.nl_exec.specs.Machines.{units_left}
use Rattle.nl_run.specs.Course.{course_within, ends_as}
use Rattle.nl_run.specs.Going.{is_going}
use Rattle.nl_run.specs.Job.{Job}
use Rattle.nl_run.specs.Left.{rest_by, stands}
use Rattle.nl_run.specs.declared.phase.Phase.{Phase}
use Rattle.nl_run.specs.declared.phase.Phase.TheVariants as phase
use Rattle.nl_run.specs.declared.progress.Progress.{Progress}
use Rattle.nl_run.specs.declared.rows.RunEnd.{RunEnd}
use Rattle.nl_run.specs.inner.Moves.{Allows, HasStopped, IsCut, ended_by}
use Rattle.nl_run.proofs.Moving.{comes_to}

pub going_by : (b : Bool) (p q : Phase) → b ≡ true → b ≡ is_going p → p ≡ q → IsTrue (is_going q)
going_by b p q told is same = sym (ap is_going same) ∙ sym is ∙ told

-- a run that goes on where it stopped waits for a unit, and has spent its slice
pub record Waiting {S : Type 0} {G : Ghosts S} (p q : Phase) (spent : Bool) (j : Job) (g : Progress S G) (left : ℕ) : Type 0 where
  pub same : q ≡ p
  pub none : left ≡ 0
  pub cut : IsCut p j g
  pub further : spent ≡ true → 0 < units_left g.machine

pub waits : {S : Type 0} {G : Ghosts S} (p q : Phase) (spent : Bool) (j : Job) (g : Progress S G) (left : ℕ) → ended_by spent p ≡ Err q → HasStopped p j g left
    → Waiting p q spent j g left
waits (phase.Over how) q spent j g left is stop = absurd (cc)
waits phase.Wanting q true j g left is stop = absurd (cc)
waits phase.Wanting q false j g left is stop = record { same = cc; none = stop.all; cut = stop.waits; further = λ told. absurd (cc) }
waits (phase.Text text) q true j g left is stop = record { same = cc; none = stop.all; cut = stop.waits.cut; further = λ told. stop.waits.further }
waits (phase.Text text) q false j g left is stop = record { same = cc; none = stop.all; cut = stop.waits.cut; further = λ told. stop.waits.further }
waits phase.Step q spent j g left is stop = absurd (stop.waits)
waits phase.Ended q spent j g left is stop = absurd (stop.waits)
waits phase.Failed q spent j g left is stop = absurd (stop.waits)

-- where what is spent isn't the budget, something is left
pub some_left : (x y left : ℕ) → left + x ≡ y → (eqb x y ≡ true → 0 < left) → 0 < left
some_left x y zero sum there = there (eq-eqb x y (omega (arith, sum)))
some_left x y (suc left) sum there = omega arith

module _ {S : Type 0} {G : Ghosts S} (j : Job) (before after : Phase) (was now : Progress S G) (slice left all spent : ℕ)
    (course : (k : ℕ) → rest_by before j was k ≡ course_within j (spent + k))
    (same : (k : ℕ) → Allows slice all k → rest_by after j now (left + k) ≡ rest_by before j was (slice + k)) where
  -- the course with the units of the slice, and with further ones
  pub slice_course : (total n : ℕ) → total ≡ spent + (slice + n) → Allows slice all n → course_within j total ≡ rest_by after j now (left + n)
  slice_course total n sum allows = ap (course_within j) sum ∙ sym (course (slice + n)) ∙ sym (same n allows)

  -- where the run ends
  pub ended_course : (over : Bool) (how : RunEnd) (total n : ℕ) → total ≡ spent + (slice + n) → Allows slice all n → ended_by over after ≡ Ok how
      → (over ≡ true → left + n ≡ 0) → course_within j total ≡ ends_as how (stands now (left + n))
  ended_course over how total n sum allows is none = slice_course total n sum allows ∙ comes_to after over how j now (left + n) is none
