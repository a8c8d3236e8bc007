-- What further units change of what a run comes to.
use Rattle.std.specs.Prelude.{◌≡◌, ℕ, suc, ◌+◌, ◌-◌, ◌<◌, ◌≤◌}
use Rattle.nl_run.specs.Job.{Job}
use Rattle.nl_run.specs.Course.{Finish, course_within}
use Rattle.nl_run.specs.declared.rows.RunEnd.TheVariants.{Budget}

-- the same with so many units left
abbrev pub with_left : ℕ → Finish → Finish
with_left left f = record f { left = left }

-- What becomes of what units come to where there are more of them. Whole: the end isn't for want of units, it stays with its rows, and all that there is
-- more is left. Cut: the end is for want of units, with none left, and of what there is more at least one unit is spent.
pub data Further (finish : ℕ → Finish) (units : ℕ) : Type 0 where
  Whole : ((finish units).how ≡ Budget → ⊥) →
      ((more : ℕ) → finish (units + more) ≡ with_left ((finish units).left + more) (finish units)) → Further finish units
  Cut : (finish units).how ≡ Budget → (finish units).left ≡ 0 → ((more : ℕ) → (finish (units + suc more)).left ≤ more) → Further finish units

-- each run is whole with its units, or cut
abbrev pub RunsAreWholeOrCut : Type 0
RunsAreWholeOrCut = (j : Job) (units : ℕ) → Further (course_within j) units

-- Where the end isn't for want of units, those that were spent are wanted: with fewer the end is for want of them, with none left; and with these and
-- whatever there is more it is the same end with the same rows, with just that left.
pub record Wants (finish : ℕ → Finish) (wanted : ℕ) (f : Finish) : Type 0 where
  pub fewer : (n : ℕ) → n < wanted → (finish n).how ≡ Budget
  pub spent : (n : ℕ) → n < wanted → (finish n).left ≡ 0
  pub enough : (more : ℕ) → finish (wanted + more) ≡ with_left more f

abbrev pub RunsWantWhatTheySpend : Type 0
RunsWantWhatTheySpend =
    (j : Job) (units : ℕ) → ((course_within j units).how ≡ Budget → ⊥)
    → Wants (course_within j) (units - (course_within j units).left) (course_within j units)

-- what ends for want of units doesn't leave all that there is more
abbrev pub CutRunsLeaveNotAll : Type 0
CutRunsLeaveNotAll =
    (j : Job) (units : ℕ) → (course_within j units).how ≡ Budget
    → ((more : ℕ) → course_within j (units + more) ≡ with_left ((course_within j units).left + more) (course_within j units)) → ⊥
