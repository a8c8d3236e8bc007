-- The last row alone has an end, and counts of steps rise.
use Rattle.std.proofs.Common.{◌≡◌, ℕ, zero, suc, ◌+◌, ◌-◌, ◌≤◌, ◌<◌, Bool, true, false, List, [], ◌∷◌, ◌++◌, refl, sym, subst, arith}
use Rattle.std.specs.Prelude.{⊤, ◌==◌, Option, Some, None}
use Rattle.std.proofs.lemmas.Bool.{eq-eqb}
use Rattle.nl_fixed.specs.Nouns.{Texts}
use Rattle.nl_run.specs.Course.{Finish, Standing, counted, ends_as, ends_by, measured_if, rows_by, rows_of, with_row}
use Rattle.nl_run.specs.Job.{Job, Lone}
use Rattle.nl_run.specs.Laws.{EndsLast, Rises, RisesBy, RisesTo, StepsRise}
use Rattle.nl_run.specs.Rows.{closed_by, closing, ended, further, measure, with_end}
use Rattle.nl_run.specs.declared.rows.Row.{Row}
use Rattle.nl_run.specs.declared.rows.RunEnd.{RunEnd}
use Rattle.nl_run.specs.declared.rows.RunEnd.TheVariants as end_
use Rattle.nl_run.proofs.Keeping.{Lasts, cells_keep, course_keeps}

-- ---- rows so far

-- rows that are open, each with more steps than the one before it, and all with fewer than these
abbrev Below : ℕ → List Row → Type 0
Below bound [] = ⊤
Below bound (r ∷ []) = (r.end ≡ end_.Open) × (r.step < bound)
Below bound (r ∷ s ∷ rs) = (r.end ≡ end_.Open) × ((r.step < s.step) × Below bound (s ∷ rs))

wider : (few many : ℕ) (rs : List Row) → few ≤ many → Below few rs → Below many rs
wider few many [] more all = tt
wider few many (r ∷ []) more all = (all.0, omega (arith, all.1, more))
wider few many (r ∷ s ∷ rs) more all = (all.0, (all.1.0, wider few many (s ∷ rs) more all.1.1))

measured_more : (j : Job) (bound : ℕ) (rs : List Row) (cells : Texts) → Below bound rs → Below (bound + 1) (rs ++ measure j bound cells ∷ [])
measured_more j bound [] cells all = (refl, omega arith)
measured_more j bound (r ∷ []) cells all = (all.0, (all.1, (refl, omega arith)))
measured_more j bound (r ∷ s ∷ rs) cells all = (all.0, (all.1.0, measured_more j bound (s ∷ rs) cells all.1.1))

-- ---- ends

abbrev Right : List Row → Type 0
Right rs = EndsLast rs × StepsRise rs

-- more steps are enough, whatever a row is
rises : (r s : Row) → r.step < s.step → Rises r s
rises r s less = by s.cells s.end
  where
    alone : (how : RunEnd) → RisesTo r.step s.step how
    alone end_.Open = less
    alone end_.Steps = less
    alone end_.Condition = less
    alone end_.Stop = less
    alone end_.Budget = omega (arith, less)
    alone (end_.Error text) = omega (arith, less)

    by : (cells : Option Texts) (how : RunEnd) → RisesBy r.step s.step cells how
    by (Some cells) how = less
    by None how = alone how

Ends : Row → Type 0
Ends last = last.end ≡ end_.Open → ⊥

-- a row with an end behind these
behind_right : (bound : ℕ) (last : Row) (rs : List Row) → Ends last → ((r : Row) → r.step < bound → Rises r last) → Below bound rs → Right (rs ++ last ∷ [])
unfolding Ends
behind_right bound last [] ends rise all = (ends, tt)
behind_right bound last (r ∷ []) ends rise all = ((all.0, ends), (rise r all.1, tt))
behind_right bound last (r ∷ s ∷ rs) ends rise all =
    let rest = behind_right bound last (s ∷ rs) ends rise all.1.1 in
    ((all.0, rest.0), (rises r s all.1.0, rest.1))

-- counts that aren't the same, and not above
apart : (x y d : ℕ) → y - x ≡ d → x < y + 1 → (x == y) ≡ false → x < y
apart x y zero gap few is =
    let same : (x == y) ≡ true = eq-eqb x y (omega (arith, gap, few)) in
    absurd (cc)
apart x y (suc d) gap few is = omega (arith, gap)

one_right : (same : Bool) (last r : Row) → (r.step == last.step) ≡ same → Ends last → r.end ≡ end_.Open → r.step < last.step + 1 → Right (with_end same last r)
unfolding Ends
one_right true last r is ends is_open few = (ends, tt)
one_right false last r is ends is_open few = ((is_open, ends), (rises r last (apart r.step last.step (last.step - r.step) refl few is), tt))

ahead_one : (same : Bool) (last r s : Row) → r.end ≡ end_.Open → r.step < s.step → Right (with_end same last s) → Right (r ∷ with_end same last s)
ahead_one true last r s is_open less right = ((is_open, right.0), (rises r (ended last.end s) less, right.1))
ahead_one false last r s is_open less right = ((is_open, right.0), (rises r s less, right.1))

ahead : (last r s : Row) (rs : List Row) → r.end ≡ end_.Open → r.step < s.step → Right (closing last (s ∷ rs)) → Right (r ∷ closing last (s ∷ rs))
ahead last r s [] is_open less right = ahead_one (s.step == last.step) last r s is_open less right
ahead last r s (t ∷ rs) is_open less right = ((is_open, right.0), (rises r s less, right.1))

closing_right : (last : Row) (rs : List Row) → Ends last → Below (last.step + 1) rs → Right (closing last rs)
unfolding Ends
closing_right last [] ends all = (ends, tt)
closing_right last (r ∷ []) ends all = one_right (r.step == last.step) last r refl ends all.0 all.1
closing_right last (r ∷ s ∷ rs) ends all = ahead last r s rs all.0 all.1.0 (closing_right last (s ∷ rs) ends all.1.1)

-- ---- the course

abbrev to : Job → Finish → Type 0
to j f = Right (rows_by j f)

-- where the run measures at its end alone, there are no rows yet
abbrev NoneYet : Option Lone → List Row → Type 0
NoneYet None rows = rows ≡ []
NoneYet (Some l) rows = ⊤

-- before a measure
record Before (j : Job) (s : Standing) : Type 0 where
  rows : Below s.step s.rows
  none : NoneYet j.when s.rows

-- between two steps
record On (j : Job) (s : Standing) : Type 0 where
  rows : Below (s.step + 1) s.rows
  none : NoneYet j.when s.rows

spent_right : (j : Job) (step : ℕ) (rs : List Row) → Below (step + 1) rs → Right (rs ++ further j step end_.Budget ∷ [])
unfolding Ends
spent_right j step rs all = behind_right (step + 1) (further j step end_.Budget) rs (λ is. cc) (λ r few. omega (arith, few)) all

failed_right : (j : Job) (step : ℕ) (text : List ℕ) (rs : List Row) → Below (step + 1) rs → Right (rs ++ further j step (end_.Error text) ∷ [])
unfolding Ends
failed_right j step text rs all = behind_right (step + 1) (further j step (end_.Error text)) rs (λ is. cc) (λ r few. omega (arith, few)) all

before_lasts : (j : Job) → Lasts (Before j) (to j)
before_lasts j = record {
  fewer = λ s scene left less here. record { rows = here.rows; none = here.none };
  spent = λ s here. spent_right j s.step s.rows (wider s.step (s.step + 1) s.rows (omega arith) here.rows);
  fails = λ s text here. failed_right j s.step text s.rows (wider s.step (s.step + 1) s.rows (omega arith) here.rows);
}

on_lasts : (j : Job) → Lasts (On j) (to j)
on_lasts j = record {
  fewer = λ s scene left less here. record { rows = here.rows; none = here.none };
  spent = λ s here. spent_right j s.step s.rows here.rows;
  fails = λ s text here. failed_right j s.step text s.rows here.rows;
}

goes_on : (j : Job) (s : Standing) → Before j s → On j s
goes_on j s here = record { rows = wider s.step (s.step + 1) s.rows (omega arith) here.rows; none = here.none }

measures_by : (j : Job) (l : Lone) → j.when ≡ Some l → (truth : Bool) (s : Standing) (next : Standing → Finish) → Before j s → ((s1 : Standing) → On j s1 → to j (next s1))
    → to j (measured_if truth j s next)
measures_by j l is true s next here keeps =
    cells_keep j (Before j) (to j) (before_lasts j) 1 j.metrics [] s _ here (λ all s1 there.
    keeps (with_row j all s1) (record {
      rows = measured_more j s1.step s1.rows all there.rows;
      none = subst (λ w. NoneYet w (s1.rows ++ measure j s1.step all ∷ [])) (sym is) tt;
    }))
measures_by j l is false s next here keeps = keeps s (goes_on j s here)

counts : (j : Job) (s : Standing) → On j s → Before j (counted s)
counts j s here = record { rows = here.rows; none = here.none }

-- a regular end has its row
regular_right : (how : RunEnd) (j : Job) → (how ≡ end_.Open → ⊥) → ((step : ℕ) (rs : List Row) → closed_by j step how rs ≡ closing (further j step how) rs)
    → (s : Standing) → Below (s.step + 1) s.rows → to j (ends_as how s)
unfolding Ends
regular_right how j ends closes s all = subst Right (sym (closes s.step s.rows)) (closing_right (further j s.step how) s.rows ends all)

ends_so : (text : Option Lone) (how : RunEnd) (j : Job) → j.when ≡ text → (how ≡ end_.Open → ⊥)
    → ((step : ℕ) (rs : List Row) → closed_by j step how rs ≡ closing (further j step how) rs) → (s : Standing) → On j s → to j (ends_by text how j s)
ends_so (Some l) how j is ends closes s here = regular_right how j ends closes s here.rows
ends_so None how j is ends closes s here =
    let none : s.rows ≡ [] = subst (λ w. NoneYet w s.rows) is here.none in
    cells_keep j (Before j) (to j) (before_lasts j) 1 j.metrics [] s _
    (record { rows = subst (Below s.step) (sym none) tt; none = here.none })
    (λ all s1 there. regular_right how j ends closes (with_row j all s1) (measured_more j s1.step s1.rows all there.rows))

first : (text : Option Lone) → NoneYet text []
first None = refl
first (Some l) = tt

pub rows_are_right : (j : Job) → EndsLast (rows_of j) × StepsRise (rows_of j)
unfolding rows_of
rows_are_right j =
    course_keeps j (Before j) (On j) (to j) (record {
      early = before_lasts j;
      later = on_lasts j;
      measures = measures_by j;
      goes = goes_on j;
      counts = counts j;
      steps = ends_so j.when end_.Steps j refl (λ is. cc) (λ step rs. refl);
      condition = ends_so j.when end_.Condition j refl (λ is. cc) (λ step rs. refl);
      stop = ends_so j.when end_.Stop j refl (λ is. cc) (λ step rs. refl);
    }) j.budget (record { rows = tt; none = first j.when })
