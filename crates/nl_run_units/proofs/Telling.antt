-- From what a run comes to beside that of more units to the laws.
use Rattle.std.proofs.Common.{◌≡◌, ◌∙◌, ℕ, zero, suc, ◌+◌, ◌-◌, ◌<◌, ◌≤◌, ◌⊎◌, inl, inr, IsTrue, refl, sym, ap, arith}
use Rattle.nl_run.specs.Job.{Job}
use Rattle.nl_run.specs.Course.{Finish, course_within}
use Rattle.nl_run.specs.declared.rows.RunEnd.{RunEnd}
use Rattle.nl_run.specs.declared.rows.RunEnd.TheVariants as end_
use Rattle.nl_exec_units.proofs.Beside.{up}
use Rattle.nl_exec_units.proofs.Telling.{up-is}
use Rattle.nl_run_units.specs.Courses.{with_left, Further, Whole, Cut, Wants, RunsAreWholeOrCut, RunsWantWhatTheySpend, CutRunsLeaveNotAll}
use Rattle.nl_run_units.proofs.Coursing.{Beside, whole, cut, by_itself, few-left, course-beside}

itself_or_budget : (how : RunEnd) → IsTrue (by_itself how) ⊎ (how ≡ end_.Budget)
itself_or_budget end_.Open = inl refl
itself_or_budget end_.Steps = inl refl
itself_or_budget end_.Condition = inl refl
itself_or_budget end_.Stop = inl refl
itself_or_budget end_.Budget = inr refl
itself_or_budget (end_.Error text) = inl refl

not-budget : {how : RunEnd} → IsTrue (by_itself how) → how ≡ end_.Budget → ⊥
not-budget itself is = cc (ap by_itself is)

stays : {k n : ℕ} {f f1 : Finish} → Beside k n f f1 → IsTrue (by_itself f.how) → f1 ≡ with_left (up f.left k) f
stays (whole itself few) is = refl
stays (cut budget none after) is = absurd (not-budget is budget)

none-left : {k n : ℕ} {f f1 : Finish} → Beside k n f f1 → f.how ≡ end_.Budget → f.left ≡ 0
none-left (whole itself few) is = absurd (not-budget itself is)
none-left (cut budget none after) is = none

at_most-left : {k n : ℕ} {f f1 : Finish} → Beside k n f f1 → f.how ≡ end_.Budget → f1.left ≤ k
at_most-left (whole itself few) is = absurd (not-budget itself is)
at_most-left (cut budget none after) is = after

module _ (j : Job) (units : ℕ) where
  sum : (k : ℕ) → Beside k units (course_within j units) (course_within j (units + suc k))
  sum k = rw up-is at (course-beside k j units)

  all-left : IsTrue (by_itself (course_within j units).how) → (more : ℕ) →
      course_within j (units + more) ≡ with_left ((course_within j units).left + more) (course_within j units)
  all-left itself zero =
      ap (course_within j) (omega arith) ∙ ap (λ n. with_left n (course_within j units)) (omega arith)
  all-left itself (suc k) = stays (sum k) itself ∙ ap (λ n. with_left n (course_within j units)) (up-is (course_within j units).left k)

  run-further : Further (course_within j) units
  run-further = elim (itself_or_budget (course_within j units).how) as (λ w. Further (course_within j) units) [
    | inl itself ↦ Whole (not-budget itself) (all-left itself)
    | inr is ↦ Cut is (none-left (sum 0) is) (λ more. at_most-left (sum more) is)
  ]

pub runs_are_whole_or_cut : RunsAreWholeOrCut
runs_are_whole_or_cut j units = run-further j units

leaves-not_all : (finish : ℕ → Finish) (units : ℕ) → Further finish units → (finish units).how ≡ end_.Budget →
    ((more : ℕ) → finish (units + more) ≡ with_left ((finish units).left + more) (finish units)) → ⊥
leaves-not_all finish units (Whole not_budget all) is over = not_budget is
leaves-not_all finish units (Cut is none spends) budget over =
    let more : (finish (units + 1)).left ≡ (finish units).left + 1 = ap (λ f. f.left) (over 1) in absurd (omega (arith, more, spends 0))

pub cut_runs_leave_not_all : CutRunsLeaveNotAll
cut_runs_leave_not_all j units = leaves-not_all (course_within j) units (runs_are_whole_or_cut j units)

-- ---- what is wanted

cut-below : (finish : ℕ → Finish) (wanted left n : ℕ) → (finish (wanted + left)).left ≡ left → n < wanted → Further finish n →
    ((finish n).how ≡ end_.Budget) × ((finish n).left ≡ 0)
cut-below finish wanted left n has few (Cut is none spends) = (is, none)
cut-below finish wanted left n has few (Whole not_budget all) =
    let there : n + (wanted + left - n) ≡ wanted + left = omega (arith, few) in
    let same : (finish (wanted + left)).left ≡ (finish n).left + (wanted + left - n) =
    ap (λ m. (finish m).left) (sym there) ∙ ap (λ f. f.left) (all (wanted + left - n)) in
    absurd (omega (arith, few, has, same))

not-cut : (finish : ℕ → Finish) (wanted left : ℕ) → (finish (wanted + left)).left ≡ left → ((finish (wanted + left)).how ≡ end_.Budget → ⊥) →
    (finish wanted).how ≡ end_.Budget → ((more : ℕ) → (finish (wanted + suc more)).left ≤ more) → ⊥
not-cut finish wanted zero has ends_itself is spends =
    let there : wanted + 0 ≡ wanted = omega arith in ends_itself (ap (λ m. (finish m).how) there ∙ is)
not-cut finish wanted (suc left) has ends_itself is spends = omega (arith, has, spends left)

all-over : (finish : ℕ → Finish) (wanted left : ℕ) → (finish (wanted + left)).left ≡ left → ((finish (wanted + left)).how ≡ end_.Budget → ⊥) →
    Further finish wanted → (more : ℕ) → finish (wanted + more) ≡ with_left more (finish (wanted + left))
all-over finish wanted left has ends_itself (Cut is none spends) more = absurd (not-cut finish wanted left has ends_itself is spends)
all-over finish wanted left has ends_itself (Whole not_budget all) more =
    let units : (finish (wanted + left)).left ≡ (finish wanted).left + left = ap (λ f. f.left) (all left) in
    let none : (finish wanted).left + more ≡ more = omega (arith, has, units) in
    all more ∙ ap (λ n. with_left n (finish wanted)) none ∙ ap (λ f. with_left more f) (sym (all left))

wants-at : (finish : ℕ → Finish) → ((units : ℕ) → Further finish units) → (wanted left : ℕ) → (finish (wanted + left)).left ≡ left →
    ((finish (wanted + left)).how ≡ end_.Budget → ⊥) → Wants finish wanted (finish (wanted + left))
wants-at finish further wanted left has ends_itself = record {
  fewer = λ n few. (cut-below finish wanted left n has few (further n)).0;
  spent = λ n few. (cut-below finish wanted left n has few (further n)).1;
  enough = all-over finish wanted left has ends_itself (further wanted);
}

wants-of : (finish : ℕ → Finish) → ((units : ℕ) → Further finish units) → (units : ℕ) → (finish units).left ≤ units →
    ((finish units).how ≡ end_.Budget → ⊥) → Wants finish (units - (finish units).left) (finish units)
wants-of finish further units few ends_itself =
    let left = (finish units).left in
    let all : units - left + left ≡ units = omega (arith, few) in
    rw all at (wants-at finish further (units - left) left (ap (λ n. (finish n).left) all) (rw all ends_itself))

pub runs_want_what_they_spend : RunsWantWhatTheySpend
runs_want_what_they_spend j units = wants-of (course_within j) (runs_are_whole_or_cut j) units (few-left (course-beside 0 j units))
