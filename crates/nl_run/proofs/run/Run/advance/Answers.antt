-- What a slice of a run leaves is its course with the units spent so far.
use Rattle.std.proofs.Common.{◌≡◌, ℕ, ◌+◌, ◌-◌, ◌≤◌, ◌<◌, true, refl, ap, ◌∙◌, sym, subst, arith}
use Rattle.std.specs.Prelude.{min}
use Rattle.std.proofs.Math.Dec.{eqb}
use Rattle.std.proofs.lemmas.Bool.{eqb-true}
use Rattle.nl_exec.specs.Machines.{spent_of, units_left}
use Rattle.nl_run.specs.Course.{Finish, course_within, ends_as, rows_of}
use Rattle.nl_run.specs.Left.{IsReady, rest_by, stands}
use Rattle.nl_run.specs.Plans.{job_in}
use Rattle.nl_run.specs.Rows.{closed_by}
use Rattle.nl_run.specs.Runs.{left_more}
use Rattle.nl_run.specs.declared.phase.Phase.{Phase}
use Rattle.nl_run.proofs.Turning.{ended_course, going_by, slice_course, some_left, waits}
use Rattle.nl_run.proofs.run.Run.advance.Goals as goal

-- ---- numbers of units

cut_is : (cut asked total budget used spent all : ℕ) → cut ≡ min asked (total - used) → total ≡ budget → used ≡ spent → spent + all ≡ budget → cut ≡ min asked all
cut_is cut asked total budget used spent all is same is_spent sum = omega (arith, is, same, is_spent, sum)

none_behind : (slice left all spent now budget : ℕ) → slice ≤ all → now + left ≡ spent + slice → spent + all ≡ budget → now ≡ budget → left + (all - slice) ≡ 0
none_behind slice left all spent now budget within sum whole is = omega (arith, within, sum, whole, is)

none_more : (slice all n : ℕ) → slice ≡ all → all - slice ≡ 0
none_more slice all n is = omega (arith, is)

pub invariant_of-self-in-Err : goal.invariant_of-self-in-Err
invariant_of-self-in-Err g c =
    let r = c.args.self.now in
    let j = job_in r.plan in
    let m = r.progress.machine in
    let now = c.work.new.progress in
    let done = c.in_ok-phase.ensures in
    let going = going_by c.is_going.result c.replace-phase.result r.phase c.if-not-is_going.false c.is_going.ensures c.replace-phase.ensures.value in
    let whole = r.budget going in
    let slice_is = cut_is c.min.result c.args.units c.budget.result j.budget c.spent.result (spent_of m) (units_left m) c.min.ensures c.budget.ensures c.spent.ensures whole in
    let wait = waits c.in_ok-phase.phase c.in-Err.phase (eqb c.spent-2.result c.budget-2.result) j now c.in_ok-phase._left (sym c.in-Err.ensures) done.stop in
    let sum : units_left now.machine + c.spent-2.result ≡ c.budget-2.result = omega (arith, done.units.all, c.spent-2.ensures, c.budget-2.ensures, whole) in
    let further : 0 < units_left now.machine = some_left c.spent-2.result c.budget-2.result (units_left now.machine) sum wait.further in
    let fewer : c.min.result < units_left m = omega (arith, further, done.units.all, done.units.spent, wait.none) in
    let before = c.replace-phase.result in
    let course = λ (k : ℕ). ap (λ (p : Phase). rest_by p j r.progress k) c.replace-phase.ensures.value ∙ r.course going k in
    record {
      ready = λ told. subst (λ (p : Phase). IsReady p j now) (sym wait.same) done.ready;
      budget = λ told. omega (arith, done.units.all, whole);
      course = λ told n.
          (let left_is : n ≡ c.in_ok-phase._left + n = omega (arith, wait.none) in
          let total_is : spent_of now.machine + n ≡ spent_of m + (c.min.result + n) = omega (arith, done.units.spent, wait.none) in
          ap (λ (p : Phase). rest_by p j now n) wait.same ∙ ap (rest_by c.in_ok-phase.phase j now) left_is
          ∙ sym (slice_course j before c.in_ok-phase.phase r.progress now c.min.result c.in_ok-phase._left (units_left m) (spent_of m) course done.rest
          (spent_of now.machine + n) n total_is (λ is. absurd (omega (arith, is, fewer)))));
    }

pub returns-in-Err-clause-rows : goal.returns-in-Err-clause-rows
returns-in-Err-clause-rows g c = λ told.
    let r = c.args.self.now in
    let j = job_in r.plan in
    let m = r.progress.machine in
    let now = c.work.new.progress in
    let done = c.in_ok-phase.ensures in
    let going = going_by c.is_going.result c.replace-phase.result r.phase c.if-not-is_going.false c.is_going.ensures c.replace-phase.ensures.value in
    let whole = r.budget going in
    let slice_is = cut_is c.min.result c.args.units c.budget.result j.budget c.spent.result (spent_of m) (units_left m) c.min.ensures c.budget.ensures c.spent.ensures whole in
    let wait = waits c.in_ok-phase.phase c.in-Err.phase (eqb c.spent-2.result c.budget-2.result) j now c.in_ok-phase._left (sym c.in-Err.ensures) done.stop in
    let sum : units_left now.machine + c.spent-2.result ≡ c.budget-2.result = omega (arith, done.units.all, c.spent-2.ensures, c.budget-2.ensures, whole) in
    let further : 0 < units_left now.machine = some_left c.spent-2.result c.budget-2.result (units_left now.machine) sum wait.further in
    let fewer : c.min.result < units_left m = omega (arith, further, done.units.all, done.units.spent, wait.none) in
    let course = λ (k : ℕ). ap (λ (p : Phase). rest_by p j r.progress k) c.replace-phase.ensures.value ∙ r.course going k in
    let total_is : spent_of m + c.args.units ≡ spent_of m + (c.min.result + 0) = omega (arith, slice_is, fewer) in
    let none : c.in_ok-phase._left + 0 ≡ 0 = omega (arith, wait.none) in
    let rest_is = slice_course j c.replace-phase.result c.in_ok-phase.phase r.progress now c.min.result c.in_ok-phase._left (units_left m) (spent_of m) course done.rest
    (spent_of m + c.args.units) 0 total_is (λ is. refl) in
    sym (ap (λ (f : Finish). f.rows) (rest_is ∙ ap (rest_by c.in_ok-phase.phase j now) none) ∙ wait.cut.rows)

pub returns-in-Err-clause-cut : goal.returns-in-Err-clause-cut
returns-in-Err-clause-cut g c = λ told.
    let r = c.args.self.now in
    let j = job_in r.plan in
    let m = r.progress.machine in
    let now = c.work.new.progress in
    let done = c.in_ok-phase.ensures in
    let going = going_by c.is_going.result c.replace-phase.result r.phase c.if-not-is_going.false c.is_going.ensures c.replace-phase.ensures.value in
    let whole = r.budget going in
    let slice_is = cut_is c.min.result c.args.units c.budget.result j.budget c.spent.result (spent_of m) (units_left m) c.min.ensures c.budget.ensures c.spent.ensures whole in
    let wait = waits c.in_ok-phase.phase c.in-Err.phase (eqb c.spent-2.result c.budget-2.result) j now c.in_ok-phase._left (sym c.in-Err.ensures) done.stop in
    let sum : units_left now.machine + c.spent-2.result ≡ c.budget-2.result = omega (arith, done.units.all, c.spent-2.ensures, c.budget-2.ensures, whole) in
    let further : 0 < units_left now.machine = some_left c.spent-2.result c.budget-2.result (units_left now.machine) sum wait.further in
    let fewer : c.min.result < units_left m = omega (arith, further, done.units.all, done.units.spent, wait.none) in
    let course = λ (k : ℕ). ap (λ (p : Phase). rest_by p j r.progress k) c.replace-phase.ensures.value ∙ r.course going k in
    let total_is : spent_of m + c.args.units ≡ spent_of m + (c.min.result + 0) = omega (arith, slice_is, fewer) in
    let none : c.in_ok-phase._left + 0 ≡ 0 = omega (arith, wait.none) in
    let rest_is = slice_course j c.replace-phase.result c.in_ok-phase.phase r.progress now c.min.result c.in_ok-phase._left (units_left m) (spent_of m) course done.rest
    (spent_of m + c.args.units) 0 total_is (λ is. refl) in
    ap (λ (f : Finish). f.how) (rest_is ∙ ap (rest_by c.in_ok-phase.phase j now) none) ∙ wait.cut.how

pub returns-in_ok-close-in-Ok-clause-whole : goal.returns-in_ok-close-in-Ok-clause-whole
unfolding rows_of
returns-in_ok-close-in-Ok-clause-whole g c = λ told.
    let r = c.args.self.now in
    let j = job_in r.plan in
    let m = r.progress.machine in
    let now = c.work.new.progress in
    let done = c.in_ok-phase.ensures in
    let slice = c.min.result in
    let all = units_left m in
    let going = going_by c.is_going.result c.replace-phase.result r.phase c.if-not-is_going.false c.is_going.ensures c.replace-phase.ensures.value in
    let whole = r.budget going in
    let slice_is = cut_is slice c.args.units c.budget.result j.budget c.spent.result (spent_of m) all c.min.ensures c.budget.ensures c.spent.ensures whole in
    let within : slice ≤ all = omega (arith, slice_is) in
    let course = λ (k : ℕ). ap (λ (p : Phase). rest_by p j r.progress k) c.replace-phase.ensures.value ∙ r.course going k in
    let total_is : j.budget ≡ spent_of m + (slice + (all - slice)) = omega (arith, whole, within) in
    let last = ended_course j c.replace-phase.result c.in_ok-phase.phase r.progress now slice c.in_ok-phase._left all (spent_of m) course done.rest
    (eqb c.spent-2.result c.budget-2.result) c.in-Ok.how j.budget (all - slice) total_is (none_more slice all 0) (sym c.in-Ok.ensures)
    (λ over. none_behind slice c.in_ok-phase._left all (spent_of m) (spent_of now.machine) j.budget within done.units.spent whole
    (sym c.spent-2.ensures ∙ eqb-true c.spent-2.result c.budget-2.result over ∙ c.budget-2.ensures)) in
    c.in_ok-close-in-Ok.ensures.rows ∙ sym (ap (λ (f : Finish). closed_by j f.step f.how f.rows) last)

pub returns-in_ok-close-in-Ok-clause-spent : goal.returns-in_ok-close-in-Ok-clause-spent
returns-in_ok-close-in-Ok-clause-spent g c = λ told.
    let r = c.args.self.now in
    let j = job_in r.plan in
    let m = r.progress.machine in
    let now = c.work.new.progress in
    let done = c.in_ok-phase.ensures in
    let slice = c.min.result in
    let all = units_left m in
    let going = going_by c.is_going.result c.replace-phase.result r.phase c.if-not-is_going.false c.is_going.ensures c.replace-phase.ensures.value in
    let whole = r.budget going in
    let slice_is = cut_is slice c.args.units c.budget.result j.budget c.spent.result (spent_of m) all c.min.ensures c.budget.ensures c.spent.ensures whole in
    let within : slice ≤ all = omega (arith, slice_is) in
    let course = λ (k : ℕ). ap (λ (p : Phase). rest_by p j r.progress k) c.replace-phase.ensures.value ∙ r.course going k in
    let total_is : j.budget ≡ spent_of m + (slice + (all - slice)) = omega (arith, whole, within) in
    let last = ended_course j c.replace-phase.result c.in_ok-phase.phase r.progress now slice c.in_ok-phase._left all (spent_of m) course done.rest
    (eqb c.spent-2.result c.budget-2.result) c.in-Ok.how j.budget (all - slice) total_is (none_more slice all 0) (sym c.in-Ok.ensures)
    (λ over. none_behind slice c.in_ok-phase._left all (spent_of m) (spent_of now.machine) j.budget within done.units.spent whole
    (sym c.spent-2.ensures ∙ eqb-true c.spent-2.result c.budget-2.result over ∙ c.budget-2.ensures)) in
    let left_is : (course_within j j.budget).left ≡ c.in_ok-phase._left + (all - slice) = ap (λ (f : Finish). f.left) last in
    let machine_is : spent_of c.close.new.progress.machine ≡ spent_of now.machine = ap spent_of c.in_ok-close-in-Ok.ensures.machine in
    omega (arith, left_is, machine_is, done.units.spent, within, whole)

pub returns-in_ok-close-in-Ok-clause-over : goal.returns-in_ok-close-in-Ok-clause-over
returns-in_ok-close-in-Ok-clause-over g c = λ told few n.
    let r = c.args.self.now in
    let j = job_in r.plan in
    let m = r.progress.machine in
    let now = c.work.new.progress in
    let done = c.in_ok-phase.ensures in
    let slice = c.min.result in
    let all = units_left m in
    let left = c.in_ok-phase._left in
    let going = going_by c.is_going.result c.replace-phase.result r.phase c.if-not-is_going.false c.is_going.ensures c.replace-phase.ensures.value in
    let whole = r.budget going in
    let slice_is = cut_is slice c.args.units c.budget.result j.budget c.spent.result (spent_of m) all c.min.ensures c.budget.ensures c.spent.ensures whole in
    let asked : slice ≡ c.args.units = omega (arith, slice_is, few, whole) in
    let fewer : slice < all = omega (arith, asked, few, whole) in
    let course = λ (k : ℕ). ap (λ (p : Phase). rest_by p j r.progress k) c.replace-phase.ensures.value ∙ r.course going k in
    let over_is = λ (over : eqb c.spent-2.result c.budget-2.result ≡ true) (k : ℕ).
    (let spent_all : spent_of now.machine ≡ j.budget = sym c.spent-2.ensures ∙ eqb-true c.spent-2.result c.budget-2.result over ∙ c.budget-2.ensures in
    let none : left + k ≡ 0 = absurd (omega (arith, spent_all, fewer, done.units.spent, whole)) in none) in
    let at = λ (k : ℕ).
    (let total_is : spent_of m + c.args.units + k ≡ spent_of m + (slice + k) = omega (arith, asked) in
    ended_course j c.replace-phase.result c.in_ok-phase.phase r.progress now slice left all (spent_of m) course done.rest
    (eqb c.spent-2.result c.budget-2.result) c.in-Ok.how (spent_of m + c.args.units + k) k total_is (λ is. absurd (omega (arith, is, fewer))) (sym c.in-Ok.ensures) (λ over. over_is over k)) in
    let first_is : spent_of m + c.args.units ≡ spent_of m + c.args.units + 0 = omega arith in
    let left_is : left + n ≡ left + 0 + n = omega arith in
    at n ∙ ap (λ (k : ℕ). ends_as c.in-Ok.how (stands now k)) left_is ∙ sym (ap (left_more n) (ap (course_within j) first_is ∙ at 0))
