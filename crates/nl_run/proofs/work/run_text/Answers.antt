-- What is left behind a text that has ended is what was left of it, with the units that are left.
use Rattle.std.proofs.Common.{◌≡◌, ℕ, ◌+◌, ◌-◌, ◌*◌, ◌≤◌, Ok, length, ap, ◌∙◌, subst, arith}
use Rattle.std.specs.Prelude.{min}
use Rattle.nl_tree.specs.declared.declared.Form.{Form}
use Rattle.nl_exec_meaning.specs.LoneTexts.{ending_of, scene_in}
use Rattle.nl_exec.specs.Endings.{end_seen}
use Rattle.nl_exec.specs.Machines.{form_of, rest_of, scene_of, spent_of, units_left}
use Rattle.nl_run.specs.Left.{form_in, moves, moves_in, room}
use Rattle.nl_run.specs.Plans.{job_in}
use Rattle.nl_run.proofs.Moving.{ended_text, fewer_moves, more_at}
use Rattle.nl_run.proofs.work.run_text.Goals as goal

all_of : (slice all : ℕ) → slice ≤ all → min slice all ≡ slice
all_of slice all within = omega (arith, within)

-- what was spent, by what is left
later : (begun spent now slice units : ℕ) → begun ≤ spent → units ≤ spent - begun + slice → now + units ≡ spent + slice → begun ≤ now
later begun spent now slice units early few sum = omega (arith, early, few, sum)

pub settle-requires-clause-steps : goal.settle-requires-clause-steps
settle-requires-clause-steps g c =
    let now = c.args.progress.now in
    let m = now.machine in
    let slice = c.args.left.now in
    let slice_is = all_of slice (units_left m) c.requires.within in
    let sum : spent_of c.advance.new.self + (rest_of m slice).state.units ≡ spent_of m + slice =
    subst (λ k. spent_of c.advance.new.self + (rest_of m k).state.units ≡ spent_of m + k) slice_is (c.in_ok-advance.ensures.spent c.in-Ended.end (ap Ok c.in-Ended.is)) in
    let early = later now.begun (spent_of m) (spent_of c.advance.new.self) slice (rest_of m slice).state.units c.requires.ready.begun (c.requires.ready.thrifty slice) sum in
    omega (arith, early, c.requires.ready.counted, c.spent-now.ensures)

pub returns-in_ok-phase-in-Ended-clause-rest : goal.returns-in_ok-phase-in-Ended-clause-rest
returns-in_ok-phase-in-Ended-clause-rest g c = λ n allows.
    let now = c.args.progress.now in
    let m = now.machine in
    let slice = c.args.left.now in
    let all = units_left m in
    let after = c.advance.new.self in
    let e = c.in-Ended.end in
    let left = c.spent-spent.result + slice - c.spent-now.result in
    let slice_is = all_of slice all c.requires.within in
    let sum : spent_of after + (rest_of m slice).state.units ≡ spent_of m + slice =
    subst (λ k. spent_of after + (rest_of m k).state.units ≡ spent_of m + k) slice_is (c.in_ok-advance.ensures.spent e (ap Ok c.in-Ended.is)) in
    let end_is : end_seen e ≡ ending_of (form_in c.args.text) (rest_of m slice).exit =
    c.in_ok-advance.ensures.end e (ap Ok c.in-Ended.is) ∙ ap (λ (k : ℕ). ending_of (form_of m) (rest_of m k).exit) slice_is
    ∙ ap (λ (f : Form). ending_of f (rest_of m slice).exit) c.requires.ready.text.form in
    let scene_is : scene_in (rest_of m slice).state ≡ scene_of after =
    subst (λ k. scene_in (rest_of m k).state ≡ scene_of after) slice_is (c.in_ok-advance.ensures.scene e (ap Ok c.in-Ended.is)) in
    let left_is : (rest_of m slice).state.units ≡ left = omega (arith, sum, c.spent-spent.ensures, c.spent-now.ensures) in
    c.in_ok-phase-in-Ended.ensures.rest (left + n)
    ∙ ended_text c.args.text (job_in c.args.plan.now) now.step now.rows (rest_of m) (end_seen e) (scene_of after) slice left n end_is scene_is left_is
    (more_at (rest_of m) slice all n (λ fewer k. c.in_ok-advance.ensures.over e (ap Ok c.in-Ended.is) fewer k) c.requires.within allows)

-- the units that there were when the text began
no_more : (units spent begun now left told : ℕ) → begun ≤ spent → begun ≤ now → left + now ≡ units + spent → told ≡ left + (now - now) → told ≤ units + (spent - begun)
no_more units spent begun now left told early later_on sum is = omega (arith, early, later_on, sum, is)

pub returns-in_ok-phase-in-Ended-clause-falls : goal.returns-in_ok-phase-in-Ended-clause-falls
returns-in_ok-phase-in-Ended-clause-falls g c =
    let j = job_in c.args.plan.now in
    let now = c.args.progress.now in
    let m = now.machine in
    let slice = c.args.left.now in
    let after = c.advance.new.self in
    let last = c.settle.new.progress in
    let slice_is = all_of slice (units_left m) c.requires.within in
    let sum : spent_of after + (rest_of m slice).state.units ≡ spent_of m + slice =
    subst (λ k. spent_of after + (rest_of m k).state.units ≡ spent_of m + k) slice_is (c.in_ok-advance.ensures.spent c.in-Ended.end (ap Ok c.in-Ended.is)) in
    let early = later now.begun (spent_of m) (spent_of after) slice (rest_of m slice).state.units c.requires.ready.begun (c.requires.ready.thrifty slice) sum in
    let kept = c.in_ok-phase-in-Ended.ensures.units in
    let room_is : room last ≡ units_left after + (spent_of after - spent_of after) =
    omega (arith, kept.spent, kept.left, kept.begun, c.spent-now.ensures) in
    fewer_moves (room last) (room now) (2 * length j.metrics + 8) (moves (length j.metrics) c.in_ok-phase-in-Ended.phase) (moves_in (length j.metrics) c.args.text)
    (no_more (units_left m) (spent_of m) now.begun (spent_of after) (units_left after) (room last) c.requires.ready.begun early c.in_ok-advance.ensures.bounded room_is)
    c.in_ok-phase-in-Ended.ensures.moves
