-- A step comes where the steps aren't done: the condition first, if there is one.
use Rattle.std.proofs.Common.{◌≡◌, ℕ, Bool, true, false, not, ◌&&◌, List, ap, ◌∙◌, sym}
use Rattle.std.specs.Prelude.{◌==◌, nat_lt}
use Rattle.nl_tree.specs.Views.{plain}
use Rattle.nl_tree.specs.Checked.{Checked}
use Rattle.nl_tree.specs.declared.declared.Form.TheVariants as form
use Rattle.nl_exec_meaning.specs.Meaning.{text}
use Rattle.nl_exec_meaning.specs.LoneTexts.{first_state}
use Rattle.nl_exec.specs.Machines.{rest_of, scene_of}
use Rattle.nl_run.specs.Course.{regular_end, steps}
use Rattle.nl_run.specs.Job.{Job}
use Rattle.nl_run.specs.Left.{end_of, rest_by, stands}
use Rattle.nl_run.specs.Plans.{job_in, lone_seen}
use Rattle.nl_run.specs.declared.phase.Open.TheVariants as open_
use Rattle.nl_run.specs.declared.phase.Regular.TheVariants as regular
use Rattle.nl_run.specs.declared.rows.Row.{Row}
use Rattle.nl_run.proofs.Moving.{left_of}
use Rattle.nl_run.proofs.Stepping.{if_ok, step_asked, step_unasked, steps_done}
use Rattle.nl_run.proofs.work.step_or_end.Goals as goal

reached : (j : Job) (most step : ℕ) (answer truth : Bool) → most ≡ j.steps → answer ≡ (not (most == 0) && not (nat_lt step most)) → answer ≡ truth
    → (not (j.steps == 0) && not (nat_lt step j.steps)) ≡ truth
reached j most step answer truth same is told = sym (ap (λ (k : ℕ). not (k == 0) && not (nat_lt step k)) same) ∙ sym is ∙ told

pub returns-then-is_reached-clause-rest : goal.returns-then-is_reached-clause-rest
returns-then-is_reached-clause-rest g c =
    let j = job_in c.args.plan.now in
    let now = c.args.progress.now in
    if_ok (λ phase. (n : ℕ) → rest_by phase j c.regular_end.new.progress n ≡ regular_end (end_of regular.Steps) j (stands now n))
    (λ phase. (n : ℕ) → rest_by phase j c.regular_end.new.progress n ≡ steps j (stands now n)) c.regular_end.result c.regular_end.ensures.rest
    (λ phase same n. same n ∙ sym (steps_done j (stands now n) (reached j c.steps.result now.step c.is_reached.result true c.steps.ensures c.is_reached.ensures c.if-is_reached.true)))

pub returns-in_default-clause-rest : goal.returns-in_default-clause-rest
returns-in_default-clause-rest g c = λ n.
    let j = job_in c.args.plan.now in
    let now = c.args.progress.now in
    sym (step_unasked j (stands now n) (reached j c.steps.result now.step c.is_reached.result false c.steps.ensures c.is_reached.ensures c.if-is_reached.false) (sym c.in_default.ensures))

pub returns-clause-rest : goal.returns-clause-rest
returns-clause-rest g c = λ n.
    let j = job_in c.args.plan.now in
    let now = c.args.progress.now in
    let m = now.machine in
    let after = c.open.new.self in
    let until = c.in-Some.until in
    let o = rest_of after.machine n in
    ap (λ (x : ℕ). left_of (open_.Until until c.mark-mark.result) j x after.rows o) c.open.ensures.step
    ∙ ap (λ (x : List Row). left_of (open_.Until until c.mark-mark.result) j now.step x o) c.open.ensures.rows
    ∙ ap (λ (x : ℕ). left_of (open_.Until until x) j now.step now.rows o) c.mark-mark.ensures
    ∙ ap (left_of (open_.Until until (scene_of m).stream) j now.step now.rows)
    (c.in_ok-open.ensures.rest n ∙ ap (λ (p : Checked). text p form.Reporter (plain until.tree.now) (first_state (scene_of m) n)) c.requires.program)
    ∙ sym (step_asked j (stands now n) (lone_seen until)
    (reached j c.steps.result now.step c.is_reached.result false c.steps.ensures c.is_reached.ensures c.if-is_reached.false) (sym c.in-Some.ensures))
