-- The condition of the measures is begun, where there is one.
use Rattle.std.proofs.Common.{ℕ, List, ap, ◌∙◌}
use Rattle.std.specs.Prelude.{Option}
use Rattle.nl_tree.specs.Views.{plain}
use Rattle.nl_tree.specs.Checked.{Checked}
use Rattle.nl_tree.specs.declared.declared.Form.TheVariants as form
use Rattle.nl_exec_meaning.specs.Meaning.{text}
use Rattle.nl_exec_meaning.specs.LoneTexts.{first_state}
use Rattle.nl_exec.specs.Machines.{rest_of, scene_of}
use Rattle.nl_run.specs.Course.{steps, when}
use Rattle.nl_run.specs.Job.{Lone}
use Rattle.nl_run.specs.Left.{stands}
use Rattle.nl_run.specs.Plans.{job_in}
use Rattle.nl_run.specs.declared.phase.Open.TheVariants as open_
use Rattle.nl_run.specs.declared.rows.Row.{Row}
use Rattle.nl_run.proofs.Moving.{left_of}
use Rattle.nl_run.proofs.measures.measure_on_the_way.Goals as goal

pub returns-in_default-clause-rest : goal.returns-in_default-clause-rest
returns-in_default-clause-rest g c = λ n.
    let j = job_in c.args.plan.now in
    ap (λ (o : Option Lone). when j o (stands c.args.progress.now n) (steps j)) c.in_default.ensures

pub returns-clause-rest : goal.returns-clause-rest
returns-clause-rest g c = λ n.
    let j = job_in c.args.plan.now in
    let now = c.args.progress.now in
    let m = now.machine in
    let after = c.open.new.self in
    let asked = c.in-Some.when in
    let o = rest_of after.machine n in
    ap (λ (x : ℕ). left_of (open_.When asked c.mark-mark.result) j x after.rows o) c.open.ensures.step
    ∙ ap (λ (x : List Row). left_of (open_.When asked c.mark-mark.result) j now.step x o) c.open.ensures.rows
    ∙ ap (λ (x : ℕ). left_of (open_.When asked x) j now.step now.rows o) c.mark-mark.ensures
    ∙ ap (left_of (open_.When asked (scene_of m).stream) j now.step now.rows)
    (c.in_ok-open.ensures.rest n ∙ ap (λ (p : Checked). text p form.Reporter (plain asked.tree.now) (first_state (scene_of m) n)) c.requires.program)
    ∙ ap (λ (x : Option Lone). when j x (stands now n) (steps j)) c.in-Some.ensures
