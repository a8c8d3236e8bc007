-- The text of the setup runs over the first scene.
use Rattle.std.proofs.Common.{◌≡◌, ap, ◌∙◌}
use Rattle.nl_tree.specs.Views.{plain}
use Rattle.nl_tree.specs.Checked.{Checked}
use Rattle.nl_tree.specs.Tree.{Node}
use Rattle.nl_tree.specs.declared.declared.Form.TheVariants as form
use Rattle.nl_exec_acts.specs.Stage.{Scene}
use Rattle.nl_exec_meaning.specs.Meaning.{text}
use Rattle.nl_exec_meaning.specs.LoneTexts.{first_state}
use Rattle.nl_exec.specs.Machines.{in_world, program_of, rest_of, scene_of}
use Rattle.nl_run.specs.Job.{called, scene_at_first, set_all}
use Rattle.nl_run.specs.Plans.{job_in}
use Rattle.nl_run.proofs.Starting.{changed_thrice, first_course, first_scene}
use Rattle.nl_run.proofs.start.started.Goals as goal

pub returns-clause-rest : goal.returns-clause-rest
returns-clause-rest g c = λ n.
    let j = job_in c.args.plan.now in
    let p = c.program-program.result.now in
    let m0 = c.in_ok-machine.machine in
    let m1 = c.set_called.new.machine in
    let m2 = c.set_all.new.machine in
    let m3 = c.set_all-2.new.machine in
    let one = c.in_ok-set_called.ensures in
    let two = c.in_ok-set_all.ensures in
    let three = c.in_ok-set_all-2.ensures in
    let scene_is : scene_of m3 ≡ scene_at_first j =
    changed_thrice (called j) (set_all p c.globals.result.now) (set_all p c.settings.result.now) (scene_of m0) (scene_of m1) (scene_of m2) (scene_of m3) one.scene two.scene three.scene
    ∙ ap (λ (s : Scene). in_world (set_all p c.settings.result.now (set_all p c.globals.result.now (called j s.world))) s) c.in_ok-machine.ensures.scene
    ∙ first_scene j p c.shape.result c.seed.result c.globals.result.now c.settings.result.now c.program-program.ensures c.shape.ensures c.seed.ensures c.globals.ensures.value
    c.settings.ensures.value in
    let program_is : program_of m3 ≡ j.program = three.program ∙ two.program ∙ one.program ∙ c.in_ok-machine.ensures.program ∙ c.program-program.ensures in
    let tree_is : plain c.setup.result.tree.now ≡ j.setup.tree = ap (λ l. l.tree) c.setup.ensures in
    first_course j c.open.new.self.step c.open.new.self.rows n (rest_of c.open.new.self.machine n) c.open.ensures.step (c.open.ensures.rows ∙ c.empty.ensures)
    (c.in_ok-open.ensures.rest n
    ∙ ap (λ (x : Checked). text x form.Commands (plain c.setup.result.tree.now) (first_state (scene_of m3) n)) program_is
    ∙ ap (λ (x : Node). text j.program form.Commands x (first_state (scene_of m3) n)) tree_is
    ∙ ap (λ (x : Scene). text j.program form.Commands j.setup.tree (first_state x n)) scene_is)
