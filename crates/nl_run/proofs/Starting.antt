-- What a run begins with, step by step.
use Rattle.std.proofs.Common.{◌≡◌, ℕ, [], None, ap, ◌∙◌}
use Rattle.std.specs.Prelude.{List}
use Rattle.nl_draw.specs.Stream.{first_state as first_of_stream}
use Rattle.nl_grid.specs.Geometry.{Plane}
use Rattle.nl_tree.specs.Checked.{Checked}
use Rattle.nl_tree.specs.declared.declared.Form.TheVariants as form
use Rattle.nl_agents_layout.specs.Layouts.{layout_of}
use Rattle.nl_agents.specs.World.{World, first_world}
use Rattle.nl_exec_acts.specs.Stage.{Scene, scene}
use Rattle.nl_exec_meaning.specs.Meaning.{text}
use Rattle.nl_exec_meaning.specs.State.{Outcome}
use Rattle.nl_exec_meaning.specs.LoneTexts.{ending_of, first_state, scene_in}
use Rattle.nl_exec.specs.Machines.{in_world}
use Rattle.nl_experiment_sweep.specs.Varied.{PlainSetting}
use Rattle.nl_run.specs.Course.{Finish, after_setup, commands_by, course_within, setup_name, steps}
use Rattle.nl_run.specs.Job.{Job, called, scene_at_first, set_all}
use Rattle.nl_run.specs.Left.{standing}
use Rattle.nl_run.specs.declared.rows.Row.{Row}

-- three changes of the world, one after another
pub changed_thrice : (f g h : World → World) (s0 s1 s2 s3 : Scene) → s1 ≡ in_world (f s0.world) s0 → s2 ≡ in_world (g s1.world) s1 → s3 ≡ in_world (h s2.world) s2
    → s3 ≡ in_world (h (g (f s0.world))) s0
changed_thrice f g h s0 s1 s2 s3 one two three =
    three ∙ ap (λ (s : Scene). in_world (h s.world) s) two ∙ ap (λ (s : Scene). in_world (h (g s.world)) s) one

-- the first scene, from what is read of the plan
pub first_scene : (j : Job) (p : Checked) (shape : Plane) (seed : ℕ) (gs ss : List PlainSetting) → p ≡ j.program → shape ≡ j.shape → seed ≡ j.seed → gs ≡ j.globals
    → ss ≡ j.settings → scene (set_all p ss (set_all p gs (called j (first_world (layout_of p.declared) shape)))) None (first_of_stream seed) ≡ scene_at_first j
first_scene j p shape seed gs ss is_program is_shape is_seed is_globals is_settings =
    ap (λ (x : Checked). scene (set_all x ss (set_all x gs (called j (first_world (layout_of x.declared) shape)))) None (first_of_stream seed)) is_program
    ∙ ap (λ (x : Plane). scene (set_all j.program ss (set_all j.program gs (called j (first_world (layout_of j.program.declared) x)))) None (first_of_stream seed)) is_shape
    ∙ ap (λ (x : ℕ). scene (set_all j.program ss (set_all j.program gs (called j (first_world (layout_of j.program.declared) j.shape)))) None (first_of_stream x)) is_seed
    ∙ ap (λ (x : List PlainSetting). scene (set_all j.program ss (set_all j.program x (called j (first_world (layout_of j.program.declared) j.shape)))) None (first_of_stream j.seed)) is_globals
    ∙ ap (λ (x : List PlainSetting). scene (set_all j.program x (set_all j.program j.globals (called j (first_world (layout_of j.program.declared) j.shape)))) None (first_of_stream j.seed)) is_settings

abbrev behind_setup : Job → ℕ → List Row → Outcome → Finish
behind_setup j step rows o = commands_by j setup_name j.setup (ending_of form.Commands o.exit) (standing (scene_in o.state) o.state.units step rows) (after_setup j (steps j))

-- the setup text, over the first scene
pub first_course : (j : Job) (step : ℕ) (rows : List Row) (n : ℕ) (o : Outcome) → step ≡ 0 → rows ≡ [] → o ≡ text j.program form.Commands j.setup.tree (first_state (scene_at_first j) n)
    → behind_setup j step rows o ≡ course_within j n
unfolding course_within
first_course j step rows n o none nothing is =
    ap (λ (x : ℕ). behind_setup j x rows o) none ∙ ap (λ (x : List Row). behind_setup j 0 x o) nothing ∙ ap (behind_setup j 0 []) is
