-- What holds of all that a run has on its way holds of what it comes to.
use Rattle.std.proofs.Common.{◌≡◌, ℕ, zero, suc, ◌+◌, ◌≤◌, Bool, true, false, List, [], ◌∷◌, ◌++◌, if◌then◌else◌, length, refl, arith}
use Rattle.std.specs.Prelude.{nat_lt, Option, Some, None}
use Rattle.nl_fixed.specs.Nouns.{Bytes, Texts}
use Rattle.nl_value.specs.Limits.{most_bytes}
use Rattle.nl_value.specs.Plain.{Plain, PlainNumber, PlainTruth, PlainWords, PlainItems, PlainTurtle, PlainPatch, PlainLink, PlainNobody, PlainSet}
use Rattle.nl_tree.specs.declared.declared.Form.TheVariants as form
use Rattle.nl_exec_acts.specs.Stage.{Scene}
use Rattle.nl_exec_acts.specs.declared.fail.ErrorKind.TheVariants.{TooLarge}
use Rattle.nl_exec_meaning.specs.LoneTexts.{Ending, ending_of, first_state, in_stream, scene_in}
use Rattle.nl_exec_meaning.specs.LoneTexts as ending
use Rattle.nl_run.specs.Course.{Finish, Standing, after_go, after_until, at_first, behind, cell_of, cells, commands, commands_by, condition, counted, course_within, ends_as, fails_at_first, go_name, go_step, is_reached, judged, measured_if, metric_name, outcome_of, put_back, regular_end, setup_name, step_or_end, steps, steps_from, truth_by, unit_by, until_name, value, value_by, when, when_name}
use Rattle.nl_run.specs.Job.{Job, Lone}
use Rattle.nl_run.specs.declared.rows.RunEnd.TheVariants as end_
use Rattle.nl_run.proofs.Thrift.{text_thrifty}

-- ---- what a run has on its way

-- it holds with fewer units in any scene, and a run that ends there by its budget or an error comes to what is right
pub record Lasts (on : Standing → Type 0) (to : Finish → Type 0) : Type 0 where
  pub fewer : (s : Standing) (scene : Scene) (left : ℕ) → left ≤ s.left → on s → on (record s { scene = scene; left = left })
  pub spent : (s : Standing) → on s → to (ends_as end_.Budget s)
  pub fails : (s : Standing) (text : Bytes) → on s → to (ends_as (end_.Error text) s)

module _ (j : Job) (on : Standing → Type 0) (to : Finish → Type 0) (lasts : Lasts on to) where
  commands_by_keep : (called : Bytes) (l : Lone) (e : Ending) (s : Standing) (next : Bool → Standing → Finish) → on s
      → ((stopped : Bool) (s1 : Standing) → on s1 → to (next stopped s1)) → to (commands_by j called l e s next)
  commands_by_keep called l ending.Done s next here keeps = keeps false s here
  commands_by_keep called l ending.Stopped s next here keeps = keeps true s here
  commands_by_keep called l (ending.Reported v) s next here keeps = keeps false s here
  commands_by_keep called l ending.Budget s next here keeps = lasts.spent s here
  commands_by_keep called l (ending.Error why at body) s next here keeps = lasts.fails s _ here

  value_by_keep : (called : Bytes) (l : Lone) (e : Ending) (s : Standing) (next : Plain → Standing → Finish) → on s
      → ((v : Plain) (s1 : Standing) → on s1 → to (next v s1)) → to (value_by j called l e s next)
  value_by_keep called l ending.Done s next here keeps = lasts.fails s _ here
  value_by_keep called l ending.Stopped s next here keeps = lasts.fails s _ here
  value_by_keep called l (ending.Reported v) s next here keeps = keeps v s here
  value_by_keep called l ending.Budget s next here keeps = lasts.spent s here
  value_by_keep called l (ending.Error why at body) s next here keeps = lasts.fails s _ here

  pub commands_keep : (called : Bytes) (l : Lone) (s : Standing) (next : Bool → Standing → Finish) → on s
      → ((stopped : Bool) (s1 : Standing) → on s1 → to (next stopped s1)) → to (commands j called l s next)
  commands_keep called l s next here keeps =
      commands_by_keep called l (ending_of form.Commands (outcome_of j form.Commands l s).exit) (behind (outcome_of j form.Commands l s) s) next
      (lasts.fewer s (scene_in (outcome_of j form.Commands l s).state) (outcome_of j form.Commands l s).state.units
      (text_thrifty j.program form.Commands l.tree (first_state s.scene s.left)) here) keeps

  pub value_keep : (called : Bytes) (l : Lone) (s : Standing) (next : Plain → Standing → Finish) → on s
      → ((v : Plain) (s1 : Standing) → on s1 → to (next v s1)) → to (value j called l s next)
  value_keep called l s next here keeps =
      value_by_keep called l (ending_of form.Reporter (outcome_of j form.Reporter l s).exit) (behind (outcome_of j form.Reporter l s) s) _
      (lasts.fewer s (scene_in (outcome_of j form.Reporter l s).state) (outcome_of j form.Reporter l s).state.units
      (text_thrifty j.program form.Reporter l.tree (first_state s.scene s.left)) here)
      (λ v s1 there. keeps v (put_back s.scene.stream s1) (lasts.fewer s1 (in_stream s.scene.stream s1.scene) s1.left (omega arith) there))

  cell_keep : (large : Bool) (called : Bytes) (l : Lone) (s : Standing) (f : Finish) → on s → to f
      → to (if large then fails_at_first j called l TooLarge s else f)
  cell_keep true called l s f here there = lasts.fails s _ here
  cell_keep false called l s f here there = there

  pub cells_keep : (number : ℕ) (ls : List Lone) (made : Texts) (s : Standing) (next : Texts → Standing → Finish) → on s
      → ((all : Texts) (s1 : Standing) → on s1 → to (next all s1)) → to (cells j number ls made s next)
  cells_keep number [] made s next here keeps = keeps made s here
  cells_keep number (l ∷ ls) made s next here keeps =
      value_keep (metric_name number) l s _ here (λ v s1 there.
      cell_keep (nat_lt most_bytes (length (cell_of v s1))) (metric_name number) l s1 _ there
      (cells_keep (number + 1) ls (made ++ cell_of v s1 ∷ []) s1 next there keeps))

  truth_keep : (called : Bytes) (l : Lone) (v : Plain) (s : Standing) (next : Bool → Standing → Finish) → on s → ((met : Bool) (s1 : Standing) → on s1 → to (next met s1))
      → to (truth_by j called l v s next)
  truth_keep called l (PlainTruth truth) s next here keeps = keeps truth s here
  truth_keep called l (PlainNumber count) s next here keeps = lasts.fails s _ here
  truth_keep called l (PlainWords bytes) s next here keeps = lasts.fails s _ here
  truth_keep called l (PlainItems items) s next here keeps = lasts.fails s _ here
  truth_keep called l (PlainTurtle turtle) s next here keeps = lasts.fails s _ here
  truth_keep called l (PlainPatch patch) s next here keeps = lasts.fails s _ here
  truth_keep called l (PlainLink link) s next here keeps = lasts.fails s _ here
  truth_keep called l PlainNobody s next here keeps = lasts.fails s _ here
  truth_keep called l (PlainSet set) s next here keeps = lasts.fails s _ here

  pub judged_keep : (called : Bytes) (l : Lone) (s : Standing) (next : Bool → Standing → Finish) → on s
      → ((truth : Bool) (s1 : Standing) → on s1 → to (next truth s1)) → to (judged j called l s next)
  judged_keep called l s next here keeps = value_keep called l s _ here (λ v s1 there. truth_keep called l v s1 next there keeps)

  pub condition_keep : (l : Option Lone) (s : Standing) (next : Bool → Standing → Finish) → on s
      → ((met : Bool) (s1 : Standing) → on s1 → to (next met s1)) → to (condition j l s next)
  condition_keep None s next here keeps = keeps false s here
  condition_keep (Some l) s next here keeps = judged_keep until_name l s next here keeps

  pub unit_keep : (units : ℕ) (s : Standing) (next : Standing → Finish) → units ≤ s.left → on s → ((s1 : Standing) → on s1 → to (next s1))
      → to (unit_by units s next)
  unit_keep zero s next few here keeps = lasts.spent s here
  unit_keep (suc units) s next few here keeps = keeps (record s { left = units }) (lasts.fewer s s.scene units (omega (arith, few)) here)

-- ---- the whole

-- What holds before a measure, and what holds between two steps. A run without a condition for its measures goes on without one.
pub record Course (j : Job) (before on : Standing → Type 0) (to : Finish → Type 0) : Type 0 where
  pub early : Lasts before to
  pub later : Lasts on to
  pub measures : (l : Lone) → j.when ≡ Some l → (truth : Bool) (s : Standing) (next : Standing → Finish) → before s → ((s1 : Standing) → on s1 → to (next s1))
      → to (measured_if truth j s next)
  pub goes : (s : Standing) → before s → on s
  pub counts : (s : Standing) → on s → before (counted s)
  pub steps : (s : Standing) → on s → to (regular_end end_.Steps j s)
  pub condition : (s : Standing) → on s → to (regular_end end_.Condition j s)
  pub stop : (s : Standing) → on s → to (regular_end end_.Stop j s)

module _ (j : Job) (before on : Standing → Type 0) (to : Finish → Type 0) (course : Course j before on to) where
  when_keep : (text : Option Lone) → j.when ≡ text → (s : Standing) (next : Standing → Finish) → before s → ((s1 : Standing) → on s1 → to (next s1))
      → to (when j text s next)
  when_keep None is s next here keeps = keeps s (course.goes s here)
  when_keep (Some l) is s next here keeps =
      judged_keep j before to course.early when_name l s _ here (λ truth s1 there. course.measures l is truth s1 next there keeps)

  after_go_keep : (next : Standing → Finish) → ((s : Standing) → on s → to (next s)) → (stopped : Bool) (s : Standing) → on s → to (after_go j next stopped s)
  after_go_keep next keeps true s here = course.stop s here
  after_go_keep next keeps false s here = when_keep j.when refl (counted s) next (course.counts s here) keeps

  go_step_keep : (next : Standing → Finish) → ((s : Standing) → on s → to (next s)) → (s : Standing) → on s → to (go_step j next s)
  go_step_keep next keeps s here =
      unit_keep j on to course.later s.left s _ (omega arith) here (λ s1 there. commands_keep j on to course.later go_name j.go s1 _ there (after_go_keep next keeps))

  after_until_keep : (next : Standing → Finish) → ((s : Standing) → on s → to (next s)) → (met : Bool) (s : Standing) → on s → to (after_until j next met s)
  after_until_keep next keeps true s here = course.condition s here
  after_until_keep next keeps false s here = go_step_keep next keeps s here

  reached_keep : (reached : Bool) (s : Standing) (f : Finish) → on s → to f → to (if reached then regular_end end_.Steps j s else f)
  reached_keep true s f here there = course.steps s here
  reached_keep false s f here there = there

  step_keep : (next : Standing → Finish) → ((s : Standing) → on s → to (next s)) → (s : Standing) → on s → to (step_or_end j next s)
  step_keep next keeps s here =
      reached_keep (is_reached j s) s _ here (condition_keep j on to course.later j.until s _ here (after_until_keep next keeps))

  steps_keep : (most : ℕ) (s : Standing) → on s → to (steps_from most j s)
  unfolding steps_from
  steps_keep zero s here = course.later.spent s here
  steps_keep (suc most) s here = step_keep (steps_from most j) (steps_keep most) s here

  pub course_keeps : (units : ℕ) → before (at_first j units) → to (course_within j units)
  unfolding course_within
  course_keeps units first =
      commands_keep j before to course.early setup_name j.setup (at_first j units) _ first (λ stopped s here.
      when_keep j.when refl s (steps j) here (λ s1 there. steps_keep (suc s1.left) s1 there))
