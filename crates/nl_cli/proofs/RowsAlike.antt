-- The rows of a run are the same beside what its program is bare: no text looks at the order of a program's words.
use Rattle.std.proofs.Common.{◌≡◌, ℕ, zero, suc, ◌+◌, Bool, true, false, List, [], ◌∷◌, ◌++◌, Option, Some, None, refl, ap, ◌∙◌}
use Rattle.std.specs.Prelude.{cond}
use mathlib.Core.Path.{fun_ext}
use Rattle.nl_fixed.specs.Nouns.{Bytes, Texts}
use Rattle.nl_value.specs.Plain.{Plain, PlainNumber, PlainTruth, PlainWords, PlainItems, PlainTurtle, PlainPatch, PlainLink, PlainNobody, PlainSet}
use Rattle.nl_tree.specs.declared.declared.Form.{Form}
use Rattle.nl_tree.specs.declared.declared.Form.TheVariants as form
use Rattle.nl_exec_acts.specs.declared.fail.ErrorKind.{ErrorKind}
use Rattle.nl_agents.specs.World.{World}
use Rattle.nl_agents_layout.specs.Layouts.{layout_of}
use Rattle.nl_experiment_sweep.specs.Varied.{PlainSetting}
use Rattle.nl_exec_meaning.specs.State.{Outcome}
use Rattle.nl_run.specs.Course.ending
use Rattle.nl_check_model.specs.Laws.{bare}
use Rattle.nl_run.specs.Job.{Job, Lone, scene_at_first, set_all, set_named, world_at_first}
use Rattle.nl_run.specs.Course.{Ending, Standing, Finish, after_go, after_setup, after_until, at_first, behind, cells, commands, commands_by, condition, counted, course_within, ending_of, ends_as, ends_by, fault_by, first_state, go_name, go_step, is_reached, judged, measured, measured_if, metric_name, outcome_of, put_back, regular_end, rows_by, rows_of, setup_name, steps, steps_from, truth_by, unit_by, until_name, value, value_by, when, when_name, with_cell, with_row}
use Rattle.nl_run.specs.Rows.{closed_by}
use Rattle.nl_run.specs.declared.rows.Row.{Row}
use Rattle.nl_run.specs.declared.rows.RunEnd.{RunEnd}
use Rattle.nl_run.specs.declared.rows.RunEnd.TheVariants as end_
use Rattle.nl_cli.proofs.Bare.{text_same}

abbrev bare_run : Job → Job
bare_run j = record j { program = bare j.program }

abbrev Next : Type 0
Next = Standing → Finish

-- ---- errors

fault_same : (j : Job) (called bytes : Bytes) (why : ErrorKind) (place body : ℕ) → fault_by (bare_run j) called bytes why place body ≡ fault_by j called bytes why place body
fault_same j called bytes why place zero = refl
fault_same j called bytes why place (suc body) = refl

-- ---- texts

outcome_same : (j : Job) (f : Form) (l : Lone) (s : Standing) → outcome_of (bare_run j) f l s ≡ outcome_of j f l s
outcome_same j f l s = text_same j.program f l.tree (first_state s.scene s.left)

commands_by_same : (j : Job) (called : Bytes) (l : Lone) (e : Ending) (s : Standing) (next : Bool → Next) → commands_by (bare_run j) called l e s next ≡ commands_by j called l e s next
commands_by_same j called l ending.Done s next = refl
commands_by_same j called l ending.Stopped s next = refl
commands_by_same j called l (ending.Reported value) s next = refl
commands_by_same j called l ending.Budget s next = refl
commands_by_same j called l (ending.Error why at body) s next = ap (λ (text : Bytes). ends_as (end_.Error text) s) (fault_same j called l.bytes why at.start body)

commands_same : (j : Job) (called : Bytes) (l : Lone) (s : Standing) (a b : Bool → Next) → ((stopped : Bool) (t : Standing) → a stopped t ≡ b stopped t)
    → commands (bare_run j) called l s a ≡ commands j called l s b
commands_same j called l s a b same =
    ap (λ (o : Outcome). commands_by (bare_run j) called l (ending_of form.Commands o.exit) (behind o s) a) (outcome_same j form.Commands l s)
    ∙ commands_by_same j called l (ending_of form.Commands (outcome_of j form.Commands l s).exit) (behind (outcome_of j form.Commands l s) s) a
    ∙ ap (λ (next : Bool → Next). commands j called l s next) (fun_ext (λ stopped. fun_ext (same stopped)))

value_by_same : (j : Job) (called : Bytes) (l : Lone) (e : Ending) (s : Standing) (next : Plain → Next) → value_by (bare_run j) called l e s next ≡ value_by j called l e s next
value_by_same j called l (ending.Reported value) s next = refl
value_by_same j called l ending.Done s next = refl
value_by_same j called l ending.Stopped s next = refl
value_by_same j called l ending.Budget s next = refl
value_by_same j called l (ending.Error why at body) s next = ap (λ (text : Bytes). ends_as (end_.Error text) s) (fault_same j called l.bytes why at.start body)

value_same : (j : Job) (called : Bytes) (l : Lone) (s : Standing) (a b : Plain → Next) → ((v : Plain) (t : Standing) → a v t ≡ b v t)
    → value (bare_run j) called l s a ≡ value j called l s b
value_same j called l s a b same =
    let back : (Plain → Next) → Plain → Next = λ next v t. next v (put_back s.scene.stream t) in
    ap (λ (o : Outcome). value_by (bare_run j) called l (ending_of form.Reporter o.exit) (behind o s) (back a)) (outcome_same j form.Reporter l s)
    ∙ value_by_same j called l (ending_of form.Reporter (outcome_of j form.Reporter l s).exit) (behind (outcome_of j form.Reporter l s) s) (back a)
    ∙ ap (λ (next : Plain → Next). value j called l s next) (fun_ext (λ v. fun_ext (same v)))

-- ---- measures

with_cell_same : (j : Job) (called : Bytes) (l : Lone) (v : Plain) (s : Standing) (a b : Bytes → Next) → ((cell : Bytes) (t : Standing) → a cell t ≡ b cell t)
    → with_cell (bare_run j) called l v s a ≡ with_cell j called l v s b
with_cell_same j called l v s a b same = ap (λ (next : Bytes → Next). with_cell j called l v s next) (fun_ext (λ cell. fun_ext (same cell)))

cells_same : (j : Job) (number : ℕ) (ls : List Lone) (made : Texts) (s : Standing) (a b : Texts → Next) → ((texts : Texts) (t : Standing) → a texts t ≡ b texts t)
    → cells (bare_run j) number ls made s a ≡ cells j number ls made s b
cells_same j number [] made s a b same = same made s
cells_same j number (l ∷ ls) made s a b same =
    value_same j (metric_name number) l s _ _ (λ v t. with_cell_same j (metric_name number) l v t _ _ (λ cell u. cells_same j (number + 1) ls (made ++ cell ∷ []) u a b same))

measured_same : (j : Job) (s : Standing) (a b : Next) → ((t : Standing) → a t ≡ b t) → measured (bare_run j) s a ≡ measured j s b
measured_same j s a b same = cells_same j 1 j.metrics [] s _ _ (λ made t. same (with_row j made t))

measured_if_same : (yes_ : Bool) (j : Job) (s : Standing) (a b : Next) → ((t : Standing) → a t ≡ b t) → measured_if yes_ (bare_run j) s a ≡ measured_if yes_ j s b
measured_if_same true j s a b same = measured_same j s a b same
measured_if_same false j s a b same = same s

ends_same : (text : Option Lone) (how : RunEnd) (j : Job) (s : Standing) → ends_by text how (bare_run j) s ≡ ends_by text how j s
ends_same None how j s = measured_same j s (ends_as how) (ends_as how) (λ t. refl)
ends_same (Some l) how j s = refl

regular_same : (how : RunEnd) (j : Job) (s : Standing) → regular_end how (bare_run j) s ≡ regular_end how j s
regular_same how j s = ends_same j.when how j s

-- ---- steps

truth_by_same : (j : Job) (called : Bytes) (l : Lone) (v : Plain) (s : Standing) (a b : Bool → Next) → ((met : Bool) (t : Standing) → a met t ≡ b met t)
    → truth_by (bare_run j) called l v s a ≡ truth_by j called l v s b
truth_by_same j called l (PlainTruth truth) s a b same = same truth s
truth_by_same j called l (PlainNumber count) s a b same = refl
truth_by_same j called l (PlainWords bytes) s a b same = refl
truth_by_same j called l (PlainItems items) s a b same = refl
truth_by_same j called l (PlainTurtle turtle) s a b same = refl
truth_by_same j called l (PlainPatch patch) s a b same = refl
truth_by_same j called l (PlainLink link) s a b same = refl
truth_by_same j called l PlainNobody s a b same = refl
truth_by_same j called l (PlainSet set) s a b same = refl

judged_same : (j : Job) (called : Bytes) (l : Lone) (s : Standing) (a b : Bool → Next) → ((met : Bool) (t : Standing) → a met t ≡ b met t)
    → judged (bare_run j) called l s a ≡ judged j called l s b
judged_same j called l s a b same = value_same j called l s _ _ (λ v t. truth_by_same j called l v t a b same)

condition_same : (j : Job) (o : Option Lone) (s : Standing) (a b : Bool → Next) → ((met : Bool) (t : Standing) → a met t ≡ b met t)
    → condition (bare_run j) o s a ≡ condition j o s b
condition_same j None s a b same = same false s
condition_same j (Some l) s a b same = judged_same j until_name l s a b same

when_same : (j : Job) (o : Option Lone) (s : Standing) (a b : Next) → ((t : Standing) → a t ≡ b t) → when (bare_run j) o s a ≡ when j o s b
when_same j None s a b same = same s
when_same j (Some l) s a b same = judged_same j when_name l s _ _ (λ truth t. measured_if_same truth j t a b same)

after_go_same : (j : Job) (a b : Next) → ((t : Standing) → a t ≡ b t) → (stopped : Bool) (s : Standing) → after_go (bare_run j) a stopped s ≡ after_go j b stopped s
after_go_same j a b same true s = regular_same end_.Stop j s
after_go_same j a b same false s = when_same j j.when (counted s) a b same

unit_by_same : (left : ℕ) (s : Standing) (a b : Next) → ((t : Standing) → a t ≡ b t) → unit_by left s a ≡ unit_by left s b
unit_by_same zero s a b same = refl
unit_by_same (suc left) s a b same = same (record s { left = left })

go_step_same : (j : Job) (a b : Next) → ((t : Standing) → a t ≡ b t) → (s : Standing) → go_step (bare_run j) a s ≡ go_step j b s
go_step_same j a b same s = unit_by_same s.left s _ _ (λ t. commands_same j go_name j.go t _ _ (after_go_same j a b same))

after_until_same : (j : Job) (a b : Next) → ((t : Standing) → a t ≡ b t) → (met : Bool) (s : Standing) → after_until (bare_run j) a met s ≡ after_until j b met s
after_until_same j a b same true s = regular_same end_.Condition j s
after_until_same j a b same false s = go_step_same j a b same s

by_reached : (reached : Bool) (j : Job) (a b : Next) → ((t : Standing) → a t ≡ b t) → (s : Standing)
    → cond reached (regular_end end_.Steps (bare_run j) s) (condition (bare_run j) j.until s (after_until (bare_run j) a)) ≡ cond reached (regular_end end_.Steps j s) (condition j j.until s (after_until j b))
by_reached true j a b same s = regular_same end_.Steps j s
by_reached false j a b same s = condition_same j j.until s _ _ (after_until_same j a b same)

steps_from_same : (most : ℕ) (j : Job) (s : Standing) → steps_from most (bare_run j) s ≡ steps_from most j s
unfolding steps_from
steps_from_same zero j s = refl
steps_from_same (suc most) j s = by_reached (is_reached j s) j (steps_from most (bare_run j)) (steps_from most j) (steps_from_same most j) s

-- ---- the whole

set_all_same : (j : Job) (ss : List PlainSetting) (w : World) → set_all (bare j.program) ss w ≡ set_all j.program ss w
set_all_same j [] w = refl
set_all_same j (s ∷ ss) w = set_all_same j ss (set_named j.program s.name s.value w)

world_same : (j : Job) → world_at_first (bare_run j) ≡ world_at_first j
unfolding layout_of
world_same j = set_all_same j j.settings _ ∙ ap (λ (w : World). set_all j.program j.settings w) (set_all_same j j.globals _)

course_same : (j : Job) (units : ℕ) → course_within (bare_run j) units ≡ course_within j units
unfolding course_within
course_same j units =
    ap (λ (s : Standing). commands (bare_run j) setup_name j.setup s (after_setup (bare_run j) (steps (bare_run j)))) (ap (λ (w : World). record (at_first j units) { scene = record (scene_at_first j) { world = w } }) (world_same j))
    ∙ commands_same j setup_name j.setup (at_first j units) _ _ (λ stopped s. when_same j j.when s _ _ (λ t. steps_from_same (suc t.left) j t))

closed_same : (j : Job) (step : ℕ) (how : RunEnd) (rows : List Row) → closed_by (bare_run j) step how rows ≡ closed_by j step how rows
closed_same j step end_.Open rows = refl
closed_same j step end_.Steps rows = refl
closed_same j step end_.Condition rows = refl
closed_same j step end_.Stop rows = refl
closed_same j step end_.Budget rows = refl
closed_same j step (end_.Error text) rows = refl

by_finish : (j : Job) (f : Finish) → rows_by (bare_run j) f ≡ rows_by j f
by_finish j f = closed_same j f.step f.how f.rows

pub rows_same : (j : Job) → rows_of (bare_run j) ≡ rows_of j
unfolding rows_of
rows_same j = by_finish j (course_within (bare_run j) j.budget) ∙ ap (rows_by j) (course_same j j.budget)
