-- Steps rest on what comes next with fewer units alone, so it makes no difference how many of them are allowed.
use Rattle.std.proofs.Common.{◌≡◌, ℕ, zero, suc, ◌+◌, ◌≤◌, ◌<◌, Bool, true, false, List, [], ◌∷◌, ◌++◌, if◌then◌else◌, length, refl, ap, arith}
use Rattle.std.specs.Prelude.{nat_lt, Option, Some, None}
use Rattle.nl_fixed.specs.Nouns.{Bytes, Texts}
use Rattle.nl_value.specs.Limits.{most_bytes}
use Rattle.nl_value.specs.Plain.{Plain, PlainNumber, PlainTruth, PlainWords, PlainItems, PlainTurtle, PlainPatch, PlainLink, PlainNobody, PlainSet}
use Rattle.nl_tree.specs.declared.declared.Form.TheVariants as form
use Rattle.nl_exec_meaning.specs.LoneTexts.{Ending, ending_of, first_state}
use Rattle.nl_exec_meaning.specs.LoneTexts as ending
use Rattle.nl_run.specs.Course.{Finish, Standing, after_go, after_until, behind, cell_of, cells, commands, commands_by, condition, counted, fails_at_first, go_name, go_step, is_reached, judged, measured, measured_if, metric_name, outcome_of, put_back, regular_end, step_or_end, steps, steps_from, truth_by, unit_by, until_name, value, value_by, when, when_name, with_row}
use Rattle.nl_run.specs.Job.{Job, Lone}
use Rattle.nl_run.specs.declared.rows.RunEnd.TheVariants as end_
use Rattle.nl_exec_acts.specs.declared.fail.ErrorKind.TheVariants.{TooLarge}
use Rattle.nl_run.proofs.Thrift.{text_thrifty}

-- the same with so many units at most
Alike : ℕ → (next other : Standing → Finish) → Type 0
Alike n next other = (s : Standing) → s.left ≤ n → next s ≡ other s

-- ---- texts

commands_by_alike : (n : ℕ) (j : Job) (called : Bytes) (l : Lone) (e : Ending) (s : Standing) (next other : Bool → Standing → Finish) → s.left ≤ n
    → ((stopped : Bool) → Alike n (next stopped) (other stopped)) → commands_by j called l e s next ≡ commands_by j called l e s other
unfolding Alike
commands_by_alike n j called l ending.Done s next other few same = same false s few
commands_by_alike n j called l ending.Stopped s next other few same = same true s few
commands_by_alike n j called l (ending.Reported v) s next other few same = same false s few
commands_by_alike n j called l ending.Budget s next other few same = refl
commands_by_alike n j called l (ending.Error why at body) s next other few same = refl

value_by_alike : (n : ℕ) (j : Job) (called : Bytes) (l : Lone) (e : Ending) (s : Standing) (next other : Plain → Standing → Finish) → s.left ≤ n
    → ((v : Plain) → Alike n (next v) (other v)) → value_by j called l e s next ≡ value_by j called l e s other
unfolding Alike
value_by_alike n j called l ending.Done s next other few same = refl
value_by_alike n j called l ending.Stopped s next other few same = refl
value_by_alike n j called l (ending.Reported v) s next other few same = same v s few
value_by_alike n j called l ending.Budget s next other few same = refl
value_by_alike n j called l (ending.Error why at body) s next other few same = refl

le_through : {a b c : ℕ} → a ≤ b → b ≤ c → a ≤ c
le_through ab bc = omega (arith, ab, bc)

commands_alike : (n : ℕ) (j : Job) (called : Bytes) (l : Lone) (s : Standing) (next other : Bool → Standing → Finish) → s.left ≤ n
    → ((stopped : Bool) → Alike n (next stopped) (other stopped)) → commands j called l s next ≡ commands j called l s other
commands_alike n j called l s next other few same =
    commands_by_alike n j called l (ending_of form.Commands (outcome_of j form.Commands l s).exit) (behind (outcome_of j form.Commands l s) s) next other
    (le_through (text_thrifty j.program form.Commands l.tree (first_state s.scene s.left)) few) same

value_alike : (n : ℕ) (j : Job) (called : Bytes) (l : Lone) (s : Standing) (next other : Plain → Standing → Finish) → s.left ≤ n
    → ((v : Plain) → Alike n (next v) (other v)) → value j called l s next ≡ value j called l s other
unfolding Alike
value_alike n j called l s next other few same =
    value_by_alike n j called l (ending_of form.Reporter (outcome_of j form.Reporter l s).exit) (behind (outcome_of j form.Reporter l s) s) _ _
    (le_through (text_thrifty j.program form.Reporter l.tree (first_state s.scene s.left)) few)
    (λ v s1 some. same v (put_back s.scene.stream s1) some)

-- ---- measures

cells_alike : (n : ℕ) (j : Job) (number : ℕ) (ls : List Lone) (made : Texts) (s : Standing) (next other : Texts → Standing → Finish) → s.left ≤ n
    → ((all : Texts) → Alike n (next all) (other all)) → cells j number ls made s next ≡ cells j number ls made s other
unfolding Alike
cells_alike n j number [] made s next other few same = same made s few
cells_alike n j number (l ∷ ls) made s next other few same =
    value_alike n j (metric_name number) l s _ _ few (λ v s1 some.
    ap (λ (f : Finish). if nat_lt most_bytes (length (cell_of v s1)) then fails_at_first j (metric_name number) l TooLarge s1 else f)
    (cells_alike n j (number + 1) ls (made ++ cell_of v s1 ∷ []) s1 next other some same))

measured_alike : (n : ℕ) (j : Job) (s : Standing) (next other : Standing → Finish) → s.left ≤ n → Alike n next other → measured j s next ≡ measured j s other
unfolding Alike
measured_alike n j s next other few same = cells_alike n j 1 j.metrics [] s _ _ few (λ made s1 some. same (with_row j made s1) some)

measured_if_alike : (n : ℕ) (truth : Bool) (j : Job) (s : Standing) (next other : Standing → Finish) → s.left ≤ n → Alike n next other
    → measured_if truth j s next ≡ measured_if truth j s other
unfolding Alike
measured_if_alike n true j s next other few same = measured_alike n j s next other few same
measured_if_alike n false j s next other few same = same s few

-- ---- conditions

truth_alike : (n : ℕ) (j : Job) (called : Bytes) (l : Lone) (v : Plain) (s : Standing) (next other : Bool → Standing → Finish) → s.left ≤ n
    → ((met : Bool) → Alike n (next met) (other met)) → truth_by j called l v s next ≡ truth_by j called l v s other
unfolding Alike
truth_alike n j called l (PlainTruth truth) s next other few same = same truth s few
truth_alike n j called l (PlainNumber count) s next other few same = refl
truth_alike n j called l (PlainWords bytes) s next other few same = refl
truth_alike n j called l (PlainItems items) s next other few same = refl
truth_alike n j called l (PlainTurtle turtle) s next other few same = refl
truth_alike n j called l (PlainPatch patch) s next other few same = refl
truth_alike n j called l (PlainLink link) s next other few same = refl
truth_alike n j called l PlainNobody s next other few same = refl
truth_alike n j called l (PlainSet set) s next other few same = refl

judged_alike : (n : ℕ) (j : Job) (called : Bytes) (l : Lone) (s : Standing) (next other : Bool → Standing → Finish) → s.left ≤ n
    → ((met : Bool) → Alike n (next met) (other met)) → judged j called l s next ≡ judged j called l s other
unfolding Alike
judged_alike n j called l s next other few same =
    value_alike n j called l s _ _ few (λ v s1 some. truth_alike n j called l v s1 next other some same)

when_alike : (n : ℕ) (j : Job) (l : Option Lone) (s : Standing) (next other : Standing → Finish) → s.left ≤ n → Alike n next other
    → when j l s next ≡ when j l s other
unfolding Alike
when_alike n j None s next other few same = same s few
when_alike n j (Some l) s next other few same =
    judged_alike n j when_name l s _ _ few (λ truth s1 some. measured_if_alike n truth j s1 next other some same)

-- ---- a step

-- the same with fewer units
pub AlikeBelow : ℕ → (next other : Standing → Finish) → Type 0
AlikeBelow n next other = (s : Standing) → s.left < n → next s ≡ other s

after_go_alike : (n : ℕ) (j : Job) (next other : Standing → Finish) → Alike n next other → (stopped : Bool) → Alike n (after_go j next stopped) (after_go j other stopped)
unfolding Alike
after_go_alike n j next other same true s few = refl
after_go_alike n j next other same false s few = when_alike n j j.when (counted s) next other few same

unit_alike : (n units : ℕ) (s : Standing) (next other : Standing → Finish) → units ≤ n → AlikeBelow n next other → unit_by units s next ≡ unit_by units s other
unfolding AlikeBelow
unit_alike n zero s next other few same = refl
unit_alike n (suc units) s next other few same = same (record s { left = units }) (omega (arith, few))

below : (n m : ℕ) (next other : Standing → Finish) → m < n → AlikeBelow n next other → Alike m next other
unfolding Alike AlikeBelow
below n m next other less same s few = same s (omega (arith, less, few))

go_step_alike : (n : ℕ) (j : Job) (next other : Standing → Finish) (s : Standing) → s.left ≤ n → AlikeBelow n next other → go_step j next s ≡ go_step j other s
unfolding AlikeBelow
go_step_alike n j next other s few same =
    unit_alike n s.left s _ _ few (λ s1 less.
    commands_alike s1.left j go_name j.go s1 _ _ (omega arith) (after_go_alike s1.left j next other (below n s1.left next other less same)))

after_until_alike : (n : ℕ) (j : Job) (next other : Standing → Finish) → AlikeBelow n next other → (met : Bool) → Alike n (after_until j next met) (after_until j other met)
unfolding Alike
after_until_alike n j next other same true s few = refl
after_until_alike n j next other same false s few = go_step_alike n j next other s few same

condition_alike : (n : ℕ) (j : Job) (l : Option Lone) (s : Standing) (next other : Bool → Standing → Finish) → s.left ≤ n
    → ((met : Bool) → Alike n (next met) (other met)) → condition j l s next ≡ condition j l s other
unfolding Alike
condition_alike n j None s next other few same = same false s few
condition_alike n j (Some l) s next other few same =
    judged_alike n j until_name l s next other few same

pub step_alike : (j : Job) (next other : Standing → Finish) (s : Standing) → AlikeBelow s.left next other → step_or_end j next s ≡ step_or_end j other s
step_alike j next other s same =
    ap (λ (f : Finish). if is_reached j s then regular_end end_.Steps j s else f)
    (condition_alike s.left j j.until s _ _ (omega arith) (after_until_alike s.left j next other same))

-- ---- steps

steps_same : (most many : ℕ) (j : Job) (s : Standing) → s.left < most → s.left < many → steps_from most j s ≡ steps_from many j s
unfolding steps_from AlikeBelow
steps_same zero many j s less fewer = absurd (omega (arith, less))
steps_same (suc most) zero j s less fewer = absurd (omega (arith, fewer))
steps_same (suc most) (suc many) j s less fewer =
    step_alike j (steps_from most j) (steps_from many j) s (λ s1 lower. steps_same most many j s1 (omega (arith, less, lower)) (omega (arith, fewer, lower)))

pub steps_bound : (most : ℕ) (j : Job) (s : Standing) → s.left < most → steps_from most j s ≡ steps j s
steps_bound most j s less = steps_same most (suc s.left) j s less (omega arith)

pub steps_follow : (j : Job) (s : Standing) → steps j s ≡ step_or_end j (steps j) s
unfolding steps_from AlikeBelow
steps_follow j s = step_alike j (steps_from s.left j) (steps j) s (λ s1 less. steps_bound s.left j s1 less)
