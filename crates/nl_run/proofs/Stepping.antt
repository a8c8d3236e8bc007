-- What a step, and what a text that is too large, come to.
use Rattle.std.proofs.Common.{◌≡◌, ℕ, ◌<◌, Bool, true, false, if◌then◌else◌, length, refl, ap, ◌∙◌, arith}
use Rattle.std.specs.Prelude.{nat_lt, Option, Some, None, Result, Ok, Err, IfOk}
use Rattle.std.proofs.lemmas.Bool.Decides.{nat_tests}
use Rattle.nl_fixed.specs.Nouns.{Bytes}
use Rattle.nl_value.specs.Limits.{most_bytes}
use Rattle.nl_value.specs.Plain.{Plain, PlainNumber, PlainTruth, PlainWords, PlainItems, PlainTurtle, PlainPatch, PlainLink, PlainNobody, PlainSet}
use Rattle.nl_exec_acts.specs.declared.fail.ErrorKind.TheVariants.{TooLarge}
use Rattle.nl_run.specs.Course.{Finish, Standing, after_until, cell_of, condition, fails_at_first, go_step, is_reached, regular_end, steps, truth_by, until_name, value, with_cell}
use Rattle.nl_run.specs.Job.{Job, Lone}
use Rattle.nl_run.specs.declared.rows.RunEnd.TheVariants as end_
use Rattle.nl_run.specs.inner.Cells.{truth_in, truth_or}
use Rattle.nl_run.proofs.Alike.{steps_follow}

less_true : (a b : ℕ) → a < b → nat_lt a b ≡ true
less_true a b less = grind (arith, nat_tests, less)

pub large_cell : (j : Job) (called : Bytes) (l : Lone) (v : Plain) (s : Standing) (next : Bytes → Standing → Finish) → most_bytes < length (cell_of v s)
    → with_cell j called l v s next ≡ fails_at_first j called l TooLarge s
large_cell j called l v s next large =
    ap (λ (b : Bool). if b then fails_at_first j called l TooLarge s else next (cell_of v s) s) (less_true most_bytes (length (cell_of v s)) large)

reached_by : (j : Job) (s : Standing) (b : Bool) → is_reached j s ≡ b
    → steps j s ≡ (if b then regular_end end_.Steps j s else condition j j.until s (after_until j (steps j)))
reached_by j s b is =
    steps_follow j s ∙ ap (λ (x : Bool). if x then regular_end end_.Steps j s else condition j j.until s (after_until j (steps j))) is

pub steps_done : (j : Job) (s : Standing) → is_reached j s ≡ true → steps j s ≡ regular_end end_.Steps j s
steps_done j s is = reached_by j s true is

pub step_unasked : (j : Job) (s : Standing) → is_reached j s ≡ false → j.until ≡ None → steps j s ≡ go_step j (steps j) s
step_unasked j s is none = reached_by j s false is ∙ ap (λ (l : Option Lone). condition j l s (after_until j (steps j))) none

pub step_asked : (j : Job) (s : Standing) (l : Lone) → is_reached j s ≡ false → j.until ≡ Some l
    → steps j s ≡ value j until_name l s (λ v s1. truth_by j until_name l v s1 (after_until j (steps j)))
step_asked j s l is asked = reached_by j s false is ∙ ap (λ (x : Option Lone). condition j x s (after_until j (steps j))) asked

module _ {X E : Type 0} where
  pub if_ok : (P Q : X → Type 0) (r : Result X E) → IfOk r P → ((x : X) → P x → Q x) → IfOk r Q
  if_ok P Q (Ok x) p next = next x p
  if_ok P Q (Err e) p next = tt

-- a condition is met by its truth
pub truth_same : (j : Job) (called : Bytes) (l : Lone) (v : Plain) (s : Standing) (next : Bool → Standing → Finish)
    → truth_or (truth_in v) j called l s next ≡ truth_by j called l v s next
truth_same j called l (PlainTruth truth) s next = refl
truth_same j called l (PlainNumber count) s next = refl
truth_same j called l (PlainWords bytes) s next = refl
truth_same j called l (PlainItems items) s next = refl
truth_same j called l (PlainTurtle turtle) s next = refl
truth_same j called l (PlainPatch patch) s next = refl
truth_same j called l (PlainLink link) s next = refl
truth_same j called l PlainNobody s next = refl
truth_same j called l (PlainSet set) s next = refl
