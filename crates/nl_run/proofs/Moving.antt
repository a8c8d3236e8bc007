-- What one move, and what further units, leave of a run.
use Rattle.std.proofs.Common.{◌≡◌, ℕ, zero, suc, ◌+◌, ◌-◌, ◌*◌, ◌≤◌, ◌<◌, Bool, true, false, Ok, List, [], ◌∷◌, length, drop, refl, sym, ap, ◌∙◌, arith}
use Rattle.std.proofs.Math.Nat.{mul-le-mul_right}
use Rattle.nl_tree.specs.declared.declared.Form.{Form}
use Rattle.nl_tree.specs.declared.declared.Form.TheVariants as form
use Rattle.nl_agents.specs.declared.store.Store.{Ghosts}
use Rattle.nl_exec_acts.specs.Stage.{Scene}
use Rattle.nl_exec_meaning.specs.State.{Outcome}
use Rattle.nl_exec_meaning.specs.State as meant
use Rattle.nl_exec_meaning.specs.LoneTexts.{Ending, ending_of, scene_in}
use Rattle.nl_exec_meaning.specs.LoneTexts as ending
use Rattle.nl_exec.specs.Machines.{with_more}
use Rattle.nl_run.specs.Course.{Finish, ends_as, go_step, steps}
use Rattle.nl_run.specs.Job.{Job}
use Rattle.nl_run.specs.Left.{form_in, rest_by, settled, standing, stands}
use Rattle.nl_run.specs.declared.phase.Open.{Open}
use Rattle.nl_run.specs.declared.phase.Open.TheVariants as open_
use Rattle.nl_run.specs.declared.phase.Phase.{Phase}
use Rattle.nl_run.specs.declared.phase.Phase.TheVariants as phase
use Rattle.nl_run.specs.declared.progress.Progress.{Progress}
use Rattle.nl_run.specs.declared.rows.Row.{Row}
use Rattle.nl_run.specs.declared.rows.RunEnd.{RunEnd}
use Rattle.nl_run.specs.declared.rows.RunEnd.TheVariants as end_
use Rattle.nl_run.specs.inner.Moves.{Allows, ended_by}

-- a list that begins at an index has that index
pub there_at : {X : Type 0} (xs : List X) (i : ℕ) (x : X) (ys : List X) → drop i xs ≡ x ∷ ys → i < length xs
there_at [] zero x ys is = absurd (cc)
there_at [] (suc i) x ys is = absurd (cc)
there_at (y ∷ xs) zero x ys is = omega arith
there_at (y ∷ xs) (suc i) x ys is = omega (arith, there_at xs i x ys is)

-- what the end of a text is with further units: the same, which are left besides
pub more_at : (rest : ℕ → Outcome) (slice all n : ℕ) → (slice < all → (k : ℕ) → rest (slice + k) ≡ with_more k (rest slice)) → slice ≤ all → Allows slice all n
    → rest (slice + n) ≡ with_more n (rest slice)
more_at rest slice all n over within allows = by (all - slice) refl
  where
    by : (d : ℕ) → all - slice ≡ d → rest (slice + n) ≡ with_more n (rest slice)
    by zero is =
        let none : n ≡ 0 = allows (omega (arith, is, within)) in
        let slice_is : slice + n ≡ slice = omega (arith, none) in
        let units_is : (rest slice).state.units ≡ (rest slice).state.units + n = omega (arith, none) in
        ap rest slice_is ∙ ap (λ u. record (rest slice) { state = record (rest slice).state { units = u } }) units_is
    by (suc d) is = over (omega (arith, is)) n

-- ---- the open text

-- what an outcome of the open text leaves of the run
abbrev pub left_of : Open → Job → ℕ → List Row → Outcome → Finish
left_of text j step rows o = settled text j (ending_of (form_in text) o.exit) (standing (scene_in o.state) o.state.units step rows)

-- a text that has ended, with what is left of the units
pub ended_text : (text : Open) (j : Job) (step : ℕ) (rows : List Row) (rest : ℕ → Outcome) (e : Ending) (scene : Scene) (slice left n : ℕ)
    → e ≡ ending_of (form_in text) (rest slice).exit → scene_in (rest slice).state ≡ scene → (rest slice).state.units ≡ left
    → rest (slice + n) ≡ with_more n (rest slice) → settled text j e (standing scene (left + n) step rows) ≡ left_of text j step rows (rest (slice + n))
ended_text text j step rows rest e scene slice left n is_end is_scene is_left more =
    ap (λ (x : Ending). settled text j x (standing scene (left + n) step rows)) is_end
    ∙ ap (λ (x : Scene). settled text j (ending_of (form_in text) (rest slice).exit) (standing x (left + n) step rows)) (sym is_scene)
    ∙ ap (λ (x : ℕ). settled text j (ending_of (form_in text) (rest slice).exit) (standing (scene_in (rest slice).state) (x + n) step rows)) (sym is_left)
    ∙ sym (ap (left_of text j step rows) more)

-- a text that goes on
pub cut_text : (text : Open) (j : Job) (step : ℕ) (rows : List Row) (o : Outcome) → o.exit ≡ meant.Budget
    → ((left_of text j step rows o).how ≡ end_.Budget) × ((left_of text j step rows o).rows ≡ rows)
cut_text text j step rows o is =
    let end : ending_of (form_in text) o.exit ≡ ending.Budget = ap (ending_of (form_in text)) is ∙ spent (form_in text) in (
      ap (λ (e : Ending). (settled text j e (standing (scene_in o.state) o.state.units step rows)).how) end ∙ (cut text).0,
      ap (λ (e : Ending). (settled text j e (standing (scene_in o.state) o.state.units step rows)).rows) end ∙ (cut text).1,
    )
  where
    spent : (f : Form) → ending_of f meant.Budget ≡ ending.Budget
    spent form.Commands = refl
    spent form.Reporter = refl

    cut : (t : Open) → ((settled t j ending.Budget (standing (scene_in o.state) o.state.units step rows)).how ≡ end_.Budget)
        × ((settled t j ending.Budget (standing (scene_in o.state) o.state.units step rows)).rows ≡ rows)
    cut open_.Setup = (refl, refl)
    cut open_.Go = (refl, refl)
    cut (open_.Until l mark) = (refl, refl)
    cut (open_.When l mark) = (refl, refl)
    cut (open_.Metric at) = (refl, refl)

-- ---- the end of a slice

-- a run that ends so comes to this
pub comes_to : {S : Type 0} {G : Ghosts S} (p : Phase) (spent : Bool) (how : RunEnd) (j : Job) (g : Progress S G) (k : ℕ) → ended_by spent p ≡ Ok how
    → (spent ≡ true → k ≡ 0) → rest_by p j g k ≡ ends_as how (stands g k)
comes_to (phase.Over h) spent how j g k is none = let same : h ≡ how = cc in ap (λ (x : RunEnd). ends_as x (stands g k)) same
comes_to phase.Wanting true how j g k is none =
    let same : end_.Budget ≡ how = cc in
    let zero_left : k ≡ 0 = none refl in
    ap (λ (x : ℕ). go_step j (steps j) (stands g x)) zero_left
    ∙ ap (λ (x : RunEnd). ends_as x (stands g 0)) same
    ∙ ap (λ (x : ℕ). ends_as how (stands g x)) (sym zero_left)
comes_to phase.Wanting false how j g k is none = absurd (cc)
comes_to (phase.Text text) true how j g k is none = absurd (cc)
comes_to (phase.Text text) false how j g k is none = absurd (cc)
comes_to phase.Step true how j g k is none = absurd (cc)
comes_to phase.Step false how j g k is none = absurd (cc)
comes_to phase.Ended true how j g k is none = absurd (cc)
comes_to phase.Ended false how j g k is none = absurd (cc)
comes_to phase.Failed true how j g k is none = absurd (cc)
comes_to phase.Failed false how j g k is none = absurd (cc)

-- ---- that the work ends

-- no unit more, and fewer moves before the next one
pub fewer_moves : (here there each moves others : ℕ) → here ≤ there → moves < others → here * each + moves < there * each + others
fewer_moves here there each moves others less fewer = omega (arith, mul-le-mul_right each less, fewer)

-- a unit less, whatever moves come before the next one, as long as they are fewer than each unit allows
pub fewer_units : (here there each moves others : ℕ) → here < there → moves < each → here * each + moves < there * each + others
fewer_units here there each moves others less fewer =
    let once : (here + 1) * each ≤ there * each = mul-le-mul_right each (let l : here + 1 ≤ there = omega (arith, less) in l) in
    let all : (here + 1) * each ≡ here * each + each = omega arith in
    omega (arith, once, all, fewer)
