-- What a run comes to beside that of the same run with more units: so many, and one.
use Rattle.std.proofs.Common.{◌≡◌, ℕ, zero, suc, ◌+◌, ◌≤◌, ◌<◌, Bool, true, false, IsTrue, List, [], ◌∷◌, ◌++◌, if◌then◌else◌, length, refl, sym, subst, arith}
use Rattle.std.specs.Prelude.{nat_lt, Option, Some, None}
use Rattle.nl_fixed.specs.Nouns.{Bytes, Texts}
use Rattle.nl_value.specs.Limits.{most_bytes}
use Rattle.nl_value.specs.Plain.{Plain, PlainNumber, PlainTruth, PlainWords, PlainItems, PlainTurtle, PlainPatch, PlainLink, PlainNobody, PlainSet}
use Rattle.nl_tree.specs.declared.declared.Form.{Form}
use Rattle.nl_tree.specs.declared.declared.Form.TheVariants as form
use Rattle.nl_exec_meaning.specs.LoneTexts.{ending_of, first_state}
use Rattle.nl_exec_meaning.specs.State as meant
use Rattle.nl_exec_meaning.specs.State.{Outcome}
use Rattle.nl_exec_meaning.specs.Meaning.{nesting_limit}
use Rattle.nl_exec_units.proofs.Beside as text
use Rattle.nl_exec_units.proofs.Beside.{up, still}
use Rattle.nl_exec_units.proofs.Running.{text-beside}
use Rattle.nl_run.specs.Course.{Finish, Standing, after_go, after_setup, after_until, after_when, at_first, behind, cell_of, cells, commands, commands_by, condition, counted, course_within, ends_as, ends_by, go_name, go_step, is_reached, judged, measured_if, metric_name, outcome_of, put_back, regular_end, setup_name, step_or_end, steps, steps_from, truth_by, unit_by, until_name, value, value_by, when, when_name, with_cell, with_row}
use Rattle.nl_run.specs.Job.{Job, Lone}
use Rattle.nl_run.specs.declared.rows.RunEnd.{RunEnd}
use Rattle.nl_run.specs.declared.rows.RunEnd.TheVariants as end_
use Rattle.nl_run.proofs.Alike.{steps_follow}
use Rattle.nl_run.proofs.Keeping.{Lasts, commands_keep, value_keep, cells_keep, judged_keep, condition_keep, unit_keep}

abbrev pub richer : ℕ → Standing → Standing
richer k s = record s { left = up s.left k }

-- not for want of units
abbrev pub by_itself : RunEnd → Bool
by_itself end_.Open = true
by_itself end_.Steps = true
by_itself end_.Condition = true
by_itself end_.Stop = true
by_itself end_.Budget = false
by_itself (end_.Error text) = true

-- Of no more than `n` units: whole, or cut for want of units, where the same with `k` and one more leaves at most `k`.
pub data Beside (k n : ℕ) : Finish → Finish → Type 0 where
  whole : {f : Finish} → IsTrue (by_itself f.how) → f.left ≤ n → Beside k n f (record f { left = up f.left k })
  cut : {f f1 : Finish} → f.how ≡ end_.Budget → f.left ≡ 0 → f1.left ≤ k → Beside k n f f1

wider : {k n m : ℕ} {f f1 : Finish} → n ≤ m → Beside k n f f1 → Beside k m f f1
wider more (whole itself few) = whole itself (omega (arith, more, few))
wider more (cut is none after) = cut is none after

pub few-left : {k n : ℕ} {f f1 : Finish} → Beside k n f f1 → f.left ≤ n
few-left (whole itself few) = few
few-left (cut is none after) = omega (arith, none)

-- ---- no units come back

abbrev on : ℕ → Standing → Type 0
on k s = s.left ≤ k

abbrev to : ℕ → Finish → Type 0
to k f = f.left ≤ k

lasts : (k : ℕ) → Lasts (on k) (to k)
lasts k = record {
  fewer = λ s scene left less here. omega (arith, less, here);
  spent = λ s here. here;
  fails = λ s text here. here;
}

-- ---- what comes next

-- with at most `n` units, and at most `k`
record Good (k n : ℕ) (next : Standing → Finish) : Type 0 where
  steady : (s : Standing) → s.left ≤ n → Beside k n (next s) (next (richer k s))
  thrift : (s : Standing) → s.left ≤ k → (next s).left ≤ k

if-beside : {k n : ℕ} (truth : Bool) {f f1 g g1 : Finish} → Beside k n f f1 → Beside k n g g1 →
    Beside k n (if truth then f else g) (if truth then f1 else g1)
if-beside true first second = first
if-beside false first second = second

if-few : (k : ℕ) (truth : Bool) (f g : Finish) → f.left ≤ k → g.left ≤ k → (if truth then f else g).left ≤ k
if-few k true f g first second = first
if-few k false f g first second = second

module _ (k : ℕ) (j : Job) where
  -- ---- texts

  commands_by-beside : (n : ℕ) (called : Bytes) (l : Lone) (s : Standing) (next : Bool → Standing → Finish) → ((stopped : Bool) → Good k n (next stopped)) →
      (o o1 : Outcome) → text.Beside k n o o1 →
      Beside k n (commands_by j called l (ending_of form.Commands o.exit) (behind o s) next)
      (commands_by j called l (ending_of form.Commands o1.exit) (behind o1 (richer k s)) next)
  commands_by-beside n called l s next good _ _ (text.whole {e = meant.Gives value} {s = s1} itself few) = (good false).steady _ few
  commands_by-beside n called l s next good _ _ (text.whole {e = meant.Stopped} itself few) = (good true).steady _ few
  commands_by-beside n called l s next good _ _ (text.whole {e = meant.Reported value} itself few) = (good false).steady _ few
  commands_by-beside n called l s next good _ _ (text.whole {e = meant.Left} itself few) = (good false).steady _ few
  commands_by-beside n called l s next good _ _ (text.whole {e = meant.Budget} itself few) = cc
  commands_by-beside n called l s next good _ _ (text.whole {e = meant.Error kind place body} itself few) = whole refl few
  commands_by-beside n called l s next good _ _ (text.cut {e = meant.Gives value} none after) = cut refl none ((good false).thrift _ after)
  commands_by-beside n called l s next good _ _ (text.cut {e = meant.Stopped} none after) = cut refl none ((good true).thrift _ after)
  commands_by-beside n called l s next good _ _ (text.cut {e = meant.Reported value} none after) = cut refl none ((good false).thrift _ after)
  commands_by-beside n called l s next good _ _ (text.cut {e = meant.Left} none after) = cut refl none ((good false).thrift _ after)
  commands_by-beside n called l s next good _ _ (text.cut {e = meant.Budget} none after) = cut refl none after
  commands_by-beside n called l s next good _ _ (text.cut {e = meant.Error kind place body} none after) = cut refl none after

  value_by-beside : (n : ℕ) (called : Bytes) (l : Lone) (s : Standing) (next : Plain → Standing → Finish) → ((v : Plain) → Good k n (next v)) →
      (o o1 : Outcome) → text.Beside k n o o1 →
      Beside k n (value_by j called l (ending_of form.Reporter o.exit) (behind o s) next)
      (value_by j called l (ending_of form.Reporter o1.exit) (behind o1 (richer k s)) next)
  value_by-beside n called l s next good _ _ (text.whole {e = meant.Gives value} itself few) = (good value).steady _ few
  value_by-beside n called l s next good _ _ (text.whole {e = meant.Stopped} itself few) = whole refl few
  value_by-beside n called l s next good _ _ (text.whole {e = meant.Reported value} itself few) = (good value).steady _ few
  value_by-beside n called l s next good _ _ (text.whole {e = meant.Left} itself few) = whole refl few
  value_by-beside n called l s next good _ _ (text.whole {e = meant.Budget} itself few) = cc
  value_by-beside n called l s next good _ _ (text.whole {e = meant.Error kind place body} itself few) = whole refl few
  value_by-beside n called l s next good _ _ (text.cut {e = meant.Gives value} none after) = cut refl none ((good value).thrift _ after)
  value_by-beside n called l s next good _ _ (text.cut {e = meant.Stopped} none after) = cut refl none after
  value_by-beside n called l s next good _ _ (text.cut {e = meant.Reported value} none after) = cut refl none ((good value).thrift _ after)
  value_by-beside n called l s next good _ _ (text.cut {e = meant.Left} none after) = cut refl none after
  value_by-beside n called l s next good _ _ (text.cut {e = meant.Budget} none after) = cut refl none after
  value_by-beside n called l s next good _ _ (text.cut {e = meant.Error kind place body} none after) = cut refl none after

  texts-beside : (f : Form) (l : Lone) (s : Standing) (n : ℕ) → s.left ≤ n → text.Beside k n (outcome_of j f l s) (outcome_of j f l (richer k s))
  texts-beside f l s n few = text-beside j.program nesting_limit f k l.tree (first_state s.scene s.left) n few

  commands-good : (n : ℕ) (called : Bytes) (l : Lone) (next : Bool → Standing → Finish) → ((stopped : Bool) → Good k n (next stopped)) →
      Good k n (λ s. commands j called l s next)
  commands-good n called l next good = record {
    steady = λ s few. commands_by-beside n called l s next good _ _ (texts-beside form.Commands l s n few);
    thrift = λ s few. commands_keep j (on k) (to k) (lasts k) called l s next few (λ stopped s1 here. (good stopped).thrift s1 here);
  }

  value-good : (n : ℕ) (called : Bytes) (l : Lone) (next : Plain → Standing → Finish) → ((v : Plain) → Good k n (next v)) →
      Good k n (λ s. value j called l s next)
  value-good n called l next good = record {
    steady = λ s few. value_by-beside n called l s (λ v s1. next v (put_back s.scene.stream s1))
        (λ v. record {
          steady = λ s1 fewer. (good v).steady (put_back s.scene.stream s1) fewer;
          thrift = λ s1 fewer. (good v).thrift (put_back s.scene.stream s1) fewer;
        }) _ _ (texts-beside form.Reporter l s n few);
    thrift = λ s few. value_keep j (on k) (to k) (lasts k) called l s next few (λ v s1 here. (good v).thrift s1 here);
  }

  -- ---- measures

  cell-good : (n : ℕ) (called : Bytes) (l : Lone) (v : Plain) (next : Bytes → Standing → Finish) → ((cell : Bytes) → Good k n (next cell)) →
      Good k n (λ s. with_cell j called l v s next)
  cell-good n called l v next good = record {
    steady = λ s few. if-beside (nat_lt most_bytes (length (cell_of v s))) (whole refl few) ((good (cell_of v s)).steady s few);
    thrift = λ s few. if-few k (nat_lt most_bytes (length (cell_of v s))) _ _ few ((good (cell_of v s)).thrift s few);
  }

  cells-good : (n : ℕ) (next : Texts → Standing → Finish) → ((all : Texts) → Good k n (next all)) → (number : ℕ) (ls : List Lone) (made : Texts) →
      Good k n (λ s. cells j number ls made s next)
  cells-good n next good number [] made = record { steady = λ s few. (good made).steady s few; thrift = λ s few. (good made).thrift s few }
  cells-good n next good number (l ∷ ls) made =
      let behind_it : (v : Plain) → Good k n (λ s. with_cell j (metric_name number) l v s (λ cell s1. cells j (number + 1) ls (made ++ cell ∷ []) s1 next)) =
      λ v. cell-good n (metric_name number) l v _ (λ cell. cells-good n next good (number + 1) ls (made ++ cell ∷ [])) in
      let all : Good k n (λ s. cells j number (l ∷ ls) made s next) = value-good n (metric_name number) l _ behind_it in all

  measured_if-good : (n : ℕ) (truth : Bool) (next : Standing → Finish) → Good k n next → Good k n (λ s. measured_if truth j s next)
  measured_if-good n true next good =
      let all : (s : Standing) → Good k n (λ s1. cells j 1 j.metrics [] s1 (λ made s2. next (with_row j made s2))) =
      λ s. cells-good n (λ made s1. next (with_row j made s1))
      (λ made. record {
        steady = λ s1 few. good.steady (with_row j made s1) few;
        thrift = λ s1 few. good.thrift (with_row j made s1) few;
      }) 1 j.metrics [] in
      record { steady = λ s few. (all s).steady s few; thrift = λ s few. (all s).thrift s few }
  measured_if-good n false next good = record { steady = λ s few. good.steady s few; thrift = λ s few. good.thrift s few }

  -- ---- conditions

  truth-good : (n : ℕ) (called : Bytes) (l : Lone) (v : Plain) (next : Bool → Standing → Finish) → ((met : Bool) → Good k n (next met)) →
      Good k n (λ s. truth_by j called l v s next)
  truth-good n called l (PlainTruth truth) next good = record { steady = λ s few. (good truth).steady s few; thrift = λ s few. (good truth).thrift s few }
  truth-good n called l (PlainNumber count) next good = record { steady = λ s few. whole refl few; thrift = λ s few. few }
  truth-good n called l (PlainWords bytes) next good = record { steady = λ s few. whole refl few; thrift = λ s few. few }
  truth-good n called l (PlainItems items) next good = record { steady = λ s few. whole refl few; thrift = λ s few. few }
  truth-good n called l (PlainTurtle turtle) next good = record { steady = λ s few. whole refl few; thrift = λ s few. few }
  truth-good n called l (PlainPatch patch) next good = record { steady = λ s few. whole refl few; thrift = λ s few. few }
  truth-good n called l (PlainLink link) next good = record { steady = λ s few. whole refl few; thrift = λ s few. few }
  truth-good n called l PlainNobody next good = record { steady = λ s few. whole refl few; thrift = λ s few. few }
  truth-good n called l (PlainSet set) next good = record { steady = λ s few. whole refl few; thrift = λ s few. few }

  judged-good : (n : ℕ) (called : Bytes) (l : Lone) (next : Bool → Standing → Finish) → ((met : Bool) → Good k n (next met)) →
      Good k n (λ s. judged j called l s next)
  judged-good n called l next good =
      let all : Good k n (λ s. judged j called l s next) =
      value-good n called l (λ v s. truth_by j called l v s next) (λ v. truth-good n called l v next good) in all

  when-good : (n : ℕ) (l : Option Lone) (next : Standing → Finish) → Good k n next → Good k n (λ s. when j l s next)
  when-good n None next good = record { steady = λ s few. good.steady s few; thrift = λ s few. good.thrift s few }
  when-good n (Some l) next good =
      let all : Good k n (λ s. judged j when_name l s (after_when j next)) =
      judged-good n when_name l (after_when j next) (λ truth. measured_if-good n truth next good) in all

  condition-good : (n : ℕ) (l : Option Lone) (next : Bool → Standing → Finish) → ((met : Bool) → Good k n (next met)) → Good k n (λ s. condition j l s next)
  condition-good n None next good = record { steady = λ s few. (good false).steady s few; thrift = λ s few. (good false).thrift s few }
  condition-good n (Some l) next good =
      let all : Good k n (λ s. judged j until_name l s next) = judged-good n until_name l next good in all

  -- ---- an end that isn't for want of units

  ends-good : (n : ℕ) (how : RunEnd) → IsTrue (by_itself how) → Good k n (ends_as how)
  ends-good n how itself = record { steady = λ s few. whole itself few; thrift = λ s few. few }

  ends_by-good : (n : ℕ) (l : Option Lone) (how : RunEnd) → IsTrue (by_itself how) → Good k n (ends_by l how j)
  ends_by-good n None how itself =
      let all : Good k n (λ s. measured_if true j s (ends_as how)) = measured_if-good n true (ends_as how) (ends-good n how itself) in
      record { steady = λ s few. all.steady s few; thrift = λ s few. all.thrift s few }
  ends_by-good n (Some l) how itself = record { steady = λ s few. whole itself few; thrift = λ s few. few }

  regular-good : (n : ℕ) (how : RunEnd) → IsTrue (by_itself how) → Good k n (regular_end how j)
  regular-good n how itself = ends_by-good n j.when how itself

  -- ---- that no units come back behind a step

  measured-few : (truth : Bool) (next : Standing → Finish) → ((s : Standing) → s.left ≤ k → (next s).left ≤ k) → (s : Standing) → s.left ≤ k →
      (measured_if truth j s next).left ≤ k
  measured-few true next thrifty s few =
      cells_keep j (on k) (to k) (lasts k) 1 j.metrics [] s _ few (λ made s1 fewer. thrifty (with_row j made s1) fewer)
  measured-few false next thrifty s few = thrifty s few

  when-few : (l : Option Lone) (next : Standing → Finish) → ((s : Standing) → s.left ≤ k → (next s).left ≤ k) → (s : Standing) → s.left ≤ k →
      (when j l s next).left ≤ k
  when-few None next thrifty s few = thrifty s few
  when-few (Some l) next thrifty s few =
      judged_keep j (on k) (to k) (lasts k) when_name l s (after_when j next) few (λ truth s1 fewer. measured-few truth next thrifty s1 fewer)

  ends_by-few : (l : Option Lone) (how : RunEnd) (s : Standing) → s.left ≤ k → (ends_by l how j s).left ≤ k
  ends_by-few None how s few = measured-few true (ends_as how) (λ s1 fewer. fewer) s few
  ends_by-few (Some l) how s few = few

  regular-few : (how : RunEnd) (s : Standing) → s.left ≤ k → (regular_end how j s).left ≤ k
  regular-few how s few = ends_by-few j.when how s few

  module _ (next : Standing → Finish) (thrifty : (s : Standing) → s.left ≤ k → (next s).left ≤ k) where
    after_go-few : (stopped : Bool) (s : Standing) → s.left ≤ k → (after_go j next stopped s).left ≤ k
    after_go-few true s few = regular-few end_.Stop s few
    after_go-few false s few = when-few j.when next thrifty (counted s) few

    gone-few : (s : Standing) → s.left ≤ k → (commands j go_name j.go s (after_go j next)).left ≤ k
    gone-few s few = commands_keep j (on k) (to k) (lasts k) go_name j.go s (after_go j next) few after_go-few

    go-few : (s : Standing) → s.left ≤ k → (go_step j next s).left ≤ k
    go-few s few = unit_keep j (on k) (to k) (lasts k) s.left s _ (still s.left) few gone-few

    until-few : (met : Bool) (s : Standing) → s.left ≤ k → (after_until j next met s).left ≤ k
    until-few true s few = regular-few end_.Condition s few
    until-few false s few = go-few s few

    step-few : (s : Standing) → s.left ≤ k → (step_or_end j next s).left ≤ k
    step-few s few =
        if-few k (is_reached j s) (regular_end end_.Steps j s) (condition j j.until s (after_until j next))
        (regular-few end_.Steps s few)
        (condition_keep j (on k) (to k) (lasts k) j.until s (after_until j next) few until-few)

  steps_from-few : (most : ℕ) (s : Standing) → s.left ≤ k → (steps_from most j s).left ≤ k
  unfolding steps_from
  steps_from-few zero s few = few
  steps_from-few (suc most) s few = step-few (steps_from most j) (steps_from-few most) s few

  steps-few : (s : Standing) → s.left ≤ k → (steps j s).left ≤ k
  steps-few s few = steps_from-few (suc s.left) s few

  -- ---- a step

  -- what comes behind a step has fewer units than there were
  module _ (n : ℕ) (next : Standing → Finish) (thrifty : (s : Standing) → s.left ≤ k → (next s).left ≤ k)
      (behind_it : (m : ℕ) → m < n → Good k m next) where
    after_go-good : (m : ℕ) → m < n → (stopped : Bool) → Good k m (after_go j next stopped)
    after_go-good m less true = regular-good m end_.Stop refl
    after_go-good m less false =
        let all : Good k m (λ s. when j j.when s next) = when-good m j.when next (behind_it m less) in
        record { steady = λ s few. all.steady (counted s) few; thrift = λ s few. all.thrift (counted s) few }

    gone-good : (m : ℕ) → m < n → Good k m (λ s. commands j go_name j.go s (after_go j next))
    gone-good m less = commands-good m go_name j.go (after_go j next) (after_go-good m less)

    unit-beside : (units : ℕ) (s : Standing) → s.left ≡ units → units ≤ n →
        Beside k n (unit_by units s (λ s1. commands j go_name j.go s1 (after_go j next)))
        (unit_by (up units k) (richer k s) (λ s1. commands j go_name j.go s1 (after_go j next)))
    unit-beside zero s is few = cut refl is (gone-few next thrifty (record s { left = k }) (still k))
    unit-beside (suc units) s is few =
        wider (omega (arith, few)) ((gone-good units (omega (arith, few))).steady (record s { left = units }) (still units))

    until-good : (met : Bool) → Good k n (after_until j next met)
    until-good true = regular-good n end_.Condition refl
    until-good false = record { steady = λ s few. unit-beside s.left s refl few; thrift = λ s few. go-few next thrifty s few }

    step-good : Good k n (step_or_end j next)
    step-good = record {
      steady = λ s few. if-beside (is_reached j s) ((regular-good n end_.Steps refl).steady s few)
          ((condition-good n j.until (after_until j next) until-good).steady s few);
      thrift = λ s few. step-few next thrifty s few;
    }

  -- ---- steps

  steps-below : (bound n : ℕ) → n < bound → Good k n (steps j)
  steps-below zero n less = absurd (omega (arith, less))
  steps-below (suc bound) n less =
      let all : Good k n (step_or_end j (steps j)) =
      step-good n (steps j) steps-few (λ m fewer. steps-below bound m (omega (arith, less, fewer))) in
      record {
        steady = λ s few. subst (λ f. Beside k n f (steps j (richer k s))) (sym (steps_follow j s))
            (subst (λ f. Beside k n (step_or_end j (steps j) s) f) (sym (steps_follow j (richer k s))) (all.steady s few));
        thrift = λ s few. steps-few s few;
      }

  after_setup-good : (n : ℕ) (stopped : Bool) → Good k n (after_setup j (steps j) stopped)
  after_setup-good n stopped =
      let all : Good k n (λ s. when j j.when s (steps j)) =
      when-good n j.when (steps j) (steps-below (suc n) n (omega arith)) in
      record { steady = λ s few. all.steady s few; thrift = λ s few. all.thrift s few }

  pub course-beside : (units : ℕ) → Beside k units (course_within j units) (course_within j (up units k))
  unfolding course_within
  course-beside units =
      (commands-good units setup_name j.setup (after_setup j (steps j)) (after_setup-good units)).steady (at_first j units) (still units)
