-- What the course of a run means: laws above the definition.
use Rattle.std.specs.Prelude.{◌≡◌, ℕ, ◌+◌, ◌-◌, ◌≤◌, ◌<◌, ⊤, Bool, List, [], ◌∷◌, Option, Some, None}
use Rattle.nl_fixed.specs.Nouns.{Bytes, Texts}
use Rattle.nl_value.specs.Plain.{Plain}
use Rattle.nl_tree.specs.declared.declared.Form.{Form}
use Rattle.nl_tree.specs.declared.declared.Form.TheVariants as form
use Rattle.nl_run.specs.Course.{Finish, Standing, commands, course_within, judged, outcome_of, rows_of, step_or_end, steps, steps_from, value}
use Rattle.nl_run.specs.Job.{Job, Lone}
use Rattle.nl_run.specs.declared.rows.Row.{Row}
use Rattle.nl_run.specs.declared.rows.RunEnd.{RunEnd}
use Rattle.nl_run.specs.declared.rows.RunEnd.TheVariants as end_

-- the units that are left are some of those that there were
abbrev pub UnitsAreOfTheBudget : Type 0
UnitsAreOfTheBudget = (j : Job) (units : ℕ) → (course_within j units).left ≤ units

-- a step, or the end, and then the further steps
abbrev pub StepsFollowEachOther : Type 0
StepsFollowEachOther = (j : Job) (s : Standing) → steps j s ≡ step_or_end j (steps j) s

-- it makes no difference how many steps are allowed, as long as they are more than there are units
abbrev pub UnitsBoundSteps : Type 0
UnitsBoundSteps = (most : ℕ) (j : Job) (s : Standing) → s.left < most → steps_from most j s ≡ steps j s

-- ---- units of a text

-- the units that a text spends
abbrev pub spent_by : Job → Form → Lone → Standing → ℕ
spent_by j f l s = s.left - (outcome_of j f l s).state.units

-- What comes behind commands is told by what it is where there are as many units fewer as they spent: two that are the same there are the same
-- behind these commands. So it is behind metrics and conditions.
abbrev pub TextsSpend : Type 0
TextsSpend =
    (j : Job) (called : Bytes) (l : Lone) (s : Standing) (next other : Bool → Standing → Finish)
    → ((b : Bool) (t : Standing) → t.left + spent_by j form.Commands l s ≡ s.left → next b t ≡ other b t)
    → commands j called l s next ≡ commands j called l s other

abbrev pub MetricsSpend : Type 0
MetricsSpend =
    (j : Job) (called : Bytes) (l : Lone) (s : Standing) (next other : Plain → Standing → Finish)
    → ((v : Plain) (t : Standing) → t.left + spent_by j form.Reporter l s ≡ s.left → next v t ≡ other v t)
    → value j called l s next ≡ value j called l s other

abbrev pub ConditionsSpend : Type 0
ConditionsSpend =
    (j : Job) (called : Bytes) (l : Lone) (s : Standing) (next other : Bool → Standing → Finish)
    → ((b : Bool) (t : Standing) → t.left + spent_by j form.Reporter l s ≡ s.left → next b t ≡ other b t)
    → judged j called l s next ≡ judged j called l s other

-- ---- rows

-- no row but the last one has an end, and that one has
abbrev pub EndsLast : List Row → Type 0
EndsLast [] = ⊥
EndsLast (r ∷ []) = r.end ≡ end_.Open → ⊥
EndsLast (r ∷ s ∷ rs) = (r.end ≡ end_.Open) × EndsLast (s ∷ rs)

abbrev pub TheLastRowAloneEnds : Type 0
TheLastRowAloneEnds = (j : Job) → EndsLast (rows_of j)

-- A row that measures has more steps than the one before it, and so has one that only ends, if the end is a regular one. One that only ends by a
-- spent budget or an error has no fewer.
abbrev pub RisesTo : ℕ → ℕ → RunEnd → Type 0
RisesTo before step end_.Budget = before ≤ step
RisesTo before step (end_.Error text) = before ≤ step
RisesTo before step regular = before < step

abbrev pub RisesBy : ℕ → ℕ → Option Texts → RunEnd → Type 0
RisesBy before step (Some cells) how = before < step
RisesBy before step None how = RisesTo before step how

abbrev pub Rises : Row → Row → Type 0
Rises r s = RisesBy r.step s.step s.cells s.end

abbrev pub StepsRise : List Row → Type 0
StepsRise [] = ⊤
StepsRise (r ∷ []) = ⊤
StepsRise (r ∷ s ∷ rs) = Rises r s × StepsRise (s ∷ rs)

abbrev pub RowsRise : Type 0
RowsRise = (j : Job) → StepsRise (rows_of j)
