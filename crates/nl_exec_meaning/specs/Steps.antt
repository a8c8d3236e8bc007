-- `forward` and `back`: a turtle goes step by step, each for a unit, and ends at the first step that the world forbids.
-- The steps are the NetLogo Dictionary's; that each is of length 1 but for a rest, which comes last, is this project's own choice.
use Rattle.std.specs.Prelude.{ℕ, zero, suc, ◌/◌, ◌%◌, ℤ, unsigned_abs, Option, Some, None, Result, Ok, Err}
use Rattle.nl_fixed.specs.Numbers.{one}
use Rattle.nl_fixed.specs.declared.number.NumFault.{NumFault}
use Rattle.nl_fixed.specs.declared.span.Span.{Span}
use Rattle.nl_grid.specs.declared.point.Point.{Point}
use Rattle.nl_agents.specs.Changes.{moved}
use Rattle.nl_tree.specs.Tree.{Node, span}
use Rattle.nl_words.specs.declared.entry.Kinds.{Kinds}
use Rattle.nl_listops.specs.Answers.{signed_as}
use Rattle.nl_motion.specs.Motion.{step_end}
use Rattle.nl_exec_acts.specs.declared.fail.ErrorKind.TheVariants.{Overflow}
use Rattle.nl_exec_acts.specs.Stage.{bare, changed}
use Rattle.nl_exec_acts.specs.Acts.{turtle_in}
use Rattle.nl_exec_meaning.specs.State.{State, Outcome, Eval, goes_on, fails, come_to, ◌>>=◌, spend, with_part, with_number, with_stage, rest_of}
use Rattle.nl_exec_meaning.specs.Running.{staying}

-- goes on behind a step that was made, and ends where it wasn't
abbrev pub step_made : ℕ → Span → State → Result (Option Point) NumFault → (State → Outcome) → Outcome
step_made turtle place s (Ok (Some to)) next = next (with_stage (changed (moved turtle to) s.stage) s)
step_made turtle place s (Ok None) next = goes_on s
step_made turtle place s (Err fault) next = fails Overflow place s

abbrev pub step : ℕ → ℤ → Span → State → (State → Outcome) → Outcome
step turtle by place s next = spend s (λ s1. step_made turtle place s1 (step_end turtle by (bare (rest_of s1))) next)

-- what is left of less than a step
abbrev pub last_step : ℕ → ℕ → ℤ → Span → State → Outcome
last_step turtle zero way place s = goes_on s
last_step turtle (suc rest) way place s = step turtle (signed_as way (suc rest)) place s (λ s1. goes_on s1)

-- so many whole steps, and then the rest
abbrev pub steps : ℕ → ℕ → ℕ → ℤ → Span → State → Outcome
steps zero turtle rest way place s = last_step turtle rest way place s
steps (suc n) turtle rest way place s = step turtle (signed_as way one) place s (λ s1. steps n turtle rest way place s1)

abbrev pub walked : ℤ → Span → State → Outcome
walked by place s =
    come_to (turtle_in s.site.agent) place s (λ turtle. steps (unsigned_abs by / one) turtle (unsigned_abs by % one) by place s)

-- the distance is given by `way`: as it is for `forward`, and its negative for `back`
abbrev pub walk_case : (ℤ → ℤ) → Kinds → Eval → Node → State → Outcome
walk_case way runs prev t s =
    with_part t 0 (span t) s (λ part. prev part s >>= λ value s1.
    staying runs s1 (with_number value (span t) s1 (λ by. walked (way by) (span t) s1)))
