-- What the words of a body's own text allow, and which procedures they call.
use Rattle.std.specs.Prelude.{ℕ, zero, suc, ◌+◌, false, if◌then◌else◌, List, [], ◌∷◌, ◌++◌, Option, Some, None, slice_set}
use Rattle.nl_words.specs.declared.entry.Kinds.{Kinds}
use Rattle.nl_words.specs.Kinds.{everyone}
use Rattle.nl_tree.specs.Tree.{Node}
use Rattle.nl_tree.specs.Term.{Term}
use Rattle.nl_tree.specs.Context.{pieces}
use Rattle.nl_check.specs.declared.calls.Call.{Call}
use Rattle.nl_check.specs.declared.step.Step.{Step}
use Rattle.nl_check.specs.declared.step.Step.TheVariants as step
use Rattle.nl_check.specs.inner.Kinds.{meet}
use Rattle.nl_check.specs.inner.Steps.{steps_of}
use Rattle.nl_check.specs.inner.Reach.{Callers, places_at}

abbrev pub runs_at : Step → Kinds
runs_at (step.Word u) = if u.inner then everyone else u.runs
runs_at (step.Open first) = everyone
runs_at step.Close = everyone

abbrev pub runs_in : List Step → Kinds
runs_in [] = everyone
runs_in (s ∷ ss) = meet (runs_at s) (runs_in ss)

abbrev pub callee_at : Step → Option ℕ
callee_at (step.Word u) = if u.inner then None else u.calls
callee_at (step.Open first) = None
callee_at step.Close = None

abbrev pub call_to : ℕ → Option ℕ → List Call
call_to caller None = []
call_to caller (Some j) = record { caller = caller; callee = j } ∷ []

abbrev pub calls_in : ℕ → List Step → List Call
calls_in caller [] = []
calls_in caller (s ∷ ss) = call_to caller (callee_at s) ++ calls_in caller ss

-- of all bodies, the first of which has this place

abbrev pub body_steps : List Term → Node → List Step
body_steps table t = steps_of table false (pieces table t)

abbrev pub own_of : List Term → List Node → List Kinds
own_of table [] = []
own_of table (t ∷ ts) = runs_in (body_steps table t) ∷ own_of table ts

abbrev pub calls_from : List Term → ℕ → List Node → List Call
calls_from table i [] = []
calls_from table i (t ∷ ts) = calls_in i (body_steps table t) ++ calls_from table (i + 1) ts

-- each caller put behind those of its callee
abbrev pub with_caller : Callers → Call → Callers
with_caller callers c = slice_set callers c.callee (places_at callers c.callee ++ c.caller ∷ [])

abbrev pub reversed : Callers → List Call → Callers
reversed callers [] = callers
reversed callers (c ∷ cs) = reversed (with_caller callers c) cs

-- so many procedures that nobody calls
abbrev pub nobody : ℕ → Callers
nobody zero = []
nobody (suc n) = [] ∷ nobody n
