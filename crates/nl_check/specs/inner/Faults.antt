-- The first fault of a text, from its steps.
use Rattle.std.specs.Prelude.{ℕ, Bool, if◌then◌else◌, List, [], ◌∷◌, ◌++◌, Option, Some, None, slice_get}
use Rattle.nl_words.specs.declared.entry.Kinds.{Kinds}
use Rattle.nl_words.specs.Kinds.{everyone}
use Rattle.nl_fixed.specs.declared.span.Span.{Span}
use Rattle.nl_tree.specs.declared.faults.CheckKind.{CheckKind}
use Rattle.nl_tree.specs.declared.faults.CheckKind.TheVariants.{WrongContext, NotSettable, NoReport}
use Rattle.nl_tree.specs.Context.{is_misplaced}
use Rattle.nl_check.specs.declared.faults.Wrong.{Wrong}
use Rattle.nl_check.specs.declared.step.Use.{Use}
use Rattle.nl_check.specs.declared.step.Step.{Step}
use Rattle.nl_check.specs.declared.step.Step.TheVariants as step
use Rattle.nl_check.specs.inner.Kinds.{meet, is_none}

abbrev pub or_everyone : Option Kinds → Kinds
or_everyone None = everyone
or_everyone (Some k) = k

-- the kinds that may run what is called
abbrev pub called_kinds : List Kinds → Option ℕ → Kinds
called_kinds ks None = everyone
called_kinds ks (Some j) = or_everyone (slice_get ks j)

abbrev pub allowed : List Kinds → Use → Kinds
allowed ks u = meet u.runs (called_kinds ks u.calls)

-- the fault at a word at which these kinds are left
abbrev pub kind_at : Bool → Kinds → Use → Option CheckKind
kind_at reporter left u =
    if is_none left then Some WrongContext
    else (if u.unsettable then Some NotSettable
    else (if is_misplaced reporter u.inner u.leaving then Some NoReport
    else None))

abbrev pub placed : Span → Option CheckKind → Option Wrong
placed s None = None
placed s (Some k) = Some (record { kind = k; span = s })

abbrev pub wrong_by : List Kinds → Bool → Kinds → Step → Option Wrong
wrong_by ks reporter left (step.Word u) = placed u.span (kind_at reporter (meet left (allowed ks u)) u)
wrong_by ks reporter left (step.Open first) = None
wrong_by ks reporter left step.Close = None

-- the last of the kinds, or these where there are none; and those before the last
abbrev pub last_or : Kinds → List Kinds → Kinds
last_or k [] = k
last_or k (l ∷ ls) = last_or l ls

abbrev pub front_of : Kinds → List Kinds → List Kinds
front_of k [] = []
front_of k (l ∷ ls) = k ∷ front_of l ls

abbrev pub front : List Kinds → List Kinds
front [] = []
front (k ∷ ks) = front_of k ks

-- the kinds that are left, and those that are left around the block
abbrev pub left_after : List Kinds → List Kinds → Kinds → Step → Kinds
left_after ks around left (step.Word u) = meet left (allowed ks u)
left_after ks around left (step.Open first) = first
left_after ks around left step.Close = last_or left around

abbrev pub around_after : List Kinds → Kinds → Step → List Kinds
around_after around left (step.Word u) = around
around_after around left (step.Open first) = around ++ left ∷ []
around_after around left step.Close = front around

abbrev pub or_later : Option Wrong → Option Wrong → Option Wrong
or_later None later = later
or_later (Some w) later = Some w

abbrev pub first_wrong : List Kinds → Bool → List Kinds → Kinds → List Step → Option Wrong
first_wrong ks reporter around left [] = None
first_wrong ks reporter around left (s ∷ ss) = or_later (wrong_by ks reporter left s) (first_wrong ks reporter (around_after around left s) (left_after ks around left s) ss)
