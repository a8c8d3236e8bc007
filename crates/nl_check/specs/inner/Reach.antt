-- Which kinds may run each procedure, over plain lists: what the words of its own text allow, and of each procedure the places of those
-- that call it.
use Rattle.std.specs.Prelude.{◌≡◌, ◌↔◌, ℕ, ◌+◌, ◌*◌, ◌<◌, not, if◌then◌else◌, IsTrue, List, [], ◌∷◌, ◌++◌, All, length, nat_lt, slice_set, ◌⊎◌}
use Rattle.std.specs.List.{Contains, slice_index_or, sum_by}
use Rattle.nl_words.specs.declared.entry.Kinds.{Kinds}
use Rattle.nl_words.specs.Kinds.{everyone}
use Rattle.nl_tree.specs.Context.{Kind, allows}
use Rattle.nl_check.specs.inner.Kinds.{meet, count}

-- places of procedures
abbrev pub Places : Type 0
Places = List ℕ

-- of each procedure the places of those that call it
abbrev pub Callers : Type 0
Callers = List Places

-- the places count up from 0, as far as this
abbrev pub CountUp : Places → ℕ → Type 0
CountUp places n = (k : ℕ) (d : ℕ) → k < n → slice_index_or places k d ≡ k

abbrev pub kinds_at : List Kinds → ℕ → Kinds
kinds_at ks i = slice_index_or ks i everyone

abbrev pub places_at : Callers → ℕ → Places
places_at callers j = slice_index_or callers j []

-- a chain of calls, or none, leads from the procedure to one whose own text doesn't allow the kind
pub data Barred : List Kinds → Callers → Kind → ℕ → Type 0 where
  by_own : {own : List Kinds} {callers : Callers} {kind : Kind} {i : ℕ} → IsTrue (not (allows (kinds_at own i) kind)) → Barred own callers kind i
  by_callee : {own : List Kinds} {callers : Callers} {kind : Kind} {i : ℕ} (j : ℕ) → Contains (places_at callers j) i → Barred own callers kind j → Barred own callers kind i

-- the places of callers are those of procedures
abbrev pub ArePlaces : ℕ → Callers → Type 0
ArePlaces n callers = (j : ℕ) → All (λ i. i < n) (places_at callers j)

-- a kind may run a procedure exactly where nothing bars it
abbrev pub AreSettled : List Kinds → Callers → List Kinds → Type 0
AreSettled own callers ks = (i : ℕ) (kind : Kind) → IsTrue (allows (kinds_at ks i) kind) ↔ (Barred own callers kind i → ⊥)

-- A step: the kinds of one procedure are passed on to its callers, and those that changed are put behind the work.

abbrev pub passed_kinds : Kinds → Places → List Kinds → List Kinds
passed_kinds g [] ks = ks
passed_kinds g (i ∷ is) ks = passed_kinds g is (slice_set ks i (meet (kinds_at ks i) g))

abbrev pub passed_work : Kinds → Places → List Kinds → Places → Places
passed_work g [] ks work = work
passed_work g (i ∷ is) ks work =
    passed_work g is (slice_set ks i (meet (kinds_at ks i) g)) (if nat_lt (count (meet (kinds_at ks i) g)) (count (kinds_at ks i)) then work ++ i ∷ [] else work)

-- What holds each time before a procedure is looked at.

abbrev pub Under : Kinds → Kinds → Type 0
Under a b = (kind : Kind) → IsTrue (allows a kind) → IsTrue (allows b kind)

-- what was taken from a procedure is barred, what its own text bars is taken, and each caller has no more than those that it calls,
-- except for those that are still among the work
pub record Settling (own : List Kinds) (callers : Callers) (ks : List Kinds) (work : Places) : Type 0 where
  pub many : length ks ≡ length own
  pub inside : All (λ i. i < length own) work
  pub sound : (i : ℕ) (kind : Kind) → IsTrue (not (allows (kinds_at ks i) kind)) → Barred own callers kind i
  pub low : (i : ℕ) → Under (kinds_at ks i) (kinds_at own i)
  pub closed : (i j : ℕ) → Contains (places_at callers j) i → Contains work j ⊎ Under (kinds_at ks i) (kinds_at ks j)

-- how much there is left to do
abbrev pub left_to_do : List Kinds → Places → ℕ
left_to_do ks work = 2 * sum_by count ks + length work
