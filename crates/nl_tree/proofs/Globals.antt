-- The slots of global variables: each is that of one name, in range, and there exactly for the names that are global variables.
use Rattle.std.proofs.Common.{◌≡◌, ℕ, zero, suc, ◌+◌, ◌<◌, Bool, true, false, if◌then◌else◌, List, [], ◌∷◌, ◌++◌, map, length, find, Option, Some, None, IsSome, IfSome, bytes_eq, slice_get, refl, sym, ap, subst, ◌∙◌, arith, ◌||◌, get_or}
use Rattle.std.specs.List.{Contains}
use Rattle.std.proofs.lemmas.Option.{slice_get_within}
use Rattle.std.proofs.lemmas.List.Elements.{Contains-append_left, Contains-append_right}
use Rattle.std.proofs.lemmas.List.Sorted.{IsPermutation-refl}
use Rattle.std.proofs.lemmas.List.{get_or-map, length-map}
use Rattle.std.proofs.lemmas.Slice.Eq.{bytes_eq-Decides}
use Rattle.nl_fixed.specs.Nouns.{Name, Names}
use Rattle.nl_words.specs.Row.{Row, row_named}
use Rattle.nl_words.specs.Rows.{rows}
use Rattle.nl_tree.specs.declared.declared.Declared.{Declared}
use Rattle.nl_tree.specs.declared.declared.Breed.{Breed}
use Rattle.nl_tree.specs.declared.declared.NamedWhat.{NamedWhat}
use Rattle.nl_tree.specs.declared.declared.What.{What}
use Rattle.nl_tree.specs.declared.declared.What.TheVariants as what
use Rattle.nl_tree.specs.Term.{Term}
use Rattle.nl_tree.specs.Names.{IsDeclared}
use Rattle.nl_tree.specs.Slots.{slot_of, run_number, experiment_name, global_slot, names_global, globals_count}
use Rattle.nl_tree.specs.Vocabulary.{Pattern, among, base_term, counted, global_names, global_term, owned_names, owned_term, made_as, made_name, made_terms, patterns, breed_terms, procedure_term, terms, named_what, whats, what_of, what_named}
use Rattle.nl_tree.proofs.Finding.{looked_up}

module _ (gs : Names) where
  -- a row of a global variable has the name of its slot
  abbrev IsNamed : Term → Type 0
  IsNamed t = (n : ℕ) → t.what ≡ what.Global n → slice_get gs n ≡ Some t.name

  abbrev AreNamed : List Term → Type 0
  AreNamed [] = Unit {0}
  AreNamed (t ∷ ts) = IsNamed t × AreNamed ts

  named-append : (ts us : List Term) → AreNamed ts → AreNamed us → AreNamed (ts ++ us)
  named-append [] us h k = k
  named-append (t ∷ ts) us h k = (h.0, named-append ts us h.1 k)

  named_base : (rs : List Row) → AreNamed (map base_term rs)
  named_base [] = tt
  named_base (r ∷ rs) = ((λ n is. cc), named_base rs)

  -- rows of which none is that of a global variable
  named_others : {A : Type 0} (f : ℕ → A → Term) → ((n : ℕ) (x : A) → IsNamed (f n x)) → (n : ℕ) (xs : List A) → AreNamed (counted f n xs)
  named_others f each n [] = tt
  named_others f each n (x ∷ xs) = (each n x, named_others f each (n + 1) xs)

  same_slot : (k n : ℕ) → what.Global k ≡ what.Global n → k ≡ n
  same_slot k n is = cc

  named_globals : (k : ℕ) (xs : Names) → ((i : ℕ) (x : Name) → slice_get xs i ≡ Some x → slice_get gs (k + i) ≡ Some x) → AreNamed (counted global_term k xs)
  named_globals k [] here = tt
  named_globals k (x ∷ xs) here = (
    (λ n is. subst (λ i. slice_get gs i ≡ Some x) (same_slot k n is) (subst (λ i. slice_get gs i ≡ Some x) (omega arith) (here 0 x refl))),
    named_globals (k + 1) xs (λ i y at. subst (λ j. slice_get gs j ≡ Some y) (omega arith) (here (suc i) y at)),
  )

  named_made_as : (n : ℕ) (name : Name) (o : Option Row) → AreNamed (made_as n name o)
  named_made_as n name None = tt
  named_made_as n name (Some r) = ((λ k is. cc), tt)

  named_made : (n : ℕ) (b : Breed) (ps : List Pattern) → AreNamed (made_terms n b ps)
  named_made n b [] = tt
  named_made n b (p ∷ ps) = named-append (made_as n (made_name b p) (row_named rows p.base)) (made_terms n b ps) (named_made_as n (made_name b p) (row_named rows p.base)) (named_made n b ps)

  named_breeds : (n : ℕ) (bs : List Breed) → AreNamed (breed_terms n bs)
  named_breeds n [] = tt
  named_breeds n (b ∷ bs) = named-append (made_terms n b (patterns b)) (breed_terms (n + 1) bs) (named_made n b (patterns b)) (named_breeds (n + 1) bs)

  -- what is found under a name
  by_name : (name : Name) (n : ℕ) (ts : List Term) → AreNamed ts → what_of (find (λ r. bytes_eq r.name name) (map named_what ts)) ≡ Some (what.Global n) → slice_get gs n ≡ Some name
  by_name name n [] all here = cc
  by_name name n (t ∷ ts) all here = at (bytes_eq t.name name) refl here (by_name name n ts all.1)
    where
      at : (b : Bool) → bytes_eq t.name name ≡ b
          → what_of (if b then Some (named_what t) else find (λ (r : NamedWhat). bytes_eq r.name name) (map named_what ts)) ≡ Some (what.Global n)
          → (what_of (find (λ (r : NamedWhat). bytes_eq r.name name) (map named_what ts)) ≡ Some (what.Global n) → slice_get gs n ≡ Some name)
          → slice_get gs n ≡ Some name
      at true same found later =
          let it : t.what ≡ what.Global n = cc in
          subst (λ m. slice_get gs n ≡ Some m) ((bytes_eq-Decides t.name name).0 same) (all.0 n it)
      at false other found later = later found

module _ (d : Declared) where
  named_terms : AreNamed (global_names d) (terms d)
  named_terms =
      let gs = global_names d in
      named-append gs _ _ (named_base gs rows)
      (named-append gs _ _
      (named-append gs _ _
      (named-append gs _ _
      (named_globals gs 0 gs (λ i x at. subst (λ j. slice_get gs j ≡ Some x) (omega arith) at))
      (named_others gs (owned_term d) (λ n x k is. cc) 0 (owned_names d)))
      (named_breeds gs 1 d.breeds))
      (named_others gs procedure_term (λ n x k is. cc) 0 d.procedures))

  -- a word that is a global variable has the name of its slot
  pub name_of_slot : (name : Name) (n : ℕ) → what_named d name ≡ Some (what.Global n) → slice_get (global_names d) n ≡ Some name
  name_of_slot name n here = by_name (global_names d) name n (terms d) named_terms here

-- ---- and back

contains_counted : {A : Type 0} (f : ℕ → A → Term) (k : ℕ) (xs : List A) (i : ℕ) (x : A) → slice_get xs i ≡ Some x → Contains (counted f k xs) (f (k + i) x)
contains_counted f k [] i x at = absurd (omega (arith, slice_get_within [] i x at))
contains_counted f k (y ∷ ys) zero x at =
    let same : y ≡ x = cc in
    let here : k ≡ k + 0 = omega arith in
    (0, omega arith, subst (λ m. f k y ≡ f m x) here (ap (f k) same))
contains_counted f k (y ∷ ys) (suc i) x at =
    let (j, inside, is) = contains_counted f (k + 1) ys i x at in
    let here : k + 1 + i ≡ k + suc i = omega arith in
    (suc j, omega (arith, inside), subst (λ m. get_or (counted f (k + 1) ys) j (f m x) ≡ f m x) here is)

contains_whats : (ts : List Term) (t : Term) → Contains ts t → Contains (map named_what ts) (named_what t)
contains_whats ts t (k, within, is) =
    (k, subst (λ n. k < n) (sym (length-map ts named_what)) within, get_or-map named_what ts k t (named_what t) within ∙ ap named_what is)

-- a name that is among names stands at a place there
at_place : (xs : Names) (x : Name) → among x xs ≡ true → (i : ℕ) × (slice_get xs i ≡ Some x)
at_place [] x h = cc
at_place (y ∷ ys) x h = by (bytes_eq y x) refl h (at_place ys x)
  where
    by : (b : Bool) → bytes_eq y x ≡ b → (b || among x ys) ≡ true → (among x ys ≡ true → (i : ℕ) × (slice_get ys i ≡ Some x)) → (i : ℕ) × (slice_get (y ∷ ys) i ≡ Some x)
    by true same here later = (0, ap Some ((bytes_eq-Decides y x).0 same))
    by false other here later = let (i, at) = later here in (suc i, at)

or_true : (a b : Bool) → b ≡ true → (a || b) ≡ true
or_true true b h = refl
or_true false b h = h

from_place : (xs : Names) (i : ℕ) (x : Name) → slice_get xs i ≡ Some x → among x xs ≡ true
from_place [] i x at = absurd (omega (arith, slice_get_within [] i x at))
from_place (y ∷ ys) zero x at = let same : y ≡ x = cc in ap (λ b. b || among x ys) ((bytes_eq-Decides y x).1 same)
from_place (y ∷ ys) (suc i) x at = or_true (bytes_eq y x) (among x ys) (from_place ys i x at)

slot_is : (o : Option What) (n : ℕ) → slot_of o ≡ Some n → o ≡ Some (what.Global n)
slot_is None n h = cc
slot_is (Some (what.Global m)) n h = let same : m ≡ n = cc in ap (λ k. Some (what.Global k)) same
slot_is (Some (what.Base code)) n h = cc
slot_is (Some (what.Own m)) n h = cc
slot_is (Some (what.Made m code)) n h = cc
slot_is (Some (what.Procedure m)) n h = cc

module _ (d : Declared) (fit : IsDeclared d) where
  slot_of_name : (name : Name) (n : ℕ) → slice_get (global_names d) n ≡ Some name → slot_of (what_named d name) ≡ Some n
  slot_of_name name n at =
      let g = counted global_term 0 (global_names d) in
      let o = counted (owned_term d) 0 (owned_names d) in
      let b = breed_terms 1 d.breeds in
      let p = counted procedure_term 0 d.procedures in
      let t = global_term n name in
      let here : 0 + n ≡ n = omega arith in
      let counted_there : Contains g t = subst (λ m. Contains g (global_term m name)) here (contains_counted global_term 0 (global_names d) n name at) in
      let there = Contains-append_right (map base_term rows) (g ++ o ++ b ++ p) t (Contains-append_left (g ++ o ++ b) p t (Contains-append_left (g ++ o) b t (Contains-append_left g o t counted_there))) in
      sym (ap slot_of (looked_up d (whats d) name (IsPermutation-refl (whats d)) fit (named_what t) refl (contains_whats (terms d) t there)))

  -- the slot of a name, by what the name is
  pub data Slotted (name : Name) (n : ℕ) : Type 0 where
    as_number : name ≡ run_number → n ≡ length (global_names d) → Slotted name n
    as_experiment : name ≡ experiment_name → n ≡ length (global_names d) + 1 → Slotted name n
    as_global : slice_get (global_names d) n ≡ Some name → Slotted name n

  slotted : (name : Name) (n : ℕ) → global_slot d name ≡ Some n → Slotted name n
  slotted name n h = by (bytes_eq name run_number) (bytes_eq name experiment_name) refl refl h
    where
      by : (r e : Bool) → bytes_eq name run_number ≡ r → bytes_eq name experiment_name ≡ e → (if r then Some (length (global_names d)) else (if e then Some (length (global_names d) + 1) else slot_of (what_named d name))) ≡ Some n → Slotted name n
      by true e is other slot = as_number ((bytes_eq-Decides name run_number).0 is) (cc)
      by false true other is slot = as_experiment ((bytes_eq-Decides name experiment_name).0 is) (cc)
      by false false other more slot = as_global (name_of_slot d name n (slot_is (what_named d name) n slot))

  pub slot_in_range : (name : Name) (n : ℕ) → global_slot d name ≡ Some n → n < globals_count d
  slot_in_range name n h =
      elim (slotted name n h) [
        | as_number is at ↦ omega (arith, at)
        | as_experiment is at ↦ omega (arith, at)
        | as_global at ↦ omega (arith, slice_get_within (global_names d) n name at)
      ]

  global_apart : (name other : Name) (n : ℕ) → slice_get (global_names d) n ≡ Some name → Slotted other n → name ≡ other
  global_apart name other n at (as_number is there) = absurd (omega (arith, there, slice_get_within (global_names d) n name at))
  global_apart name other n at (as_experiment is there) = absurd (omega (arith, there, slice_get_within (global_names d) n name at))
  global_apart name other n at (as_global there) = let same : Some name ≡ Some other = sym at ∙ there in cc

  one_each : (name other : Name) (n : ℕ) → Slotted name n → Slotted other n → name ≡ other
  one_each name other n (as_number is at) (as_number same there) = is ∙ sym same
  one_each name other n (as_number is at) (as_experiment same there) = absurd (omega (arith, at, there))
  one_each name other n (as_number is at) (as_global there) = absurd (omega (arith, at, slice_get_within (global_names d) n other there))
  one_each name other n (as_experiment is at) (as_number same there) = absurd (omega (arith, at, there))
  one_each name other n (as_experiment is at) (as_experiment same there) = is ∙ sym same
  one_each name other n (as_experiment is at) (as_global there) = absurd (omega (arith, at, slice_get_within (global_names d) n other there))
  one_each name other n (as_global at) there = global_apart name other n at there

  -- two names never share a slot
  pub slots_are_apart : (name other : Name) (n : ℕ) → global_slot d name ≡ Some n → global_slot d other ≡ Some n → name ≡ other
  slots_are_apart name other n h k = one_each name other n (slotted name n h) (slotted other n k)

  -- there is a slot exactly for each name of a global variable
  pub has_slot : (name : Name) → IsSome (global_slot d name) → names_global d name ≡ true
  has_slot name some = by (bytes_eq name run_number) (bytes_eq name experiment_name) some
    where
      of_slot : (o : Option What) → o ≡ what_named d name → IsSome (slot_of o) → among name (global_names d) ≡ true
      of_slot (Some (what.Global n)) is some = from_place (global_names d) n name (name_of_slot d name n (sym is))
      of_slot None is some = cc
      of_slot (Some (what.Base code)) is some = cc
      of_slot (Some (what.Own m)) is some = cc
      of_slot (Some (what.Made m code)) is some = cc
      of_slot (Some (what.Procedure m)) is some = cc

      by : (r e : Bool) → IsSome (if r then Some (length (global_names d)) else (if e then Some (length (global_names d) + 1) else slot_of (what_named d name))) → (r || e || among name (global_names d)) ≡ true
      by true e some = refl
      by false true some = refl
      by false false some = of_slot (what_named d name) refl some

  pub slot_there : (name : Name) → names_global d name ≡ true → IsSome (global_slot d name)
  slot_there name h = by (bytes_eq name run_number) (bytes_eq name experiment_name) h
    where
      by : (r e : Bool) → (r || e || among name (global_names d)) ≡ true → IsSome (if r then Some (length (global_names d)) else (if e then Some (length (global_names d) + 1) else slot_of (what_named d name)))
      by true e h = refl
      by false true h = refl
      by false false h = let (i, at) = at_place (global_names d) name h in subst IsSome (sym (slot_of_name name i at)) refl

-- a fact of the value that there is, from one of each that there may be
pub if_some : (o p : Option ℕ) → o ≡ p → (P : ℕ → Type 0) → ((n : ℕ) → p ≡ Some n → P n) → IfSome o P
if_some None p is P each = tt
if_some (Some n) p is P each = each n (sym is)
