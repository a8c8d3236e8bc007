-- The pairs that are left of a list, one after another.
use Rattle.std.proofs.Common.{◌≡◌, ℕ, zero, suc, ◌+◌, ◌<◌, ◌≤◌, ◌==◌, nat_lt, Bool, true, false, List, [], ◌∷◌, ◌++◌, Some, drop, length, slice_get, refl, ap, ◌∙◌, sym, arith, if◌then◌else◌}
use Rattle.std.proofs.lemmas.Bool.{eqb-true, ltb-false}
use Rattle.nl_value.specs.Plain.{Plain}
use Rattle.nl_exec_meaning.specs.Arrows.{Pair, pairs, pairs_of, pairs_from}
use Rattle.nl_exec_meaning.specs.Rounds.{other_than, pairs_by, pairs_left, settled_at, settled_place}

pub drop_at : {A : Type 0} (xs : List A) (i : ℕ) (x : A) → slice_get xs i ≡ Some x → drop i xs ≡ x ∷ drop (i + 1) xs
drop_at [] i x e = absurd (cc)
drop_at (y ∷ xs) zero x e = let same : y ≡ x = cc in rw same refl
drop_at (y ∷ xs) (suc i) x e = let n : suc i + 1 ≡ suc (i + 1) = omega arith in rw n (drop_at xs i x e)

pub drop_past : {A : Type 0} (xs : List A) (i : ℕ) → length xs ≤ i → drop i xs ≡ []
drop_past [] zero h = refl
drop_past [] (suc i) h = refl
drop_past (x ∷ xs) zero h = absurd (omega (arith, h))
drop_past (x ∷ xs) (suc i) h = drop_past xs i (omega (arith, h))

-- a pair at its places
abbrev pub pair : Plain → Plain → ℕ → Pair
pair first second place = record { first = first; second = second; place = place }

other_by : (item : Plain) (place at : ℕ) (b : Bool) (other : Plain) (others : List Plain) → (at == place) ≡ b → b ≡ false →
    pairs_of place item at (other ∷ others) ≡ pair other item place ∷ pairs_of place item (at + 1) others
other_by item place at b other others is none =
    ap (λ (x : Bool). if x then pairs_of place item (at + 1) others else (pair other item place ∷ pairs_of place item (at + 1) others)) (is ∙ none)

module _ (items : List Plain) where
  -- what is left of an item and those behind it, from a place on
  abbrev rest_of : ℕ → Plain → List Plain → ℕ → List Pair
  rest_of place item rest at = pairs_of place item at (drop at items) ++ pairs_from items (place + 1) rest

  -- the item at the place is passed over
  skips : (place at : ℕ) (item here : Plain) (rest others : List Plain) → drop at items ≡ here ∷ others → drop (at + 1) items ≡ others → (at == place) ≡ true →
      rest_of place item rest at ≡ rest_of place item rest (at + 1)
  skips place at item here rest others there next is =
      ap (λ (xs : List Plain). pairs_of place item at xs ++ pairs_from items (place + 1) rest) there
      ∙ ap (λ (x : Bool). (if x then pairs_of place item (at + 1) others else (pair here item place ∷ pairs_of place item (at + 1) others)) ++ pairs_from items (place + 1) rest) is
      ∙ ap (λ (xs : List Plain). pairs_of place item (at + 1) xs ++ pairs_from items (place + 1) rest) (sym next)

  -- behind the last of the others the next item has all of its pairs
  all_of_next : (place : ℕ) (rest : List Plain) → drop (place + 1) items ≡ rest → pairs_from items (place + 1) rest ≡ pairs_left items (place + 1) 0
  all_of_next place [] is = sym (ap (pairs_by items (place + 1) 0) is)
  all_of_next place (item ∷ rest) is = sym (ap (pairs_by items (place + 1) 0) is)

  settled_by : (many place at : ℕ) (item : Plain) (rest : List Plain) (b : Bool) → drop place items ≡ item ∷ rest → drop (place + 1) items ≡ rest → (b ≡ false → drop at items ≡ []) →
      rest_of place item rest at ≡ pairs_left items (if b then place else place + 1) (if b then at else 0)
  settled_by many place at item rest true here next none = sym (ap (pairs_by items place at) here)
  settled_by many place at item rest false here next none =
      ap (λ (xs : List Plain). pairs_of place item at xs ++ pairs_from items (place + 1) rest) (none refl) ∙ all_of_next place rest next

  -- a pair comes, and then the next one
  pub pair_comes : (many place at : ℕ) (first second : Plain) → many ≡ length items → (at == place) ≡ false → slice_get items at ≡ Some first → slice_get items place ≡ Some second →
      pairs_left items place at ≡ pair first second place ∷ pairs_left items (settled_place many place (other_than place (at + 1))) (settled_at many (other_than place (at + 1)))
  pair_comes many place at first second full apart is beside =
      let here = drop_at items place second beside in
      let there = drop_at items at first is in
      let rest = drop (place + 1) items in
      let other = other_than place (at + 1) in
      ap (pairs_by items place at) here
      ∙ ap (λ (xs : List Plain). pairs_of place second at xs ++ pairs_from items (place + 1) rest) there
      ∙ ap (λ (ps : List Pair). ps ++ pairs_from items (place + 1) rest) (other_by second place at (at == place) first (drop (at + 1) items) refl apart)
      ∙ ap (λ (ps : List Pair). pair first second place ∷ ps)
      (passed (at + 1 == place) refl
      ∙ settled_by many place other second rest (nat_lt other many) here refl (λ past. drop_past items other (omega (arith, full, ltb-false other many past))))
    where
      passed : (b : Bool) → (at + 1 == place) ≡ b → rest_of place second (drop (place + 1) items) (at + 1) ≡ rest_of place second (drop (place + 1) items) (if b then at + 1 + 1 else at + 1)
      passed false e = refl
      passed true e =
          let same : place ≡ at + 1 = sym (eqb-true (at + 1) place e) in
          let here : drop (at + 1) items ≡ second ∷ drop (at + 1 + 1) items = rw same at (drop_at items place second beside) in
          skips place (at + 1) second second (drop (place + 1) items) (drop (at + 1 + 1) items) here refl e

  -- behind the last item no pair is left
  pub no_pair_left : (place at : ℕ) → length items ≤ place → pairs_left items place at ≡ []
  no_pair_left place at past = ap (pairs_by items place at) (drop_past items place past)

-- all pairs of a list, from the first one on
pub all_pairs : (items : List Plain) → pairs items ≡ pairs_left items 0 0
all_pairs [] = refl
all_pairs (item ∷ items) = refl
