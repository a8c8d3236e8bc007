-- What fits the world: the values of turns, what is made of them, and the turns that are left.
use Rattle.std.proofs.Common.{◌≡◌, ◌&&◌, ◌==◌, ◌<◌, ℕ, zero, suc, ◌+◌, nat_lt, nat_le, Bool, true, false, IsTrue, List, [], ◌∷◌, ◌++◌, Option, Some, None, map, take, drop, length, slice_get, refl, ap, ◌∙◌, sym, subst, arith, if◌then◌else◌}
use Rattle.std.specs.List.{list_all}
use Rattle.std.proofs.lemmas.Bool.{and_parts, leb-false, ltb-false, ltb-true, eqb-true, ne_eqb}
use Rattle.std.proofs.lemmas.List.Folds.{list_all-append, list_all-map}
use Rattle.nl_value.specs.Plain.{Plain, PlainNumber, PlainTruth, PlainWords, PlainItems, PlainTurtle, PlainPatch, PlainLink, PlainNobody, PlainSet, plains, items_of}
use Rattle.nl_value.specs.Sorting.{inserted, sorted_by}
use Rattle.nl_value.proofs.Fitting.{values_fit-plains}
use Rattle.nl_value.proofs.Lists.{plains-items_of}
use Rattle.nl_exec_meaning.specs.declared.words.Arrow.{Arrow}
use Rattle.nl_exec_meaning.specs.declared.words.Arrow.TheVariants as arrow
use Rattle.nl_exec_meaning.specs.declared.rounds.Rounds.{Rounds}
use Rattle.nl_exec_meaning.specs.Ground.{Ground, patch_in, set_in, fits, all_fit}
use Rattle.nl_exec_meaning.specs.Arrows.{Ranked, by_rank, column, raised, ranked}
use Rattle.nl_exec_meaning.specs.Rounds.{RoundsStand, first_of, fits_behind, given, is_over, items_in, kept_if, listed, lists_of, made_on, one_of, other_than, settled_at, settled_place, next_pair, past_on, told}
use Rattle.nl_exec_meaning.specs.Standing.{RoundsFit}
use Rattle.nl_exec_meaning.proofs.Grounds.{items_fit, pass_push, pass_take}

-- ---- lists of which all pass a test

module _ {A : Type 0} (test : A → Bool) where
  pass_both : (x : A) (xs : List A) → IsTrue (test x) → IsTrue (list_all test xs) → IsTrue (list_all test (x ∷ xs))
  pass_both x xs one all = ap (λ b. b && list_all test xs) one ∙ all

  pub pass_join : (xs ys : List A) → IsTrue (list_all test xs) → IsTrue (list_all test ys) → IsTrue (list_all test (xs ++ ys))
  pass_join xs ys one other = list_all-append test xs ys ∙ ap (λ b. b && list_all test ys) one ∙ other

  pub pass_drop : (n : ℕ) (xs : List A) → IsTrue (list_all test xs) → IsTrue (list_all test (drop n xs))
  pass_drop zero xs all = all
  pass_drop (suc n) [] all = refl
  pass_drop (suc n) (x ∷ xs) all = pass_drop n xs (and_parts (test x) (list_all test xs) all).1

  pub pass_one : (xs : List A) (at : ℕ) → IsTrue (list_all test xs) → IsTrue (list_all test (take 1 (drop at xs)))
  pass_one xs at all = pass_take test 1 (drop at xs) (pass_drop at xs all)

  inserted_by : (first : A → A → Bool) (x y : A) (ys : List A) (b : Bool) → IsTrue (test x) → IsTrue (test y) → IsTrue (list_all test ys) → IsTrue (list_all test (inserted first x ys))
      → IsTrue (list_all test (if b then y ∷ inserted first x ys else x ∷ y ∷ ys))
  inserted_by first x y ys true one two rest later = pass_both y (inserted first x ys) two later
  inserted_by first x y ys false one two rest later = pass_both x (y ∷ ys) one (pass_both y ys two rest)

  pass_inserted : (first : A → A → Bool) (x : A) (ys : List A) → IsTrue (test x) → IsTrue (list_all test ys) → IsTrue (list_all test (inserted first x ys))
  pass_inserted first x [] one all = pass_both x [] one refl
  pass_inserted first x (y ∷ ys) one all =
      let both = and_parts (test y) (list_all test ys) all in
      inserted_by first x y ys (first y x) one both.0 both.1 (pass_inserted first x ys one both.1)

  pub pass_sorted : (first : A → A → Bool) (xs : List A) → IsTrue (list_all test xs) → IsTrue (list_all test (sorted_by first xs))
  pass_sorted first [] all = refl
  pass_sorted first (x ∷ xs) all =
      let both = and_parts (test x) (list_all test xs) all in
      pass_inserted first x (sorted_by first xs) both.0 (pass_sorted first xs both.1)

module _ (g : Ground) where
  -- ---- values

  pub listed_fit : (value : Plain) → IsTrue (fits g value) → IsTrue (all_fit g (listed value))
  listed_fit (PlainItems items) fit = sym (values_fit-plains (patch_in g) (set_in g) (items_of items)) ∙ ap (λ is. fits g (PlainItems is)) (plains-items_of items) ∙ fit
  listed_fit (PlainNumber count) fit = refl
  listed_fit (PlainTruth truth) fit = refl
  listed_fit (PlainWords bytes) fit = refl
  listed_fit (PlainTurtle turtle) fit = refl
  listed_fit (PlainPatch patch) fit = refl
  listed_fit (PlainLink link) fit = refl
  listed_fit PlainNobody fit = refl
  listed_fit (PlainSet set) fit = refl

  pub first_fits : (values : List Plain) → IsTrue (all_fit g values) → IsTrue (fits g (first_of values))
  first_fits [] all = refl
  first_fits (value ∷ values) all = (and_parts (fits g value) (all_fit g values) all).0

  pub items_in_fit : (r : Rounds) → IsTrue (all_fit g r.over) → IsTrue (all_fit g (items_in r))
  items_in_fit r all = listed_fit (first_of r.over) (first_fits r.over all)

  pub one_fits : (made : List Plain) (value : Plain) → one_of made ≡ Some value → IsTrue (all_fit g made) → IsTrue (fits g value)
  one_fits [] value is all = absurd (cc)
  one_fits (x ∷ []) value is all = let same : x ≡ value = cc in ap (fits g) (sym same) ∙ (and_parts (fits g x) true all).0
  one_fits (x ∷ y ∷ made) value is all = absurd (cc)

  -- ---- the values of a turn

  column_fit : (over : List Plain) (at : ℕ) → IsTrue (all_fit g over) → IsTrue (all_fit g (column (lists_of over) at))
  column_fit [] at all = refl
  column_fit (value ∷ over) at all =
      let both = and_parts (fits g value) (all_fit g over) all in
      pass_join (fits g) (take 1 (drop at (listed value))) (column (lists_of over) at) (pass_one (fits g) (listed value) at (listed_fit value both.0)) (column_fit over at both.1)

  pub given_fit : (word : Arrow) (r : Rounds) → IsTrue (all_fit g r.over) → IsTrue (all_fit g r.made) → IsTrue (all_fit g (given word r))
  given_fit arrow.ForEach r over made = column_fit r.over r.at over
  given_fit arrow.Map r over made = column_fit r.over r.at over
  given_fit arrow.Filter r over made = pass_one (fits g) (items_in r) r.at (items_in_fit r over)
  given_fit arrow.Reduce r over made =
      pass_both (fits g) (first_of r.made) (take 1 (drop r.at (items_in r))) (first_fits r.made made) (pass_one (fits g) (items_in r) r.at (items_in_fit r over))
  given_fit arrow.SortBy r over made =
      pass_join (fits g) (take 1 (drop r.at (items_in r))) (take 1 (drop r.place (items_in r))) (pass_one (fits g) (items_in r) r.at (items_in_fit r over)) (pass_one (fits g) (items_in r) r.place (items_in_fit r over))
  given_fit arrow.NValues r over made = refl

  -- ---- an order

  ranked_fit : (items : List Plain) (ranks : List ℕ) → IsTrue (all_fit g items) → IsTrue (list_all (λ (a : Ranked). fits g a.value) (ranked items ranks))
  ranked_fit [] ranks all = refl
  ranked_fit (item ∷ items) [] all = refl
  ranked_fit (item ∷ items) (rank ∷ ranks) all =
      let both = and_parts (fits g item) (all_fit g items) all in
      ap (λ b. b && list_all (λ (a : Ranked). fits g a.value) (ranked items ranks)) both.0 ∙ ranked_fit items ranks both.1

  pub by_rank_fit : (items : List Plain) (ranks : List ℕ) → IsTrue (all_fit g items) → IsTrue (all_fit g (by_rank items ranks))
  by_rank_fit items ranks all =
      list_all-map (fits g) (λ (a : Ranked). a.value) (sorted_by (λ a b. nat_lt a.rank b.rank) (ranked items ranks))
      ∙ pass_sorted (λ (a : Ranked). fits g a.value) (λ a b. nat_lt a.rank b.rank) (ranked items ranks) (ranked_fit items ranks all)

  -- ---- the turns that are left

  kept_if_fit : (b : Bool) (made : List Plain) (value : Plain) → IsTrue (all_fit g made) → IsTrue (fits g value) → IsTrue (all_fit g (kept_if b made value))
  kept_if_fit true made value all one = pass_push (fits g) made value all one
  kept_if_fit false made value all one = refl

  made_on_fit : (past : Bool) (made : List Plain) (value : Plain) → IsTrue (all_fit g made) → IsTrue (fits g value) → IsTrue (all_fit g (made_on past made value))
  made_on_fit true made value all one = all
  made_on_fit false made value all one = kept_if_fit (fits_behind made value) made value all one

  other_by : (place at : ℕ) (b : Bool) → (at == place) ≡ b → ((if b then at + 1 else at) == place) ≡ false
  other_by place at true is = ne_eqb (at + 1) place (λ same. let h = eqb-true at place is in omega (arith, same, h))
  other_by place at false is = is

  -- a pair of places, or the next item's first one
  pub settled_stand : (many place at : ℕ) → place < many → settled_place many place (other_than place at) < many →
      (settled_at many (other_than place at) < many) × ((settled_at many (other_than place at) == settled_place many place (other_than place at)) ≡ false)
  settled_stand many place at less there = by (other_than place at) (nat_lt (other_than place at) many) refl (other_by place at (at == place) refl) there
    where
      by : (x : ℕ) (b : Bool) → nat_lt x many ≡ b → (x == place) ≡ false → (if b then place else place + 1) < many →
          ((if b then x else 0) < many) × (((if b then x else 0) == (if b then place else place + 1)) ≡ false)
      by x true is apart inside = (ltb-true x many is, apart)
      by x false is apart inside = (omega (arith, inside), ne_eqb 0 (place + 1) (λ same. omega (arith, same)))

  pub told_fits : (word : Arrow) (r next : Rounds) (value : Plain) → RoundsFit g word r → is_over word r ≡ false → IsTrue (fits g value) → told word r value ≡ Some next → RoundsFit g word next
  told_fits arrow.ForEach r next value fit more one is =
      let same : record r { at = r.at + 1 } ≡ next = cc in subst (RoundsFit g arrow.ForEach) same (record { over = fit.over; made = fit.made; stand = fit.stand })
  told_fits arrow.Map r next value fit more one is =
      let same : record r { made = made_on r.past r.made value; past = past_on r.past r.made value; at = r.at + 1 } ≡ next = cc in
      subst (RoundsFit g arrow.Map) same (record { over = fit.over; made = made_on_fit r.past r.made value fit.made one; stand = fit.stand })
  told_fits arrow.NValues r next value fit more one is =
      let same : record r { made = made_on r.past r.made value; past = past_on r.past r.made value; at = r.at + 1 } ≡ next = cc in
      subst (RoundsFit g arrow.NValues) same (record { over = fit.over; made = made_on_fit r.past r.made value fit.made one; stand = fit.stand })
  told_fits arrow.Reduce r next value fit more one is =
      let same : record r { made = value ∷ []; at = r.at + 1 } ≡ next = cc in
      subst (RoundsFit g arrow.Reduce) same (record { over = fit.over; made = pass_both (fits g) value [] one refl; stand = fit.stand })
  told_fits arrow.Filter r next (PlainTruth true) fit more one is =
      let same : record r { made = r.made ++ take 1 (drop r.at (items_in r)); at = r.at + 1 } ≡ next = cc in
      subst (RoundsFit g arrow.Filter) same
      (record { over = fit.over; made = pass_join (fits g) r.made (take 1 (drop r.at (items_in r))) fit.made (pass_one (fits g) (items_in r) r.at (items_in_fit r fit.over)); stand = fit.stand })
  told_fits arrow.Filter r next (PlainTruth false) fit more one is =
      let same : record r { at = r.at + 1 } ≡ next = cc in subst (RoundsFit g arrow.Filter) same (record { over = fit.over; made = fit.made; stand = fit.stand })
  told_fits arrow.Filter r next (PlainNumber count) fit more one is = absurd (cc)
  told_fits arrow.Filter r next (PlainWords bytes) fit more one is = absurd (cc)
  told_fits arrow.Filter r next (PlainItems items) fit more one is = absurd (cc)
  told_fits arrow.Filter r next (PlainTurtle turtle) fit more one is = absurd (cc)
  told_fits arrow.Filter r next (PlainPatch patch) fit more one is = absurd (cc)
  told_fits arrow.Filter r next (PlainLink link) fit more one is = absurd (cc)
  told_fits arrow.Filter r next PlainNobody fit more one is = absurd (cc)
  told_fits arrow.Filter r next (PlainSet set) fit more one is = absurd (cc)
  told_fits arrow.SortBy r next (PlainTruth true) fit more one is =
      let same : next_pair (record r { ranks = raised r.place r.ranks }) ≡ next = cc in
      subst (RoundsFit g arrow.SortBy) same (record { over = fit.over; made = fit.made; stand = (fit.stand.0, settled_stand r.many r.place (r.at + 1) (leb-false r.many r.place more)) })
  told_fits arrow.SortBy r next (PlainTruth false) fit more one is =
      let same : next_pair r ≡ next = cc in
      subst (RoundsFit g arrow.SortBy) same (record { over = fit.over; made = fit.made; stand = (fit.stand.0, settled_stand r.many r.place (r.at + 1) (leb-false r.many r.place more)) })
  told_fits arrow.SortBy r next (PlainNumber count) fit more one is = absurd (cc)
  told_fits arrow.SortBy r next (PlainWords bytes) fit more one is = absurd (cc)
  told_fits arrow.SortBy r next (PlainItems items) fit more one is = absurd (cc)
  told_fits arrow.SortBy r next (PlainTurtle turtle) fit more one is = absurd (cc)
  told_fits arrow.SortBy r next (PlainPatch patch) fit more one is = absurd (cc)
  told_fits arrow.SortBy r next (PlainLink link) fit more one is = absurd (cc)
  told_fits arrow.SortBy r next PlainNobody fit more one is = absurd (cc)
  told_fits arrow.SortBy r next (PlainSet set) fit more one is = absurd (cc)
