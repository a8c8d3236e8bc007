-- The turns of a word that sorts count how many items come before each one, and so stand for the order.
use Rattle.std.proofs.Common.{◌≡◌, ℕ, zero, suc, ◌+◌, ◌<◌, ◌≤◌, ◌==◌, nat_lt, Bool, true, false, List, [], ◌∷◌, ◌++◌, Some, length, map, slice_get, append_assoc, refl, ap, ◌∙◌, sym, arith, if◌then◌else◌}
use Rattle.std.proofs.lemmas.Bool.{eqb-true, false≢true, le-ltb, lt-ltb}
use Rattle.std.proofs.lemmas.List.{length-append}
use Rattle.nl_value.specs.Plain.{Plain}
use Rattle.nl_value.specs.Sorting.{sorted_by}
use Rattle.nl_value.proofs.StableSorts.{sorted_by-map}
use Rattle.nl_exec_meaning.specs.Arrows.{Pair, Ranked, by_rank, pairs, pairs_from, pairs_of, raised, ranked}
use Rattle.nl_exec_arrows.specs.Laws.{IsOrder}
use Rattle.nl_exec_arrows.proofs.Sorting.{Each, same_sorted}

-- ---- ranks

pub length_raised : (place : ℕ) (ranks : List ℕ) → length (raised place ranks) ≡ length ranks
length_raised place [] = refl
length_raised zero (n ∷ ns) = refl
length_raised (suc place) (n ∷ ns) = ap (λ (k : ℕ). suc k) (length_raised place ns)

raised_at : (front back : List ℕ) (n place : ℕ) → length front ≡ place → raised place (front ++ n ∷ back) ≡ front ++ suc n ∷ back
raised_at [] back n zero long = refl
raised_at [] back n (suc place) long = absurd (omega (arith, long))
raised_at (m ∷ front) back n zero long = absurd (omega (arith, long))
raised_at (m ∷ front) back n (suc place) long = ap (λ (ns : List ℕ). m ∷ ns) (raised_at front back n place (omega (arith, long)))

pub ranked_values : (items : List Plain) (ranks : List ℕ) → length ranks ≡ length items → map (λ (a : Ranked). a.value) (ranked items ranks) ≡ items
ranked_values [] ranks long = refl
ranked_values (item ∷ items) [] long = absurd (omega (arith, long))
ranked_values (item ∷ items) (rank ∷ ranks) long = ap (λ (xs : List Plain). item ∷ xs) (ranked_values items ranks (omega (arith, long)))

module _ (rank_of : Plain → ℕ) where
  abbrev with_rank : Plain → Ranked
  with_rank item = record { value = item; rank = rank_of item }

  ranked_by : (items : List Plain) → ranked items (map rank_of items) ≡ map with_rank items
  ranked_by [] = refl
  ranked_by (item ∷ items) = ap (λ (xs : List Ranked). with_rank item ∷ xs) (ranked_by items)

  values_of : (items : List Plain) → map (λ (a : Ranked). a.value) (map with_rank items) ≡ items
  values_of [] = refl
  values_of (item ∷ items) = ap (λ (xs : List Plain). item ∷ xs) (values_of items)

  abbrev is_lower : Ranked → Ranked → Bool
  is_lower a b = nat_lt a.rank b.rank

  by_rank_of : (items : List Plain) → by_rank items (map rank_of items) ≡ sorted_by (λ a b. nat_lt (rank_of a) (rank_of b)) items
  by_rank_of items =
      ap (λ (xs : List Ranked). map (λ (a : Ranked). a.value) (sorted_by is_lower xs)) (ranked_by items)
      ∙ ap (λ (xs : List Ranked). map (λ (a : Ranked). a.value) xs) (sym (sorted_by-map with_rank is_lower items))
      ∙ values_of (sorted_by (λ a b. nat_lt (rank_of a) (rank_of b)) items)

-- the item at a place
item_at : (done rest : List Plain) (item : Plain) → slice_get (done ++ item ∷ rest) (length done) ≡ Some item
item_at [] rest item = refl
item_at (x ∷ done) rest item = item_at done rest item

module _ (before : Plain → Plain → Bool) (order : IsOrder before) where
  -- the ranks behind turns that say what the order says
  abbrev pub all_raised : List Pair → List ℕ → List ℕ
  all_raised [] ranks = ranks
  all_raised (pair ∷ left) ranks = all_raised left (if before pair.first pair.second then raised pair.place ranks else ranks)

  -- how many come before the item
  abbrev count : Plain → List Plain → ℕ
  count item [] = 0
  count item (other ∷ others) = if before other item then suc (count item others) else count item others

  -- ---- what the pairs raise

  all_raised-append : (ps qs : List Pair) (ranks : List ℕ) → all_raised (ps ++ qs) ranks ≡ all_raised qs (all_raised ps ranks)
  all_raised-append [] qs ranks = refl
  all_raised-append (p ∷ ps) qs ranks = all_raised-append ps qs (if before p.first p.second then raised p.place ranks else ranks)

  abbrev pair : Plain → Plain → ℕ → Pair
  pair first second place = record { first = first; second = second; place = place }

  one_raised : (same : Bool) (other item : Plain) (place : ℕ) (left : List Pair) (front back : List ℕ) (n c : ℕ) → (same ≡ true → before other item ≡ false) → length front ≡ place →
      ((k : ℕ) → all_raised left (front ++ k ∷ back) ≡ front ++ (k + c) ∷ back) →
      all_raised (if same then left else (pair other item place ∷ left)) (front ++ n ∷ back) ≡ front ++ (n + (if before other item then suc c else c)) ∷ back
  one_raised true other item place left front back n c none long more =
      more n ∙ ap (λ (b : Bool). front ++ (n + (if b then suc c else c)) ∷ back) (sym (none refl))
  one_raised false other item place left front back n c none long more = by_truth (before other item)
    where
      by_truth : (b : Bool) → all_raised left (if b then raised place (front ++ n ∷ back) else (front ++ n ∷ back)) ≡ front ++ (n + (if b then suc c else c)) ∷ back
      by_truth true =
          let one_more : suc n + c ≡ n + suc c = omega arith in
          ap (all_raised left) (raised_at front back n place long) ∙ more (suc n) ∙ ap (λ (k : ℕ). front ++ k ∷ back) one_more
      by_truth false = more n

  -- the pairs of one item raise its rank by how many of the others come before it; it doesn't come before itself
  row_raised : (place : ℕ) (item : Plain) (at : ℕ) (others : List Plain) (front back : List ℕ) (n : ℕ) → length front ≡ place →
      ((k : ℕ) (y : Plain) → slice_get others k ≡ Some y → at + k ≡ place → y ≡ item) →
      all_raised (pairs_of place item at others) (front ++ n ∷ back) ≡ front ++ (n + count item others) ∷ back
  row_raised place item at [] front back n long here =
      let none_more : n ≡ n + 0 = omega arith in
      ap (λ (k : ℕ). front ++ k ∷ back) none_more
  row_raised place item at (other ∷ others) front back n long here =
      one_raised (at == place) other item place (pairs_of place item (at + 1) others) front back n (count item others)
      (λ same. ap (λ (y : Plain). before y item) (here 0 other refl (omega (arith, eqb-true at place same))) ∙ order.not_itself item)
      long
      (λ k. row_raised place item (at + 1) others front back k long (λ j y is there. here (suc j) y is (omega (arith, there))))

  abbrev zeros : List Plain → List ℕ
  zeros items = map (λ item. 0) items

  module _ (items : List Plain) where
    abbrev rank_in : Plain → ℕ
    rank_in item = count item items

    rows_raised : (done rest : List Plain) (front : List ℕ) (place : ℕ) → items ≡ done ++ rest → place ≡ length done → length front ≡ place →
        all_raised (pairs_from items place rest) (front ++ zeros rest) ≡ front ++ map rank_in rest
    rows_raised done [] front place is full long = refl
    rows_raised done (item ∷ rest) front place is full long =
        let c = rank_in item in
        let from_none : 0 + c ≡ c = omega arith in
        all_raised-append (pairs_of place item 0 items) (pairs_from items (place + 1) rest) (front ++ 0 ∷ zeros rest)
        ∙ ap (all_raised (pairs_from items (place + 1) rest))
        (row_raised place item 0 items front (zeros rest) 0 long here
        ∙ ap (λ (k : ℕ). front ++ k ∷ zeros rest) from_none
        ∙ sym (append_assoc front (c ∷ []) (zeros rest)))
        ∙ rows_raised (done ++ item ∷ []) rest (front ++ c ∷ []) (place + 1) (is ∙ sym (append_assoc done (item ∷ []) rest)) (omega (arith, full, length-append done (item ∷ [])))
        (omega (arith, long, length-append front (c ∷ [])))
        ∙ append_assoc front (c ∷ []) (map rank_in rest)
      where
        here : (k : ℕ) (y : Plain) → slice_get items k ≡ Some y → 0 + k ≡ place → y ≡ item
        here k y has there =
            let at : k ≡ length done = omega (arith, full, there) in
            let one : Some y ≡ Some item =
            sym has ∙ ap (λ (xs : List Plain). slice_get xs k) is ∙ ap (slice_get (done ++ item ∷ rest)) at ∙ item_at done rest item
            in cc

    pub all_ranks : all_raised (pairs items) (zeros items) ≡ map rank_in items
    all_ranks = rows_raised [] items [] 0 refl refl refl

    -- ---- how many come before two items

    count-append : (item : Plain) (xs ys : List Plain) → count item (xs ++ ys) ≡ count item xs + count item ys
    count-append item [] ys = omega arith
    count-append item (x ∷ xs) ys = elim (before x item) as (λ b. (if b then suc (count item (xs ++ ys)) else count item (xs ++ ys)) ≡ (if b then suc (count item xs) else count item xs) + count item ys) [
      | true ↦ omega (arith, count-append item xs ys)
      | false ↦ count-append item xs ys
    ]

    one_more : (p q : Bool) (m n : ℕ) → (p ≡ true → q ≡ true) → m ≤ n → (if p then suc m else m) ≤ (if q then suc n else n)
    one_more true true m n h less = omega (arith, less)
    one_more true false m n h less = absurd (false≢true (h refl))
    one_more false true m n h less = omega (arith, less)
    one_more false false m n h less = less

    count-le : (a b : Plain) → ((y : Plain) → before y a ≡ true → before y b ≡ true) → (ys : List Plain) → count a ys ≤ count b ys
    count-le a b h [] = omega arith
    count-le a b h (y ∷ ys) = one_more (before y a) (before y b) (count a ys) (count b ys) (h y) (count-le a b h ys)

    -- it is one of the items
    pub record IsItem (item : Plain) : Type 0 where
      pub done : List Plain
      pub rest : List Plain
      pub is : items ≡ done ++ item ∷ rest

    each_item : (done rest : List Plain) → items ≡ done ++ rest → Each IsItem rest
    each_item done [] is = tt
    each_item done (item ∷ rest) is =
        (record { done = done; rest = rest; is = is }, each_item (done ++ item ∷ []) rest (is ∙ sym (append_assoc done (item ∷ []) rest)))

    count-lt : (a b : Plain) → IsItem a → before a b ≡ true → rank_in a < rank_in b
    count-lt a b at comes =
        let h : (y : Plain) → before y a ≡ true → before y b ≡ true = λ y first. order.transitive y a b first comes in
        let front = count-le a b h at.done in
        let back = count-le a b h at.rest in
        let low : count a (a ∷ at.rest) ≡ count a at.rest = ap (λ (x : Bool). if x then suc (count a at.rest) else count a at.rest) (order.not_itself a) in
        let high : count b (a ∷ at.rest) ≡ suc (count b at.rest) = ap (λ (x : Bool). if x then suc (count b at.rest) else count b at.rest) comes in
        let a_in = ap (count a) at.is ∙ count-append a at.done (a ∷ at.rest) in
        let b_in = ap (count b) at.is ∙ count-append b at.done (a ∷ at.rest) in
        omega (arith, front, back, low, high, a_in, b_in)

    -- where a doesn't come before b, each that comes before b comes before a
    comes_too : (a b : Plain) → before a b ≡ false → (y : Plain) → before y b ≡ true → before y a ≡ true
    comes_too a b apart y comes = by_truth (before y a) refl
      where
        by_truth : (q : Bool) → before y a ≡ q → before y a ≡ true
        by_truth true is = is
        by_truth false is = absurd (false≢true (sym (order.level y a b is apart) ∙ comes))

    ranks_agree : (a b : Plain) → IsItem a → IsItem b → nat_lt (rank_in a) (rank_in b) ≡ before a b
    ranks_agree a b one other = by_truth (before a b) refl
      where
        by_truth : (q : Bool) → before a b ≡ q → nat_lt (rank_in a) (rank_in b) ≡ before a b
        by_truth true is = lt-ltb (rank_in a) (rank_in b) (count-lt a b one is) ∙ sym is
        by_truth false is = le-ltb (rank_in a) (rank_in b) (count-le b a (comes_too a b is) items) ∙ sym is

    -- the ranks that the turns make stand for the order
    pub ranks_follow : by_rank items (all_raised (pairs items) (zeros items)) ≡ sorted_by before items
    ranks_follow =
        ap (by_rank items) all_ranks ∙ by_rank_of rank_in items
        ∙ same_sorted IsItem (λ a b. nat_lt (rank_in a) (rank_in b)) before ranks_agree items (each_item [] items refl)
