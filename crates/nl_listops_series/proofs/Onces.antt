-- Items, each once, and how often they stand in a list.
use Rattle.std.proofs.Common.{◌≡◌, ℕ, zero, suc, ◌+◌, ◌<◌, ◌≤◌, ◌==◌, set, Bool, true, false, not, ◌||◌, ◌&&◌, nat_lt, List, [], ◌∷◌, ◌++◌, length, map, take, filter, get_or, refl, sym, ap, subst, ◌∙◌, arith, cond, max}
use Rattle.std.specs.Prelude.{count_by}
use Rattle.std.specs.List.{list_any, position_or_len}
use Rattle.std.specs.Cmp.{IsEquivalence}
use Rattle.std.specs.Ordering.{nat_cmp, ord_max, is_lt}
use Rattle.std.specs.declared.cmp.Ordering.TheVariants.{Less, Equal, Greater}
use Rattle.std.proofs.lemmas.Bool.{eqb-true, eqb-false, eq-eqb}
use Rattle.std.proofs.lemmas.Bool.Decides.{nat_tests}
use Rattle.std.proofs.lemmas.List.{take_more, append-nil, get_or-map, length-map, length-take, get_or-set_same, get_or-set_other}
use Rattle.std.proofs.lemmas.List.Elements.{filter-append}
use Rattle.std.proofs.lemmas.List.Sums.{sum_by-cons, count_by-le-length, count_by_more_yes, count_by_more_no}
use Rattle.nl_value.specs.Plain.{Plain, PlainNobody}
use Rattle.nl_value.specs.Living.{Living}
use Rattle.nl_value.specs.Equality.{same_values}
use Rattle.nl_value.specs.Measures.{greatest}
use Rattle.nl_listops_series.specs.Searches.{each_once, times_in}
use Rattle.nl_listops_series.specs.inner.Firsts.{first_place, item_of, AllBelow}
use Rattle.nl_listops_series.proofs.FirstPlaces.{same_place, found_by_place, found_same}

-- whether one of the items is the same as the value
abbrev has : Living → List Plain → Plain → Bool
has w items value = list_any (λ item. same_values w item value) items

-- ---- one item more

more_step : (w : Living) (x y : Plain) (xs once : List Plain) (b c : Bool) → same_values w x y ≡ b →
    x ∷ filter (λ z. not (same_values w x z)) (cond c once (once ++ y ∷ [])) ≡ cond (b || c) (x ∷ filter (λ z. not (same_values w x z)) once) ((x ∷ filter (λ z. not (same_values w x z)) once) ++ y ∷ [])
more_step w x y xs once true true is = refl
more_step w x y xs once false true is = refl
more_step w x y xs once true false is =
    ap (λ s. x ∷ s) (filter-append (λ z. not (same_values w x z)) once (y ∷ []) ∙ (ap (λ b. filter (λ z. not (same_values w x z)) once ++ cond (not b) (y ∷ []) []) is ∙ append-nil (filter (λ z. not (same_values w x z)) once)))
more_step w x y xs once false false is =
    ap (λ s. x ∷ s) (filter-append (λ z. not (same_values w x z)) once (y ∷ []) ∙ ap (λ b. filter (λ z. not (same_values w x z)) once ++ cond (not b) (y ∷ []) []) is)

once_more : (w : Living) (xs : List Plain) (y : Plain) → each_once w (xs ++ y ∷ []) ≡ cond (has w xs y) (each_once w xs) (each_once w xs ++ y ∷ [])
once_more w [] y = refl
once_more w (x ∷ xs) y =
    ap (λ s. x ∷ filter (λ z. not (same_values w x z)) s) (once_more w xs y) ∙ more_step w x y xs (each_once w xs) (same_values w x y) (has w xs y) refl

-- one of the first items passes exactly where the first that passes stands among them
any_taken : (p q : Plain → Bool) → ((x : Plain) → q x ≡ p x) → (xs : List Plain) (i : ℕ) → i ≤ length xs → list_any q (take i xs) ≡ nat_lt (position_or_len p xs) i
any_taken p q same [] zero h = refl
any_taken p q same [] (suc i) h = absurd (omega (arith, h))
any_taken p q same (x ∷ xs) zero h = grind (arith, nat_tests)
any_taken p q same (x ∷ xs) (suc i) h = by (p x) refl (any_taken p q same xs i (omega (arith, h)))
  where
    by : (b : Bool) → p x ≡ b → list_any q (take i xs) ≡ nat_lt (position_or_len p xs) i → (q x || list_any q (take i xs)) ≡ nat_lt (cond (not (p x)) (1 + position_or_len p xs) 0) (suc i)
    by true is rest =
        let zero_less : nat_lt 0 (suc i) ≡ true = grind (arith, nat_tests) in
        ap (λ b. b || list_any q (take i xs)) (same x ∙ is) ∙ sym (ap (λ b. nat_lt (cond (not b) (1 + position_or_len p xs) 0) (suc i)) is ∙ zero_less)
    by false is rest =
        let shifted : nat_lt (1 + position_or_len p xs) (suc i) ≡ nat_lt (position_or_len p xs) i = grind (arith, nat_tests) in
        ap (λ b. b || list_any q (take i xs)) (same x ∙ is) ∙ (rest ∙ sym (ap (λ b. nat_lt (cond (not b) (1 + position_or_len p xs) 0) (suc i)) is ∙ shifted))

module _ (w : Living) (e : IsEquivalence (same_values w)) (items : List Plain) where
  -- the item at a place is there once more where it is first
  pub once_step : (i : ℕ) → i < length items →
      each_once w (take (i + 1) items) ≡ cond (first_place w items (item_of items i) == i) (each_once w (take i items) ++ item_of items i ∷ []) (each_once w (take i items))
  once_step i h =
      ap (each_once w) (take_more items i PlainNobody h)
      ∙ (once_more w (take i items) (item_of items i) ∙ by (first_place w items (item_of items i) == i) refl (found_by_place w e items i h))
    where
      first : ℕ
      first = first_place w items (item_of items i)

      seen : has w (take i items) (item_of items i) ≡ nat_lt first i
      seen = any_taken (same_values w (item_of items i)) (λ item. same_values w item (item_of items i)) (λ x. e.symm x (item_of items i)) items i (omega (arith, h))

      by : (b : Bool) → (first == i) ≡ b → first ≤ i →
          cond (has w (take i items) (item_of items i)) (each_once w (take i items)) (each_once w (take i items) ++ item_of items i ∷ []) ≡ cond b (each_once w (take i items) ++ item_of items i ∷ []) (each_once w (take i items))
      by true is le = let no : nat_lt first i ≡ false = grind (arith, nat_tests, is) in ap (λ b. cond b (each_once w (take i items)) (each_once w (take i items) ++ item_of items i ∷ [])) (seen ∙ no)
      by false is le = let yes : nat_lt first i ≡ true = grind (arith, nat_tests, is, le) in ap (λ b. cond b (each_once w (take i items)) (each_once w (take i items) ++ item_of items i ∷ [])) (seen ∙ yes)

  -- the same of those that pass a test
  pub kept_step : (keep : Plain → Bool) (i : ℕ) → i < length items →
      filter keep (each_once w (take (i + 1) items))
      ≡ cond ((first_place w items (item_of items i) == i) && keep (item_of items i)) (filter keep (each_once w (take i items)) ++ item_of items i ∷ []) (filter keep (each_once w (take i items)))
  kept_step keep i h = ap (filter keep) (once_step i h) ∙ by (first_place w items (item_of items i) == i)
    where
      once : List Plain
      once = each_once w (take i items)

      kept : (b : Bool) → keep (item_of items i) ≡ b → filter keep (once ++ item_of items i ∷ []) ≡ cond b (filter keep once ++ item_of items i ∷ []) (filter keep once)
      kept true is = filter-append keep once (item_of items i ∷ []) ∙ ap (λ b. filter keep once ++ cond b (item_of items i ∷ []) []) is
      kept false is = filter-append keep once (item_of items i ∷ []) ∙ (ap (λ b. filter keep once ++ cond b (item_of items i ∷ []) []) is ∙ append-nil (filter keep once))

      by : (b : Bool) → filter keep (cond b (once ++ item_of items i ∷ []) once) ≡ cond (b && keep (item_of items i)) (filter keep once ++ item_of items i ∷ []) (filter keep once)
      by true = kept (keep (item_of items i)) refl
      by false = refl

  -- ---- how often an item stands in the list

  -- two items are first found at one place exactly where they are the same
  one_place : (i k : ℕ) → i < length items → k < length items → (first_place w items (item_of items k) == first_place w items (item_of items i)) ≡ same_values w (item_of items i) (item_of items k)
  one_place i k h g = by (same_values w (item_of items i) (item_of items k)) refl (first_place w items (item_of items k) == first_place w items (item_of items i)) refl
    where
      place : ℕ → ℕ
      place j = first_place w items (item_of items j)

      by : (b : Bool) → same_values w (item_of items i) (item_of items k) ≡ b → (c : Bool) → (place k == place i) ≡ c → c ≡ b
      by true is true at = refl
      by false is false at = refl
      by true is false at = sym at ∙ eq-eqb (place k) (place i) (sym (same_place w e items (item_of items i) (item_of items k) is))
      by false is true at =
          let one : place k ≡ place i = eqb-true (place k) (place i) at in
          let to_first : same_values w (item_of items k) (item_of items (place i)) ≡ true = subst (λ j. same_values w (item_of items k) (item_of items j) ≡ true) one (found_same w e items k g) in
          sym (sym is ∙ (e.congr (item_of items i) (item_of items (place i)) (item_of items k) (found_same w e items i h) ∙ (e.symm (item_of items (place i)) (item_of items k) ∙ to_first)))

-- ---- lists that agree place by place

count_agrees : (p : ℕ → Bool) (f : Plain → ℕ) (q : Plain → Bool) (xs : List Plain) → ((k : ℕ) → k < length xs → p (f (item_of xs k)) ≡ q (item_of xs k)) → count_by p (map f xs) ≡ count_by q xs
count_agrees p f q [] same = refl
count_agrees p f q (x ∷ xs) same =
    sum_by-cons (λ y. cond (p y) 1 0) (f x) (map f xs)
    ∙ (ap (λ b. cond b 1 0 + count_by p (map f xs)) (same 0 (omega arith))
    ∙ (ap (λ n. cond (q x) 1 0 + n) (count_agrees p f q xs (λ k h. same (suc k) (omega (arith, h))))
    ∙ sym (sum_by-cons (λ y. cond (q y) 1 0) x xs)))

maps_agree : (f g : Plain → ℕ) (xs : List Plain) → ((k : ℕ) → k < length xs → f (item_of xs k) ≡ g (item_of xs k)) → map f xs ≡ map g xs
maps_agree f g [] same = refl
maps_agree f g (x ∷ xs) same = ap (λ n. n ∷ map f xs) (same 0 (omega arith)) ∙ ap (λ ns. g x ∷ ns) (maps_agree f g xs (λ k h. same (suc k) (omega (arith, h))))

map_twice : (f : Plain → ℕ) (g : ℕ → ℕ) (xs : List Plain) → map g (map f xs) ≡ map (λ x. g (f x)) xs
map_twice f g [] = refl
map_twice f g (x ∷ xs) = ap (λ ns. g (f x) ∷ ns) (map_twice f g xs)

module _ (w : Living) (e : IsEquivalence (same_values w)) (items : List Plain) where
  abbrev places : List ℕ
  places = map (first_place w items) items

  -- how often the first places stand among them is how often the items stand in the list
  pub times_by_places : map (λ n. count_by (λ m. m == n) places) places ≡ map (times_in w items) items
  times_by_places =
      map_twice (first_place w items) (λ n. count_by (λ m. m == n) places) items
      ∙ maps_agree (λ x. count_by (λ m. m == first_place w items x) places) (times_in w items) items
      (λ i h. count_agrees (λ m. m == first_place w items (item_of items i)) (first_place w items) (same_values w (item_of items i)) items (λ k g. one_place w e items i k h g))

  -- the first places lie in the list
  pub places_below : AllBelow (length places) places
  places_below k h =
      let long = length-map items (first_place w items) in
      let there = get_or-map (first_place w items) items k PlainNobody 0 (omega (arith, h, long)) in
      let before = found_by_place w e items k (omega (arith, h, long)) in
      omega (arith, there, before, h)

-- ---- the greatest of numbers so far

pub greatest_more : (ns : List ℕ) (i : ℕ) → i < length ns → greatest (take (i + 1) ns) ≡ max (get_or ns i 0) (greatest (take i ns))
greatest_more ns i h = ap greatest (take_more ns i 0 h) ∙ pushed (take i ns) (get_or ns i 0)
  where
    swapped : (a b c : ℕ) → max a (max b c) ≡ max b (max a c)
    swapped a b c = omega arith

    pushed : (ms : List ℕ) (n : ℕ) → greatest (ms ++ n ∷ []) ≡ max n (greatest ms)
    pushed [] n = refl
    pushed (m ∷ ms) n = ap (max m) (pushed ms n) ∙ swapped m n (greatest ms)

pub greater_is : (a b : ℕ) → ord_max nat_cmp a b ≡ max a b
greater_is a b = by (nat_lt b a) refl
  where
    rest : (c : Bool) → cond (is_lt (cond c Equal Greater)) a b ≡ b
    rest true = refl
    rest false = refl

    by : (c : Bool) → nat_lt b a ≡ c → cond (is_lt (cond (nat_lt b a) Less (cond (b == a) Equal Greater))) a b ≡ max a b
    by true is = let less : b < a = grind (arith, nat_tests, is) in ap (λ c. cond (is_lt (cond c Less (cond (b == a) Equal Greater))) a b) is ∙ omega (arith, less)
    by false is = let le : a ≤ b = grind (arith, nat_tests, is) in ap (λ c. cond (is_lt (cond c Less (cond (b == a) Equal Greater))) a b) is ∙ (rest (b == a) ∙ omega (arith, le))

-- ---- counts so far

-- one number more is counted, where x is its count so far
pub counted_more : (numbers counts : List ℕ) (i n x : ℕ) → i < length numbers → get_or numbers i 0 < length counts → x ≡ get_or counts (get_or numbers i 0) 0 →
    get_or counts n 0 ≡ count_by (λ m. m == n) (take i numbers) → get_or (set counts (get_or numbers i 0) (x + 1)) n 0 ≡ count_by (λ m. m == n) (take (i + 1) numbers)
counted_more numbers counts i n x h below at so_far = by (get_or numbers i 0 == n) refl
  where
    by : (b : Bool) → (get_or numbers i 0 == n) ≡ b → get_or (set counts (get_or numbers i 0) (x + 1)) n 0 ≡ count_by (λ m. m == n) (take (i + 1) numbers)
    by true is =
        let here : get_or numbers i 0 ≡ n = eqb-true (get_or numbers i 0) n is in
        let put : get_or (set counts (get_or numbers i 0) (x + 1)) n 0 ≡ x + 1 =
        ap (λ k. get_or (set counts (get_or numbers i 0) (x + 1)) k 0) (sym here) ∙ get_or-set_same counts (get_or numbers i 0) (x + 1) 0 below in
        let was : x ≡ count_by (λ m. m == n) (take i numbers) = at ∙ (ap (λ k. get_or counts k 0) here ∙ so_far) in
        put ∙ (ap (λ k. k + 1) was ∙ sym (count_by_more_yes (λ m. m == n) numbers i 0 h is))
    by false is =
        get_or-set_other counts (get_or numbers i 0) n (x + 1) 0 (λ same. eqb-false (get_or numbers i 0) n is (sym same))
        ∙ (so_far ∙ sym (count_by_more_no (λ m. m == n) numbers i 0 h is))

-- a count so far is no more than how many were counted
pub counted_few : (numbers : List ℕ) (i n c : ℕ) → c ≡ count_by (λ m. m == n) (take i numbers) → c ≤ i
counted_few numbers i n c is =
    let few = count_by-le-length (λ m. m == n) (take i numbers) in
    let short = length-take i numbers in
    omega (arith, is, few, short)

-- ---- the first places as a list

pub not_equal : (m n : ℕ) → (m ≡ n → ⊥) → (m == n) ≡ false
not_equal m n apart = by (m == n) refl
  where
    by : (b : Bool) → (m == n) ≡ b → (m == n) ≡ false
    by true is = absurd (apart (eqb-true m n is))
    by false is = is

-- a number of a list that agrees with the items
pub value_at : (f : Plain → ℕ) (items : List Plain) (ns : List ℕ) (i n : ℕ) → i < length items → ns ≡ map f items → n ≡ get_or ns i n → n ≡ f (item_of items i)
value_at f items ns i n h all at = at ∙ (ap (λ ms. get_or ms i n) all ∙ get_or-map f items i PlainNobody n h)

pub any_default : (ns : List ℕ) (i a b : ℕ) → i < length ns → get_or ns i a ≡ get_or ns i b
any_default [] i a b h = absurd (omega (arith, h))
any_default (n ∷ ns) zero a b h = refl
any_default (n ∷ ns) (suc i) a b h = any_default ns i a b (omega (arith, h))
