-- Laws of draws and shuffles.
use Rattle.std.proofs.Common.{◌≡◌, ℕ, zero, suc, ◌+◌, ◌-◌, ◌<◌, ◌≤◌, List, [], ◌∷◌, length, refl, sym, ap, subst, ◌∙◌, arith}
use Rattle.std.specs.Prelude.{map, swap, slice_get, slice_set, slice_index_or, Contains, Option, Some, None, MatchOption}
use Rattle.std.specs.Option.{option_map, option_and_then}
use Rattle.std.specs.List.Sorted.{IsPermutation}
use Rattle.std.proofs.lemmas.List.Sorted.{IsPermutation-refl, IsPermutation-swap, IsPermutation-trans}
use Rattle.std.proofs.lemmas.List.Edits.{length-swap}
use Rattle.std.proofs.lemmas.List.Elements.{Contains-get_or}
use Rattle.std.proofs.lemmas.List.{length-map, map-set}
use Rattle.std.proofs.Math.ListN.{get_or-map}
use Rattle.std.proofs.lemmas.Option.{slice_get-get_or, slice_get_read}
use Rattle.std.proofs.lemmas.Nat.{mod_below}
use Rattle.nl_draw.specs.Stream.{drawn, shuffled_from, shuffled, chosen, chosen_index}

-- what is drawn below a number is below it
pub drawn-below : (n state : ℕ) → 1 ≤ n → (drawn n state).0 < n
unfolding drawn
drawn-below n state h = mod_below _ n (omega arith)

-- a shuffle from an index of the list on changes the order and nothing else
pub shuffled_from-permutes : {X : Type 0} (i : ℕ) (list : List X) (state : ℕ) → i < length list
    → IsPermutation list (shuffled_from i list state).0
unfolding shuffled_from
shuffled_from-permutes zero list state h = IsPermutation-refl list
shuffled_from-permutes (suc i) list state h =
    let other = (drawn (suc i + 1) state).0 in
    let near : other < suc i + 1 = drawn-below (suc i + 1) state (omega arith) in
    let first = IsPermutation-swap list (swap list (suc i) other) (suc i) other h (omega arith) refl in
    IsPermutation-trans _ _ _ first
    (shuffled_from-permutes i (swap list (suc i) other) _ (rw length-swap (omega arith)))

pub shuffled-permutes : {X : Type 0} (list : List X) (state : ℕ) → IsPermutation list (shuffled list state).0
unfolding shuffled shuffled_from
shuffled-permutes [] state = IsPermutation-refl []
shuffled-permutes (x ∷ xs) state =
    shuffled_from-permutes (length (x ∷ xs) - 1) (x ∷ xs) state (omega arith)

-- from the first index on there is nothing to change
pub shuffled_from-first : {X : Type 0} (i : ℕ) (list : List X) (state : ℕ) → i ≡ 0
    → shuffled_from i list state ≡ (list, state)
unfolding shuffled_from
shuffled_from-first i list state first = rw first refl

-- one index changes with a drawn one, and those below it follow
pub shuffled_from-index : {X : Type 0} (j other state after : ℕ) (list : List X)
    → other ≡ (drawn (suc j + 1) state).0
    → after ≡ (drawn (suc j + 1) state).1
    → shuffled_from j (swap list (suc j) other) after ≡ shuffled_from (suc j) list state
unfolding shuffled_from
shuffled_from-index j other state after list at_other at_state = rw (at_other, at_state) refl

-- the same at the numbers of the loop, which counts from one above the index
pub shuffled_from-more : {X : Type 0} (i other state after : ℕ) (list : List X) → 1 < i
    → other ≡ (drawn (i - 1 + 1) state).0
    → after ≡ (drawn (i - 1 + 1) state).1
    → shuffled_from (i - 1 - 1) (swap list (i - 1) other) after ≡ shuffled_from (i - 1) list state
shuffled_from-more i other state after list above =
    let below : suc (i - 1 - 1) ≡ i - 1 = omega arith in
    subst
    (λ (at : ℕ). other ≡ (drawn (at + 1) state).0 → after ≡ (drawn (at + 1) state).1
    → shuffled_from (i - 1 - 1) (swap list at other) after ≡ shuffled_from at list state)
    below (shuffled_from-index (i - 1 - 1) other state after list)

-- a list of none or one has no index to change
pub shuffled-short : {X : Type 0} (list : List X) (state : ℕ) → length list ≤ 1 → shuffled list state ≡ (list, state)
unfolding shuffled
shuffled-short list state short = shuffled_from-first (length list - 1) list state (omega arith)

-- mapped items that change places are the items that changed places, mapped
swap-map : {X Y : Type 0} (f : X → Y) (list : List X) (i j : ℕ) → swap (map f list) i j ≡ map f (swap list i j)
swap-map f [] i j = refl
swap-map f (x ∷ xs) i j =
    let first = get_or-map f (x ∷ xs) j x in
    let second = get_or-map f (x ∷ xs) i x in
    let once = map-set f (x ∷ xs) i (slice_index_or (x ∷ xs) j x) in
    let twice = map-set f (slice_set (x ∷ xs) i (slice_index_or (x ∷ xs) j x)) j (slice_index_or (x ∷ xs) i x) in
    ap (λ b. slice_set (slice_set (map f (x ∷ xs)) i b) j (slice_index_or (map f (x ∷ xs)) i (f x))) first
    ∙ ap (λ b. slice_set (slice_set (map f (x ∷ xs)) i (f (slice_index_or (x ∷ xs) j x))) j b) second
    ∙ sym (twice ∙ ap (λ ys. slice_set ys j (f (slice_index_or (x ∷ xs) i x))) once)

shuffled_from-map : {X Y : Type 0} (f : X → Y) (i : ℕ) (list : List X) (state : ℕ)
    → shuffled_from i (map f list) state ≡ (map f (shuffled_from i list state).0, (shuffled_from i list state).1)
unfolding shuffled_from
shuffled_from-map f zero list state = refl
shuffled_from-map f (suc i) list state =
    let other = drawn (suc i + 1) state in
    ap (λ ys. shuffled_from i ys other.1) (swap-map f list (suc i) other.0)
    ∙ shuffled_from-map f i (swap list (suc i) other.0) other.1

-- mapped items come into the order that the items come into
pub shuffled-map : {X Y : Type 0} (f : X → Y) (list : List X) (state : ℕ)
    → shuffled (map f list) state ≡ (map f (shuffled list state).0, (shuffled list state).1)
unfolding shuffled
shuffled-map f list state =
    ap (λ n. shuffled_from (n - 1) (map f list) state) (length-map list f)
    ∙ shuffled_from-map f (length list - 1) list state

-- ---- choices

-- what is chosen is one of the list
pub chosen-member : {X : Type 0} (list : List X) (state : ℕ)
    → MatchOption (chosen list state).0 (list ≡ []) (Contains list)
unfolding chosen
chosen-member [] state = refl
chosen-member (x ∷ xs) state =
    Contains-get_or (x ∷ xs) _ x (drawn-below (length (x ∷ xs)) state (omega arith))

-- what is chosen stands at the index that is chosen
pub chosen-at : {X : Type 0} (list : List X) (state : ℕ)
    → chosen list state
    ≡ (option_and_then (slice_get list) (chosen_index (length list) state).0, (chosen_index (length list) state).1)
unfolding chosen chosen_index
chosen-at [] state = refl
chosen-at (x ∷ xs) state =
    let index = drawn (length (x ∷ xs)) state in
    let within = drawn-below (length (x ∷ xs)) state (omega arith) in
    ap (λ o. (o, index.1)) (sym (slice_get-get_or (x ∷ xs) index.0 x within))

-- of mapped items the mapped one is chosen
pub chosen-map : {X Y : Type 0} (f : X → Y) (list : List X) (state : ℕ)
    → chosen (map f list) state ≡ (option_map f (chosen list state).0, (chosen list state).1)
unfolding chosen
chosen-map f [] state = refl
chosen-map f (x ∷ xs) state =
    let n = length (x ∷ xs) in
    ap (λ m. (Some (slice_index_or (map f (x ∷ xs)) (drawn (suc m) state).0 (f x)), (drawn (suc m) state).1)) (length-map xs f)
    ∙ ap (λ y. (Some y, (drawn n state).1)) (get_or-map f (x ∷ xs) (drawn n state).0 x)

-- an index among some
pub chosen_index-some : (n state : ℕ) → 0 < n → chosen_index n state ≡ (Some (drawn n state).0, (drawn n state).1)
unfolding chosen_index
chosen_index-some zero state some = absurd (omega (arith, some))
chosen_index-some (suc n) state some = refl

pub chosen_index-none : (n state : ℕ) → n ≡ 0 → chosen_index n state ≡ (None, state)
unfolding chosen_index
chosen_index-none n state none = rw none refl

-- a choice by an index that was chosen
pub chosen-none : {X : Type 0} (list : List X) (state : ℕ) (answer : Option ℕ) → answer ≡ None
    → answer ≡ (chosen_index (length list) state).0 → None ≡ (chosen list state).0
chosen-none list state answer none is =
    let at : (chosen_index (length list) state).0 ≡ None = sym is ∙ none in
    sym (ap (λ c. c.0) (chosen-at list state) ∙ ap (option_and_then (slice_get list)) at)

pub chosen-some : {X : Type 0} (list : List X) (state i : ℕ) (answer : Option ℕ) (x : X) → answer ≡ Some i
    → answer ≡ (chosen_index (length list) state).0 → i < length list → x ≡ slice_index_or list i x
    → Some x ≡ (chosen list state).0
chosen-some list state i answer x some is within stands =
    let at : (chosen_index (length list) state).0 ≡ Some i = sym is ∙ some in
    sym (ap (λ c. c.0) (chosen-at list state) ∙ ap (option_and_then (slice_get list)) at
    ∙ slice_get_read list (length list) i x refl within stands)

pub chosen-after : {X : Type 0} (list : List X) (state after : ℕ) → after ≡ (chosen_index (length list) state).1
    → after ≡ (chosen list state).1
chosen-after list state after is = is ∙ sym (ap (λ c. c.1) (chosen-at list state))
