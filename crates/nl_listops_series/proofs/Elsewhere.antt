-- Parts of a list away from a place, and what a search finds.
use Rattle.std.proofs.Common.{◌≡◌, ℕ, zero, suc, ◌+◌, ◌-◌, ◌<◌, ◌≤◌, ℤ, Bool, true, false, ◌&&◌, ◌⊎◌, inl, inr, not, cond, nat_lt, nat_le, position, Some, None, Ok, Err, List, [], ◌∷◌, ◌++◌, length, set, take, drop, get_or, slice_get, slice_range, refl, sym, ap, ◌∙◌, arith, if◌then◌else◌}
use Rattle.std.specs.List.{splice, position_or_len}
use Rattle.std.specs.Cmp.{IsEquivalence}
use Rattle.std.proofs.lemmas.Bool.Decides.{nat_tests}
use Rattle.std.proofs.lemmas.List.{take-append-drop, take-set, drop-set, take-set-le, drop-set-lt, drop-set-add, length-set}
use Rattle.std.proofs.lemmas.List.Quantifiers.{position-Some}
use Rattle.std.proofs.lemmas.Option.{get_or_from_slice_get, slice_get-get_or, slice_get_within}
use Rattle.nl_value.specs.Plain.{PlainNobody}
use Rattle.nl_value.specs.Living.{Living}
use Rattle.nl_value.specs.Equality.{same_values}
use Rattle.nl_listops_series.specs.declared.fail.ListFail.TheVariants.{OutOfList}
use Rattle.nl_listops_series.specs.Outcomes.{and_then}
use Rattle.nl_listops_series.specs.Places.{index_of, below, between, part_of, replaced_at}
use Rattle.nl_listops_series.specs.Laws.{PartsStayElsewhere, SearchesFindTheFirst, ItemsAreFound}

-- ---- parts

replaced : {X : Type 0} (xs : List X) (place : ℕ) (x : X) → place < length xs → splice xs place (place + 1) (x ∷ []) ≡ set xs place x
replaced xs place x h =
    ap (λ front. front ++ (x ∷ drop (place + 1) xs)) (sym (take-set xs place x))
    ∙ (ap (λ back. take place (set xs place x) ++ back) (sym (drop-set xs place x h)) ∙ take-append-drop place (set xs place x))

in_front : {X : Type 0} (xs : List X) (place from to : ℕ) (x : X) → to ≤ place → from ≤ place → slice_range (set xs place x) from to ≡ slice_range xs from to
in_front xs place from to x before inside =
    let far : place ≡ from + (place - from) = omega arith in
    ap (λ n. take (to - from) (drop from (set xs n x))) far
    ∙ (ap (take (to - from)) (drop-set-add from xs (place - from) x) ∙ take-set-le (to - from) (drop from xs) (place - from) x (omega arith))

behind : {X : Type 0} (xs : List X) (place from to : ℕ) (x : X) → place < from → slice_range (set xs place x) from to ≡ slice_range xs from to
behind xs place from to x after = ap (take (to - from)) (drop-set-lt from xs place x after)

stays : {X : Type 0} (xs : List X) (place from to : ℕ) (x : X) → (to ≤ place) ⊎ (place < from) → slice_range (set xs place x) from to ≡ slice_range xs from to
stays xs place from to x (inr after) = behind xs place from to x after
stays xs place from to x (inl before) = by (nat_le from place) refl
  where
    by : (b : Bool) → nat_le from place ≡ b → slice_range (set xs place x) from to ≡ slice_range xs from to
    by true is = in_front xs place from to x before (grind (arith, nat_tests, is))
    by false is = behind xs place from to x (grind (arith, nat_tests, is))

same_part : {X : Type 0} (xs : List X) (place from to : ℕ) (x : X) → (to ≤ place) ⊎ (place < from) →
    between (Some from) (Some to) (set xs place x) ≡ between (Some from) (Some to) xs
same_part xs place from to x away =
    ap (λ n. if nat_le from to && nat_le to n then Ok (slice_range (set xs place x) from to) else Err OutOfList) (length-set xs place x)
    ∙ ap (λ part. if nat_le from to && nat_le to (length xs) then Ok part else Err OutOfList) (stays xs place from to x away)

put_in : {X : Type 0} (number : ℤ) (place : ℕ) (xs : List X) (x : X) → index_of number ≡ Some place → place < length xs → replaced_at number xs (x ∷ []) ≡ Ok (set xs place x)
put_in number place xs x at h =
    let inside : nat_lt place (length xs) ≡ true = grind (arith, nat_tests, h) in
    ap (λ o. and_then (below (length xs) o) (λ place. Ok (splice xs place (place + 1) (x ∷ [])))) at
    ∙ (ap (λ b. and_then (if b then Ok place else Err OutOfList) (λ place. Ok (splice xs place (place + 1) (x ∷ [])))) inside ∙ ap Ok (replaced xs place x h))

part_told : {X : Type 0} (first second : ℤ) (from to : ℕ) (xs : List X) → index_of first ≡ Some from → index_of second ≡ Some to → part_of first second xs ≡ between (Some from) (Some to) xs
part_told first second from to xs begin end = ap (λ o. between o (index_of second) xs) begin ∙ ap (λ o. between (Some from) o xs) end

pub parts_stay : (X : Type 0) → PartsStayElsewhere X
parts_stay X number first second place from to xs x at begin end h away =
    ap (λ o. and_then o (part_of first second)) (put_in number place xs x at h)
    ∙ (part_told first second from to (set xs place x) begin end ∙ (same_part xs place from to x away ∙ sym (part_told first second from to xs begin end)))

-- ---- searches

pub first_found : SearchesFindTheFirst
first_found w value items place found =
    let told = position-Some (same_values w value) items place PlainNobody found in
    record {
      item = get_or items place PlainNobody;
      there = slice_get-get_or items place PlainNobody told.0;
      same = told.1;
      none_before = λ k other before at. ap (same_values w value) (sym (get_or_from_slice_get items k other PlainNobody at)) ∙ told.2 k before;
    }

at_latest : {X : Type 0} (p : X → Bool) (xs : List X) (place : ℕ) (d : X) → place < length xs → p (get_or xs place d) ≡ true → position_or_len p xs ≤ place
at_latest p [] place d h passes = absurd (omega arith)
at_latest p (x ∷ xs) zero d h passes = let none : position_or_len p (x ∷ xs) ≡ 0 = ap (λ b. cond (not b) (1 + position_or_len p xs) 0) passes in omega arith
at_latest p (x ∷ xs) (suc place) d h passes = by (p x) refl (at_latest p xs place d (omega arith) passes)
  where
    by : (b : Bool) → p x ≡ b → position_or_len p xs ≤ place → position_or_len p (x ∷ xs) ≤ suc place
    by true is rest = let none : position_or_len p (x ∷ xs) ≡ 0 = ap (λ b. cond (not b) (1 + position_or_len p xs) 0) is in omega arith
    by false is rest = let next : position_or_len p (x ∷ xs) ≡ 1 + position_or_len p xs = ap (λ b. cond (not b) (1 + position_or_len p xs) 0) is in omega arith

found_by : {X : Type 0} (p : X → Bool) (xs : List X) (place : ℕ) (x : X) → slice_get xs place ≡ Some x → p x ≡ true →
    (found : ℕ) × (found ≤ place) × (position p xs ≡ Some found)
found_by p xs place x at passes =
    let within : place < length xs = slice_get_within xs place x at in
    let early : position_or_len p xs ≤ place = at_latest p xs place x within (ap p (get_or_from_slice_get xs place x x at) ∙ passes) in
    let inside : nat_lt (position_or_len p xs) (length xs) ≡ true = grind (arith, nat_tests, within, early) in
    (position_or_len p xs, early, ap (λ b. cond b (Some (position_or_len p xs)) None) inside)

pub items_found : ((w : Living) → IsEquivalence (same_values w)) → ItemsAreFound
items_found equal w items place item at = found_by (same_values w item) items place item at ((equal w).refl item)
