-- What is sorted, and sorted again.
use Rattle.std.proofs.Common.{◌≡◌, Bool, true, false, ◌&&◌, ◌||◌, not, cond, Some, None, List, [], ◌∷◌, filter, refl, sym, ap, ◌∙◌, if◌then◌else◌}
use Rattle.std.specs.List.{list_all, list_any, filter_map, cons_option}
use Rattle.std.specs.List.Sorted.{IsPermutation}
use Rattle.std.proofs.lemmas.Bool.{false≢true}
use Rattle.std.proofs.lemmas.List.MinMax.{ranks_by}
use Rattle.std.proofs.lemmas.List.Sorted.{IsPermutation-refl, IsPermutation-trans, IsPermutation-append_left, IsPermutation-append_right, IsPermutation-append_comm}
use Rattle.nl_value.specs.declared.order.OrderKind.{OrderKind}
use Rattle.nl_value.specs.declared.order.OrderKind.TheVariants.{Numbers, Texts, Turtles, Patches, Links, Unordered}
use Rattle.nl_value.specs.Plain.{Plain}
use Rattle.nl_value.specs.Living.{Living}
use Rattle.nl_value.specs.Order.{comes_first, order_kind, have_order}
use Rattle.nl_value.specs.Sorting.{inserted, sorted_by}
use Rattle.nl_value.specs.Laws.{AllValuesHaveAnOrder}
use Rattle.nl_listops_series.specs.Sorts.{is_of, is_agent_kind, agent_kind, first_kind, sorted_kind, sortable, sorted_items}
use Rattle.nl_listops_series.specs.Laws.{ascend, SortsPermute}

swapped : {X : Type 0} (x y : X) (ys : List X) → IsPermutation (x ∷ y ∷ ys) (y ∷ x ∷ ys)
swapped x y ys = IsPermutation-append_left ys (x ∷ y ∷ []) (y ∷ x ∷ []) (IsPermutation-append_comm (x ∷ []) (y ∷ []))

insert_permutes : {X : Type 0} (lt : X → X → Bool) (x : X) (ys : List X) → IsPermutation (x ∷ ys) (inserted lt x ys)
insert_permutes lt x [] = IsPermutation-refl (x ∷ [])
insert_permutes lt x (y ∷ ys) = elim (lt y x) as (λ b. IsPermutation (x ∷ y ∷ ys) (if b then y ∷ inserted lt x ys else x ∷ y ∷ ys)) [
  | true ↦ IsPermutation-trans (x ∷ y ∷ ys) (y ∷ x ∷ ys) (y ∷ inserted lt x ys) (swapped x y ys) (IsPermutation-append_right (y ∷ []) (x ∷ ys) (inserted lt x ys) (insert_permutes lt x ys))
  | false ↦ IsPermutation-refl (x ∷ y ∷ ys)
]

sort_permutes : {X : Type 0} (lt : X → X → Bool) (xs : List X) → IsPermutation xs (sorted_by lt xs)
sort_permutes lt [] = IsPermutation-refl []
sort_permutes lt (x ∷ xs) =
    IsPermutation-trans (x ∷ xs) (x ∷ sorted_by lt xs) (inserted lt x (sorted_by lt xs))
    (IsPermutation-append_right (x ∷ []) xs (sorted_by lt xs) (sort_permutes lt xs))
    (insert_permutes lt x (sorted_by lt xs))

-- ---- no item comes before the one in front of it

both : (p q : Bool) → (p && q) ≡ true → (p ≡ true) × (q ≡ true)
both true q e = (refl, e)
both false q e = absurd (false≢true e)

two : (p q : Bool) → p ≡ true → q ≡ true → (p && q) ≡ true
two true q is rest = rest
two false q is rest = absurd (false≢true is)

ascend_put : {X : Type 0} (lt : X → X → Bool) → ((a b : X) → lt a b ≡ true → lt b a ≡ false) → (y x : X) (ys : List X) → lt x y ≡ false → ascend lt (y ∷ ys) ≡ true → ascend lt (y ∷ inserted lt x ys) ≡ true
ascend_put lt one_way y x [] after up = two (not (lt x y)) true (ap not after) refl
ascend_put lt one_way y x (z ∷ zs) after up = by (lt z x) refl (λ behind. ascend_put lt one_way z x zs behind (both (not (lt z y)) (ascend lt (z ∷ zs)) up).1)
  where
    parts : (not (lt z y) ≡ true) × (ascend lt (z ∷ zs) ≡ true)
    parts = both (not (lt z y)) (ascend lt (z ∷ zs)) up

    by : (b : Bool) → lt z x ≡ b → (lt x z ≡ false → ascend lt (z ∷ inserted lt x zs) ≡ true) → ascend lt (y ∷ (if lt z x then z ∷ inserted lt x zs else x ∷ z ∷ zs)) ≡ true
    by true is rest = ap (λ b. ascend lt (y ∷ (if b then z ∷ inserted lt x zs else x ∷ z ∷ zs))) is ∙ two (not (lt z y)) (ascend lt (z ∷ inserted lt x zs)) parts.0 (rest (one_way z x is))
    by false is rest =
        ap (λ b. ascend lt (y ∷ (if b then z ∷ inserted lt x zs else x ∷ z ∷ zs))) is
        ∙ two (not (lt x y)) (not (lt z x) && ascend lt (z ∷ zs)) (ap not after) (two (not (lt z x)) (ascend lt (z ∷ zs)) (ap not is) parts.1)

ascend_inserted : {X : Type 0} (lt : X → X → Bool) → ((a b : X) → lt a b ≡ true → lt b a ≡ false) → (x : X) (ys : List X) → ascend lt ys ≡ true → ascend lt (inserted lt x ys) ≡ true
ascend_inserted lt one_way x [] up = refl
ascend_inserted lt one_way x (y ∷ ys) up = by (lt y x) refl
  where
    by : (b : Bool) → lt y x ≡ b → ascend lt (if lt y x then y ∷ inserted lt x ys else x ∷ y ∷ ys) ≡ true
    by true is = ap (λ b. ascend lt (if b then y ∷ inserted lt x ys else x ∷ y ∷ ys)) is ∙ ascend_put lt one_way y x ys (one_way y x is) up
    by false is = ap (λ b. ascend lt (if b then y ∷ inserted lt x ys else x ∷ y ∷ ys)) is ∙ two (not (lt y x)) (ascend lt (y ∷ ys)) (ap not is) up

ascend_sorted : {X : Type 0} (lt : X → X → Bool) → ((a b : X) → lt a b ≡ true → lt b a ≡ false) → (xs : List X) → ascend lt (sorted_by lt xs) ≡ true
ascend_sorted lt one_way [] = refl
ascend_sorted lt one_way (x ∷ xs) = ascend_inserted lt one_way x (sorted_by lt xs) (ascend_sorted lt one_way xs)

-- ---- what ascends is sorted

sorted_stays : {X : Type 0} (lt : X → X → Bool) (xs : List X) → ascend lt xs ≡ true → sorted_by lt xs ≡ xs
sorted_stays lt [] up = refl
sorted_stays lt (x ∷ []) up = refl
sorted_stays lt (x ∷ y ∷ ys) up =
    let parts = both (not (lt y x)) (ascend lt (y ∷ ys)) up in
    ap (inserted lt x) (sorted_stays lt (y ∷ ys) parts.1) ∙ ap (λ b. if b then y ∷ inserted lt x ys else x ∷ y ∷ ys) (not_true (lt y x) parts.0)
  where
    not_true : (b : Bool) → not b ≡ true → b ≡ false
    not_true true e = absurd (false≢true e)
    not_true false e = refl

-- ---- what is kept is of one kind

kept_pass : {X : Type 0} (p : X → Bool) (xs : List X) → list_all p (filter p xs) ≡ true
kept_pass p [] = refl
kept_pass p (x ∷ xs) = by (p x) refl (kept_pass p xs)
  where
    by : (b : Bool) → p x ≡ b → list_all p (filter p xs) ≡ true → list_all p (cond (p x) (x ∷ filter p xs) (filter p xs)) ≡ true
    by true is rest = ap (λ b. list_all p (cond b (x ∷ filter p xs) (filter p xs))) is ∙ two (p x) (list_all p (filter p xs)) is rest
    by false is rest = ap (λ b. list_all p (cond b (x ∷ filter p xs) (filter p xs))) is ∙ rest

inserted_pass : {X : Type 0} (p : X → Bool) (lt : X → X → Bool) (x : X) (ys : List X) → p x ≡ true → list_all p ys ≡ true → list_all p (inserted lt x ys) ≡ true
inserted_pass p lt x [] is all = two (p x) true is refl
inserted_pass p lt x (y ∷ ys) is all = elim (lt y x) as (λ b. list_all p (if b then y ∷ inserted lt x ys else x ∷ y ∷ ys) ≡ true) [
  | true ↦ (let parts = both (p y) (list_all p ys) all in two (p y) (list_all p (inserted lt x ys)) parts.0 (inserted_pass p lt x ys is parts.1))
  | false ↦ two (p x) (list_all p (y ∷ ys)) is all
]

sorted_pass : {X : Type 0} (p : X → Bool) (lt : X → X → Bool) (xs : List X) → list_all p xs ≡ true → list_all p (sorted_by lt xs) ≡ true
sorted_pass p lt [] all = refl
sorted_pass p lt (x ∷ xs) all = let parts = both (p x) (list_all p xs) all in inserted_pass p lt x (sorted_by lt xs) parts.0 (sorted_pass p lt xs parts.1)

all_kept : {X : Type 0} (p : X → Bool) (xs : List X) → list_all p xs ≡ true → filter p xs ≡ xs
all_kept p [] all = refl
all_kept p (x ∷ xs) all = let parts = both (p x) (list_all p xs) all in ap (λ b. cond b (x ∷ filter p xs) (filter p xs)) parts.0 ∙ ap (λ rest. x ∷ rest) (all_kept p xs parts.1)

same_kind : (k j : OrderKind) → have_order k j ≡ true → j ≡ k
same_kind Numbers Numbers e = refl
same_kind Texts Texts e = refl
same_kind Turtles Turtles e = refl
same_kind Patches Patches e = refl
same_kind Links Links e = refl
same_kind Unordered j e = absurd (false≢true e)
same_kind k j e = absurd (false≢true e)

other_kinds : (w : Living) (k j : OrderKind) (ys : List Plain) → have_order j k ≡ false → list_all (is_of w k) ys ≡ true → list_any (is_of w j) ys ≡ false
other_kinds w k j [] off all = refl
other_kinds w k j (y ∷ ys) off all =
    let parts = both (is_of w k y) (list_all (is_of w k) ys) all in
    ap (λ b. b || list_any (is_of w j) ys) (ap (have_order j) (same_kind k (order_kind w y) parts.0) ∙ off) ∙ other_kinds w k j ys off parts.1

kind_again : (w : Living) (k : OrderKind) (y : Plain) (ys : List Plain) → list_all (is_of w k) (y ∷ ys) ≡ true → sorted_kind w (y ∷ ys) ≡ k
kind_again w k y ys all = by k refl
  where
    parts : (is_of w k y ≡ true) × (list_all (is_of w k) ys ≡ true)
    parts = both (is_of w k y) (list_all (is_of w k) ys) all

    of : order_kind w y ≡ k
    of = same_kind k (order_kind w y) parts.0

    agents : have_order Numbers k ≡ false → have_order Texts k ≡ false → is_agent_kind k ≡ true → sorted_kind w (y ∷ ys) ≡ k
    agents no_number no_text agent =
        ap (λ b. if b then Numbers else (if list_any (is_of w Texts) (y ∷ ys) then Texts else first_kind (filter_map (agent_kind w) (y ∷ ys)))) (other_kinds w k Numbers (y ∷ ys) no_number all)
        ∙ (ap (λ b. if b then Texts else first_kind (filter_map (agent_kind w) (y ∷ ys))) (other_kinds w k Texts (y ∷ ys) no_text all)
        ∙ (ap (λ j. first_kind (cons_option (if is_agent_kind j then Some j else None) (filter_map (agent_kind w) ys))) of
        ∙ ap (λ b. first_kind (cons_option (if b then Some k else None) (filter_map (agent_kind w) ys))) agent))

    by : (j : OrderKind) → k ≡ j → sorted_kind w (y ∷ ys) ≡ k
    by Numbers is =
        ap (λ b. if b then Numbers else (if list_any (is_of w Texts) (y ∷ ys) then Texts else first_kind (filter_map (agent_kind w) (y ∷ ys)))) (ap (λ j. have_order Numbers j || list_any (is_of w Numbers) ys) (of ∙ is))
        ∙ sym is
    by Texts is =
        ap (λ b. if b then Numbers else (if list_any (is_of w Texts) (y ∷ ys) then Texts else first_kind (filter_map (agent_kind w) (y ∷ ys)))) (other_kinds w k Numbers (y ∷ ys) (ap (have_order Numbers) is) all)
        ∙ (ap (λ b. if b then Texts else first_kind (filter_map (agent_kind w) (y ∷ ys))) (ap (λ j. have_order Texts j || list_any (is_of w Texts) ys) (of ∙ is)) ∙ sym is)
    by Turtles is = agents (ap (have_order Numbers) is) (ap (have_order Texts) is) (ap is_agent_kind is)
    by Patches is = agents (ap (have_order Numbers) is) (ap (have_order Texts) is) (ap is_agent_kind is)
    by Links is = agents (ap (have_order Numbers) is) (ap (have_order Texts) is) (ap is_agent_kind is)
    by Unordered is = absurd (false≢true (ap (λ j. have_order j (order_kind w y)) (sym is) ∙ parts.0))

kept_again : (w : Living) (k : OrderKind) (ys : List Plain) → list_all (is_of w k) ys ≡ true → sortable w ys ≡ ys
kept_again w k [] all = refl
kept_again w k (y ∷ ys) all = ap (λ j. filter (is_of w j) (y ∷ ys)) (kind_again w k y ys all) ∙ all_kept (is_of w k) (y ∷ ys) all

pub sorts_permute : AllValuesHaveAnOrder → SortsPermute
sorts_permute order w items =
    let weak = ranks_by (order w).total (λ value. value) in
    let up : ascend (comes_first w) (sorted_items w items) ≡ true = ascend_sorted (comes_first w) weak.one_way (sortable w items) in
    let alike : list_all (is_of w (sorted_kind w items)) (sorted_items w items) ≡ true = sorted_pass (is_of w (sorted_kind w items)) (comes_first w) (sortable w items) (kept_pass (is_of w (sorted_kind w items)) items) in
    record {
      ascends = up;
      permutes = sort_permutes (comes_first w) (sortable w items);
      again = ap (sorted_by (comes_first w)) (kept_again w (sorted_kind w items) (sorted_items w items) alike) ∙ sorted_stays (comes_first w) (sorted_items w items) up;
    }
