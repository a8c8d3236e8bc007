-- Equality of lists, item by item.
use Rattle.std.specs.Prelude.{◌≡◌, ℕ, zero, ◌+◌, ◌<◌, ◌≤◌, Bool, true, false, ◌&&◌, ◌||◌, List, [], ◌∷◌, length, map, refl}
use Rattle.std.proofs.Common.{arith, get_or, drop, suc, ap, ◌∙◌, sym}
use Rattle.std.proofs.lemmas.Bool.{false≢true}
use Rattle.std.proofs.lemmas.List.{drop_more}
use Rattle.std.proofs.Math.ListN.{drop_of_length-le}
use Rattle.nl_value.specs.declared.values.Value.{Value}
use Rattle.nl_value.specs.Plain.{Plain, plains}
use Rattle.nl_value.specs.Living.{Living, fits, all_fit}
use Rattle.nl_value.specs.Equality.{settled, all_settled, alike, all_alike, same_values}
use Rattle.nl_value.specs.Memory.{holds_set, some_hold_set}
use Rattle.nl_value.specs.Views.{plain}

-- two lists, as equality sees them
abbrev pub lists_alike : Living → List Value → List Value → Bool
lists_alike w vs us = all_alike w (all_settled w (plains (map plain vs))) (all_settled w (plains (map plain us)))

and_false : (a b : Bool) → b ≡ false → (a && b) ≡ false
and_false true b e = e
and_false false b e = refl

pub and_left : (a b : Bool) → (a && b) ≡ true → a ≡ true
and_left true b e = refl
and_left false b e = e

pub and_right : (a b : Bool) → (a && b) ≡ true → b ≡ true
and_right true b e = e
and_right false b e = absurd (false≢true e)

-- ---- lists, item by item

-- what is left of two lists from a place on
abbrev pub rest_alike : Living → List Value → List Value → ℕ → Bool
rest_alike w vs us i = lists_alike w (drop i vs) (drop i us)

pub rest_alike-step : (w : Living) (vs us : List Value) (i : ℕ) (v u : Value) → i < length vs → i < length us → v ≡ get_or vs i v → u ≡ get_or us i u → rest_alike w vs us i ≡ (same_values w (plain v) (plain u) && rest_alike w vs us (i + 1))
rest_alike-step w vs us i v u h k e f =
    ap (λ xs. lists_alike w xs (drop i us)) (drop_more vs i v h ∙ ap (λ (x : Value). x ∷ drop (i + 1) vs) (sym e))
    ∙ ap (λ ys. lists_alike w (v ∷ drop (i + 1) vs) ys) (drop_more us i u k ∙ ap (λ (x : Value). x ∷ drop (i + 1) us) (sym f))

pub rest_alike-end : (w : Living) (vs us : List Value) (i : ℕ) → length vs ≤ i → length us ≤ i → rest_alike w vs us i ≡ true
rest_alike-end w vs us i h k = rw (drop_of_length-le vs h, drop_of_length-le us k) refl

-- lists of different lengths
pub lengths_differ : (w : Living) (ps qs : List Plain) → (length ps ≡ length qs → ⊥) → all_alike w (all_settled w (plains ps)) (all_settled w (plains qs)) ≡ false
lengths_differ w [] [] h = absurd (h refl)
lengths_differ w [] (q ∷ qs) h = refl
lengths_differ w (p ∷ ps) [] h = refl
lengths_differ w (p ∷ ps) (q ∷ qs) h = and_false (alike w (settled w p) (settled w q)) (all_alike w (all_settled w (plains ps)) (all_settled w (plains qs))) (lengths_differ w ps qs (λ e. h (omega (arith, e))))

-- the first items that differ decide
pub rest_differs : (w : Living) (vs us : List Value) (i : ℕ) (v u : Value) → i < length vs → i < length us → v ≡ get_or vs i v → u ≡ get_or us i u → same_values w (plain v) (plain u) ≡ false → rest_alike w vs us i ≡ false
rest_differs w vs us i v u h k e f d = rest_alike-step w vs us i v u h k e f ∙ ap (λ b. b && rest_alike w vs us (i + 1)) d

-- items that are the same leave it to the rest
pub rest_goes_on : (w : Living) (vs us : List Value) (i : ℕ) (v u : Value) → i < length vs → i < length us → v ≡ get_or vs i v → u ≡ get_or us i u → same_values w (plain v) (plain u) ≡ true → rest_alike w vs us i ≡ rest_alike w vs us (i + 1)
rest_goes_on w vs us i v u h k e f d = rest_alike-step w vs us i v u h k e f ∙ ap (λ b. b && rest_alike w vs us (i + 1)) d

-- two lists by what they are seen as
pub lists_seen : (w : Living) (vs us : List Value) (ps qs : List Plain) → map plain vs ≡ ps → map plain us ≡ qs → lists_alike w vs us ≡ all_alike w (all_settled w (plains ps)) (all_settled w (plains qs))
lists_seen w vs us ps qs e f = rw (e, f) refl

-- ---- what fits

item_of_all_fits : (w : Living) (vs : List Value) (i : ℕ) (v : Value) → i < length vs → v ≡ get_or vs i v → all_fit w (plains (map plain vs)) ≡ true → fits w (plain v) ≡ true
item_of_all_fits w [] i v h e f = absurd (omega (arith, h))
item_of_all_fits w (u ∷ us) zero v h e f = ap (λ (x : Value). fits w (plain x)) e ∙ and_left (fits w (plain u)) (all_fit w (plains (map plain us))) f
item_of_all_fits w (u ∷ us) (suc i) v h e f = item_of_all_fits w us i v (omega (arith, h)) e (and_right (fits w (plain u)) (all_fit w (plains (map plain us))) f)

-- each item of a list that fits does
pub item_fits : (w : Living) (vs : List Value) (ps : List Plain) (i : ℕ) (v : Value) → map plain vs ≡ ps → i < length vs → v ≡ get_or vs i v → all_fit w (plains ps) ≡ true → fits w (plain v) ≡ true
item_fits w vs ps i v e h f g = item_of_all_fits w vs i v h f (ap (λ (qs : List Plain). all_fit w (plains qs)) e ∙ g)

-- ---- lists without sets

or_left : (a b : Bool) → (a || b) ≡ false → a ≡ false
or_left true b e = e
or_left false b e = refl

or_right : (a b : Bool) → (a || b) ≡ false → b ≡ false
or_right true b e = absurd (false≢true (sym e))
or_right false b e = e

item_of_list_without : (vs : List Value) (i : ℕ) (v : Value) → i < length vs → v ≡ get_or vs i v → some_hold_set (plains (map plain vs)) ≡ false → holds_set (plain v) ≡ false
item_of_list_without [] i v h e f = absurd (omega (arith, h))
item_of_list_without (u ∷ us) zero v h e f = ap (λ (x : Value). holds_set (plain x)) e ∙ or_left (holds_set (plain u)) (some_hold_set (plains (map plain us))) f
item_of_list_without (u ∷ us) (suc i) v h e f = item_of_list_without us i v (omega (arith, h)) e (or_right (holds_set (plain u)) (some_hold_set (plains (map plain us))) f)

-- each item of a list without sets is without sets
pub item_without : (vs : List Value) (ps : List Plain) (i : ℕ) (v : Value) → map plain vs ≡ ps → i < length vs → v ≡ get_or vs i v → some_hold_set (plains ps) ≡ false → holds_set (plain v) ≡ false
item_without vs ps i v e h f g = item_of_list_without vs i v h f (ap (λ (qs : List Plain). some_hold_set (plains qs)) e ∙ g)
