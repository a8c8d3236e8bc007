-- What stands at drawn places of a list, walked from its front.
use Rattle.std.specs.Prelude.{◌≡◌, ℕ, zero, suc, ◌<◌, ◌+◌, Bool, true, false, if◌then◌else◌, List, [], ◌∷◌, ◌++◌, take, length, filter, filter_map, slice_get, Option, Some, All, refl}
use Rattle.std.proofs.Common.{ap, sym, ◌∙◌, get_or, arith}
use Rattle.std.specs.List.{range_with_len, cons_option}
use Rattle.std.specs.List.Sorted.{IsStrictlyIncreasing}
use Rattle.std.proofs.lemmas.List.{take_more, length-take-le, append-nil}
use Rattle.std.proofs.lemmas.List.Elements.{All-cons}
use Rattle.nl_agents.specs.Members.{is_listed}
use Rattle.nl_agents.proofs.Keyed.{ascend_cons, ascend_head, ascend_tail}
use Rattle.nl_agentset_query.specs.Choices.{kept_from}
use Rattle.nl_agentset_query.specs.Orders.{SameNumbers}

module _ {X : Type 0} (ps : List ℕ) where
  kept_append : (at : ℕ) (xs ys : List X) → kept_from at ps (xs ++ ys) ≡ kept_from at ps xs ++ kept_from (at + length xs) ps ys
  kept_append at [] ys = let same : at ≡ at + 0 = omega arith in ap (λ n. kept_from n ps ys) same
  kept_append at (x ∷ xs) ys =
      by (is_listed ps at) (kept_append (at + 1) xs ys ∙ (let same : at + 1 + length xs ≡ at + length (x ∷ xs) = omega arith in ap (λ n. kept_from (at + 1) ps xs ++ kept_from n ps ys) same))
    where
      by : (b : Bool) → kept_from (at + 1) ps (xs ++ ys) ≡ kept_from (at + 1) ps xs ++ kept_from (at + length (x ∷ xs)) ps ys
          → (if b then x ∷ kept_from (at + 1) ps (xs ++ ys) else kept_from (at + 1) ps (xs ++ ys))
          ≡ (if b then x ∷ kept_from (at + 1) ps xs else kept_from (at + 1) ps xs) ++ kept_from (at + length (x ∷ xs)) ps ys
      by true later = ap (λ l. x ∷ l) later
      by false later = later

  one_at : (i : ℕ) (x : X) (b : Bool) → is_listed ps i ≡ b → kept_from i ps (x ∷ []) ≡ (if b then x ∷ [] else [])
  one_at i x b is = ap (λ a. if a then x ∷ [] else []) is

  next_kept : (xs : List X) (i : ℕ) (x : X) (b : Bool) → i < length xs → x ≡ get_or xs i x → is_listed ps i ≡ b
      → kept_from 0 ps (take (i + 1) xs) ≡ kept_from 0 ps (take i xs) ++ (if b then x ∷ [] else [])
  next_kept xs i x b inside at is =
      let long : 0 + length (take i xs) ≡ i = omega (arith, length-take-le i xs (omega (arith, inside))) in
      ap (kept_from 0 ps) (take_more xs i x inside ∙ ap (λ y. take i xs ++ y ∷ []) (sym at))
      ∙ kept_append 0 (take i xs) (x ∷ []) ∙ ap (λ n. kept_from 0 ps (take i xs) ++ kept_from n ps (x ∷ [])) long
      ∙ ap (λ l. kept_from 0 ps (take i xs) ++ l) (one_at i x b is)

  -- one place further, which is among those drawn
  pub kept_yes : (xs : List X) (i : ℕ) (x : X) (found more : List X) → i < length xs → x ≡ get_or xs i x → is_listed ps i ≡ true
      → found ≡ kept_from 0 ps (take i xs) → more ≡ found ++ x ∷ [] → more ≡ kept_from 0 ps (take (i + 1) xs)
  kept_yes xs i x found more inside at is so_far next = next ∙ ap (λ l. l ++ x ∷ []) so_far ∙ sym (next_kept xs i x true inside at is)

  -- and one that isn't
  pub kept_no : (xs : List X) (i : ℕ) (x : X) (found : List X) → i < length xs → x ≡ get_or xs i x → is_listed ps i ≡ false
      → found ≡ kept_from 0 ps (take i xs) → found ≡ kept_from 0 ps (take (i + 1) xs)
  kept_no xs i x found inside at is so_far = so_far ∙ sym (append-nil (kept_from 0 ps (take i xs))) ∙ sym (next_kept xs i x false inside at is)

  -- what is kept stands at the places of the list that are among those drawn
  pub kept_at : (at : ℕ) (xs : List X) (h : ℕ → Option X) → ((k : ℕ) → k < length xs → h (at + k) ≡ slice_get xs k)
      → kept_from at ps xs ≡ filter_map h (filter (is_listed ps) (range_with_len at (length xs)))
  kept_at at [] h same = refl
  kept_at at (x ∷ xs) h same =
      by (is_listed ps at)
      (kept_at (at + 1) xs h (λ k inside. let further : at + 1 + k ≡ at + suc k = omega arith in ap h further ∙ same (suc k) (omega (arith, inside))))
    where
      first : h at ≡ Some x
      first = let here : at ≡ at + 0 = omega arith in ap h here ∙ same 0 (omega arith)

      by : (b : Bool) → kept_from (at + 1) ps xs ≡ filter_map h (filter (is_listed ps) (range_with_len (at + 1) (length xs)))
          → (if b then x ∷ kept_from (at + 1) ps xs else kept_from (at + 1) ps xs)
          ≡ filter_map h (if b then at ∷ filter (is_listed ps) (range_with_len (at + 1) (length xs)) else filter (is_listed ps) (range_with_len (at + 1) (length xs)))
      by true later = ap (λ l. x ∷ l) later ∙ sym (ap (λ o. cons_option o (filter_map h (filter (is_listed ps) (range_with_len (at + 1) (length xs))))) first)
      by false later = later

  -- so many are kept
  pub kept_long : (at : ℕ) (xs : List X) → length (kept_from at ps xs) ≡ length (filter (is_listed ps) (range_with_len at (length xs)))
  kept_long at [] = refl
  kept_long at (x ∷ xs) = by (is_listed ps at) (kept_long (at + 1) xs)
    where
      by : (b : Bool) → length (kept_from (at + 1) ps xs) ≡ length (filter (is_listed ps) (range_with_len (at + 1) (length xs)))
          → length (if b then x ∷ kept_from (at + 1) ps xs else kept_from (at + 1) ps xs)
          ≡ length (if b then at ∷ filter (is_listed ps) (range_with_len (at + 1) (length xs)) else filter (is_listed ps) (range_with_len (at + 1) (length xs)))
      by true later = ap suc later
      by false later = later

  -- all, where each place is among those drawn
  pub kept_all : (at : ℕ) (xs : List X) → ((k : ℕ) → k < length xs → is_listed ps (at + k) ≡ true) → kept_from at ps xs ≡ xs
  kept_all at [] drawn = refl
  kept_all at (x ∷ xs) drawn =
      by (is_listed ps at) (let here : at ≡ at + 0 = omega arith in ap (is_listed ps) here ∙ drawn 0 (omega arith))
      (kept_all (at + 1) xs (λ k inside. let further : at + 1 + k ≡ at + suc k = omega arith in ap (is_listed ps) further ∙ drawn (suc k) (omega (arith, inside))))
    where
      by : (b : Bool) → b ≡ true → kept_from (at + 1) ps xs ≡ xs → (if b then x ∷ kept_from (at + 1) ps xs else kept_from (at + 1) ps xs) ≡ x ∷ xs
      by true is later = ap (λ l. x ∷ l) later
      by false is later = cc

-- inside of a list it doesn't matter what stands for nothing
pub any_default : (xs : List ℕ) (i d e : ℕ) → i < length xs → get_or xs i d ≡ get_or xs i e
any_default [] i d e inside = absurd (omega arith)
any_default (x ∷ xs) zero d e inside = refl
any_default (x ∷ xs) (suc i) d e inside = any_default xs i d e (omega (arith, inside))

-- lists of places with the same numbers keep the same
pub kept_same : {X : Type 0} (ps qs : List ℕ) → SameNumbers ps qs → (at : ℕ) (xs : List X) → kept_from at qs xs ≡ kept_from at ps xs
kept_same ps qs same at [] = refl
kept_same ps qs same at (x ∷ xs) =
    ap (λ b. if b then x ∷ kept_from (at + 1) qs xs else kept_from (at + 1) qs xs) (same at)
    ∙ ap (λ l. if is_listed ps at then x ∷ l else l) (kept_same ps qs same (at + 1) xs)

-- what holds of each holds of each that is kept
pub kept_each : {X : Type 0} (ps : List ℕ) (at : ℕ) (xs : List X) (P : X → Type 0) → All P xs → All P (kept_from at ps xs)
kept_each ps at [] P all = all
kept_each ps at (x ∷ xs) P all = by (is_listed ps at) (kept_each ps (at + 1) xs P (λ k z inside. all (suc k) z (omega (arith, inside))))
  where
    by : (b : Bool) → All P (kept_from (at + 1) ps xs) → All P (if b then x ∷ kept_from (at + 1) ps xs else kept_from (at + 1) ps xs)
    by true later = All-cons P x (kept_from (at + 1) ps xs) (all 0 x (omega arith)) later
    by false later = later

-- what is kept of numbers that ascend ascends
pub kept_ascends : (ps : List ℕ) (at : ℕ) (xs : List ℕ) → IsStrictlyIncreasing xs → IsStrictlyIncreasing (kept_from at ps xs)
kept_ascends ps at [] rise = rise
kept_ascends ps at (x ∷ xs) rise = by (is_listed ps at) (kept_ascends ps (at + 1) xs (ascend_tail x xs rise))
  where
    by : (b : Bool) → IsStrictlyIncreasing (kept_from (at + 1) ps xs) → IsStrictlyIncreasing (if b then x ∷ kept_from (at + 1) ps xs else kept_from (at + 1) ps xs)
    by true later = ascend_cons x (kept_from (at + 1) ps xs) (kept_each ps (at + 1) xs (λ m. x < m) (ascend_head x xs rise)) later
    by false later = later
