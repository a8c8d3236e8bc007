-- Parts of texts by places, as the code puts them together.
use Rattle.std.proofs.Common.{◌≡◌, ℕ, zero, suc, ◌+◌, ◌-◌, ◌<◌, ◌≤◌, ℤ, Bool, true, false, Option, Some, None, Ok, Err, [], ◌∷◌, ◌++◌, length, take, drop, slice_range, slice_get, refl, sym, ap, ◌∙◌, arith, nat_lt, if◌then◌else◌}
use Rattle.std.specs.List.{concat, splice}
use Rattle.std.specs.Option.{option_and_then}
use Rattle.std.proofs.lemmas.List.{append-nil, take_rest}
use Rattle.nl_fixed.specs.Nouns.{Bytes, Texts}
use Rattle.nl_listops_series.specs.declared.fail.ListFail.TheVariants.{OutOfList}
use Rattle.nl_listops_series.specs.Outcomes.{and_then, outcome_map, or_fail}
use Rattle.nl_listops_series.specs.Places.{last_of, index_of, place_below, below, item_at, without_at, replaced_at, inserted_at}
use Rattle.nl_listops_series.proofs.Characters.{concat-append}

-- ---- a place that is found is the number's, and below the bound

below_told : (o : Option ℕ) (bound place : ℕ) → Ok place ≡ below bound o → (o ≡ Some place) × (place < bound)
below_told None bound place e = cc
below_told (Some p) bound place e = told (nat_lt p bound) refl e
  where
    told : (b : Bool) → nat_lt p bound ≡ b → Ok place ≡ (if b then Ok p else Err OutOfList) → (Some p ≡ Some place) × (place < bound)
    told true test e = (cc, (let same : p ≡ place = cc in grind (arith, same, test)))
    told false test e = cc

pub place_told : (number : ℤ) (bound place : ℕ) → Ok place ≡ place_below number bound → (index_of number ≡ Some place) × (place < bound)
place_told number bound place e = below_told (index_of number) bound place e

-- ---- one piece

one_at : (cs : Texts) (place : ℕ) → place < length cs → slice_get cs place ≡ Some (concat (slice_range cs place (place + 1)))
one_at [] place h = absurd (omega arith)
one_at (c ∷ cs) zero h = ap Some (sym (append-nil c))
one_at (c ∷ cs) (suc place) h =
    one_at cs place (omega arith) ∙ ap (λ k. Some (concat (take k (drop place cs)))) (omega arith)

pub piece_at : (number : ℤ) (cs : Texts) (place : ℕ) → Ok place ≡ place_below number (length cs) → item_at number cs ≡ Ok (concat (slice_range cs place (place + 1)))
piece_at number cs place e =
    let told = place_told number (length cs) place e in
    ap (λ o. or_fail OutOfList (option_and_then (slice_get cs) o)) told.0 ∙ ap (or_fail OutOfList) (one_at cs place told.1)

pub last_piece : (cs : Texts) → 1 ≤ length cs → last_of cs ≡ Ok (concat (slice_range cs (length cs - 1) (length cs)))
last_piece cs some =
    ap (or_fail OutOfList) (one_at cs (length cs - 1) (omega arith))
    ∙ ap (λ n. Ok (concat (slice_range cs (length cs - 1) n))) (omega arith)

-- ---- what stands in front, between and behind

front : (cs : Texts) (place : ℕ) → slice_range cs 0 place ≡ take place cs
front cs place = ap (λ k. take k cs) (omega arith)

spliced : (cs others : Texts) (from to : ℕ) →
    concat (splice cs from to others) ≡ concat (slice_range cs 0 from) ++ (concat others ++ concat (slice_range cs to (length cs)))
spliced cs others from to =
    concat-append (take from cs) (others ++ drop to cs)
    ∙ (ap (λ s. concat (take from cs) ++ s) (concat-append others (drop to cs))
    ∙ (ap (λ s. concat s ++ (concat others ++ concat (drop to cs))) (sym (front cs from))
    ∙ ap (λ s. concat (slice_range cs 0 from) ++ (concat others ++ concat s)) (sym (take_rest cs to))))

pub pieces_without : (number : ℤ) (cs : Texts) (place : ℕ) → Ok place ≡ place_below number (length cs) →
    outcome_map concat (without_at number cs) ≡ Ok (concat (slice_range cs 0 place) ++ ([] ++ concat (slice_range cs (place + 1) (length cs))))
pieces_without number cs place e =
    ap (λ o. outcome_map concat (and_then o (λ p. Ok (splice cs p (p + 1) [])))) (sym e) ∙ ap Ok (spliced cs [] place (place + 1))

pub pieces_replaced : (number : ℤ) (cs : Texts) (other : Bytes) (place : ℕ) → Ok place ≡ place_below number (length cs) →
    outcome_map concat (replaced_at number cs (other ∷ [])) ≡ Ok (concat (slice_range cs 0 place) ++ (other ++ concat (slice_range cs (place + 1) (length cs))))
pieces_replaced number cs other place e =
    ap (λ o. outcome_map concat (and_then o (λ p. Ok (splice cs p (p + 1) (other ∷ []))))) (sym e)
    ∙ (ap Ok (spliced cs (other ∷ []) place (place + 1)) ∙ ap (λ s. Ok (concat (slice_range cs 0 place) ++ (s ++ concat (slice_range cs (place + 1) (length cs))))) (append-nil other))

pub pieces_inserted : (number : ℤ) (cs : Texts) (other : Bytes) (place : ℕ) → Some place ≡ index_of number → place ≤ length cs →
    outcome_map concat (inserted_at number cs (other ∷ [])) ≡ Ok (concat (slice_range cs 0 place) ++ (other ++ concat (slice_range cs place (length cs))))
pieces_inserted number cs other place named within =
    let test : nat_lt place (length cs + 1) ≡ true = grind arith in
    ap (λ o. outcome_map concat (and_then (below (length cs + 1) o) (λ p. Ok (splice cs p p (other ∷ []))))) (sym named)
    ∙ (ap (λ b. outcome_map concat (and_then (if b then Ok place else Err OutOfList) (λ p. Ok (splice cs p p (other ∷ []))))) test
    ∙ (ap Ok (spliced cs (other ∷ []) place place) ∙ ap (λ s. Ok (concat (slice_range cs 0 place) ++ (s ++ concat (slice_range cs place (length cs))))) (append-nil other)))
