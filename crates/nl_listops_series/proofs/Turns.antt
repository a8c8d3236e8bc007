-- Steps of a text that is turned round.
use Rattle.std.proofs.Common.{◌≡◌, ℕ, zero, suc, ◌+◌, ◌-◌, ◌<◌, ◌≤◌, ◌≢◌, Bool, true, false, ◌⊎◌, [], ◌∷◌, ◌++◌, length, take, drop, reverse, slice_range, slice_index, refl, sym, ap, ◌∙◌, subst, arith, inl, inr, if◌then◌else◌, ◌&&◌}
use Rattle.std.specs.List.{concat, list_all}
use Rattle.std.proofs.Math.Seq.{drop-cons}
use Rattle.std.proofs.lemmas.List.{append-nil, take-append-drop, drop-drop, reverse-append, drop_all}
use Rattle.nl_fixed.specs.Nouns.{Bytes, Texts}
use Rattle.nl_fixed.specs.Characters.{characters, go_on, goes_on, begins, with_byte}
use Rattle.nl_listops_series.specs.inner.Turning.{IsTurned}
use Rattle.nl_listops_series.proofs.Characters.{concat-append}

-- a byte with all that go on behind it is one character, where a new one begins behind them
one_character : (b : ℕ) (xs rest : Bytes) → list_all goes_on xs ≡ true → go_on rest ≡ false → characters (b ∷ (xs ++ rest)) ≡ (b ∷ xs) ∷ characters rest
unfolding characters
one_character b [] rest all begun = ap (λ g. if g then with_byte b (characters rest) else (b ∷ []) ∷ characters rest) begun
one_character b (x ∷ xs) rest all begun =
    let both = parts (goes_on x) (list_all goes_on xs) all in
    ap (λ g. if g then with_byte b (characters (x ∷ (xs ++ rest))) else (b ∷ []) ∷ characters (x ∷ (xs ++ rest))) both.0
    ∙ ap (with_byte b) (one_character x xs rest both.1 begun)
  where
    parts : (p q : Bool) → (p && q) ≡ true → (p ≡ true) × (q ≡ true)
    parts true q h = (refl, h)
    parts false q h = cc

concat-reverse : (c : Bytes) (cs : Texts) → concat (reverse (c ∷ cs)) ≡ concat (reverse cs) ++ c
concat-reverse c cs =
    ap concat (reverse-append (c ∷ []) cs) ∙ (concat-append (reverse cs) (c ∷ []) ∙ ap (λ s. concat (reverse cs) ++ s) (append-nil c))

-- what stands behind a byte: the rest up to the end, and from there on
behind : (bytes : Bytes) (place end : ℕ) → place < end → end ≤ length bytes →
    drop place bytes ≡ slice_index bytes place ∷ (slice_range bytes (suc place) end ++ drop end bytes)
behind bytes place end before within =
    let at : place < length bytes = omega arith in
    drop-cons bytes place 0 at
    ∙ ap (λ s. slice_index bytes place ∷ s)
    (sym (take-append-drop (end - suc place) (drop (suc place) bytes))
    ∙ ap (λ s. slice_range bytes (suc place) end ++ s) (joins bytes (end - suc place) (suc place) end (omega arith)))
  where
    joins : (bytes : Bytes) (m n k : ℕ) → n + m ≡ k → drop m (drop n bytes) ≡ drop k bytes
    joins bytes m n k e = grind (arith, drop-drop, e)

-- the part from a byte on
part : (bytes : Bytes) (place end : ℕ) → place < end → end ≤ length bytes →
    slice_range bytes place end ≡ slice_index bytes place ∷ slice_range bytes (suc place) end
part bytes place end before within =
    let at : place < length bytes = omega arith in
    ap (take (end - place)) (drop-cons bytes place 0 at) ∙ ap (λ k. take k (slice_index bytes place ∷ drop (suc place) bytes)) (next (end - place) (end - suc place) (omega arith))
  where
    next : (m n : ℕ) → m ≡ n + 1 → m ≡ suc n
    next m n e = omega arith

pub turned_none : (bytes : Bytes) → IsTurned bytes (length bytes) (length bytes) []
unfolding characters
turned_none bytes = record {
  ordered = omega arith;
  within = omega arith;
  so_far = sym (ap (λ bs. concat (reverse (characters bs))) gone);
  begun = λ some. ap go_on gone;
  pending = ap (λ k. list_all goes_on (take k (drop (length bytes) bytes))) (none_left (length bytes));
  whole = λ none. none;
}
  where
    none_left : (n : ℕ) → n - n ≡ 0
    none_left n = omega arith

    gone : drop (length bytes) bytes ≡ []
    gone = drop_all (length bytes) bytes (omega arith)

-- the byte before the place goes on
pub turned_past : (bytes turned : Bytes) (place end : ℕ) → IsTurned bytes place end turned → 0 < place → place - 1 ≢ 0 → begins (slice_index bytes (place - 1)) ≡ false →
    IsTurned bytes (place - 1) end turned
turned_past bytes turned zero end is some inner on = absurd (omega arith)
turned_past bytes turned (suc place) end is some inner on =
    subst (λ p. IsTurned bytes p end turned) (less place) record {
      ordered = (let o = is.ordered in omega arith);
      within = is.within;
      so_far = is.so_far;
      begun = is.begun;
      pending =
          ap (list_all goes_on) (part bytes place end (let o = is.ordered in omega arith) is.within)
          ∙ ap (λ b. b && list_all goes_on (slice_range bytes (suc place) end)) (goes (slice_index bytes place) (ap (λ p. begins (slice_index bytes p)) (less place) ∙ on))
          ∙ is.pending;
      whole = λ none. absurd (inner (sym (less place) ∙ none));
    }
  where
    less : (n : ℕ) → n ≡ suc n - 1
    less n = omega arith

    goes : (byte : ℕ) → begins byte ≡ false → goes_on byte ≡ true
    goes byte h = told (goes_on byte) h
      where
        told : (b : Bool) → (if b then false else true) ≡ false → b ≡ true
        told true e = refl
        told false e = cc

-- the byte before the place begins a character, or is the first of all
pub turned_more : (bytes turned : Bytes) (place end : ℕ) → IsTurned bytes place end turned → 0 < place → (place - 1 ≡ 0) ⊎ (begins (slice_index bytes (place - 1)) ≡ true) →
    IsTurned bytes (place - 1) (place - 1) (turned ++ take (end - (place - 1)) (drop (place - 1) bytes))
turned_more bytes turned zero end is some new = absurd (omega arith)
turned_more bytes turned (suc place) end is some new =
    subst (λ p. IsTurned bytes p p (turned ++ take (end - p) (drop p bytes))) (less place) record {
      ordered = omega arith;
      within = (let o = is.ordered in let w = is.within in omega arith);
      so_far =
          ap (λ t. t ++ slice_range bytes place end) is.so_far
          ∙ (ap (λ s. concat (reverse (characters (drop end bytes))) ++ s) (part bytes place end before is.within)
          ∙ (sym (concat-reverse (slice_index bytes place ∷ slice_range bytes (suc place) end) (characters (drop end bytes)))
          ∙ ap (λ cs. concat (reverse cs)) (sym (ap characters (behind bytes place end before is.within) ∙ one_character (slice_index bytes place) (slice_range bytes (suc place) end) (drop end bytes) is.pending (is.begun above)))));
      begun = λ later. ap go_on (behind bytes place end before is.within) ∙ stays later;
      pending = ap (λ k. list_all goes_on (take k (drop place bytes))) (none_left place);
      whole = λ none. none;
    }
  where
    less : (n : ℕ) → n ≡ suc n - 1
    less n = omega arith

    none_left : (n : ℕ) → n - n ≡ 0
    none_left n = omega arith

    before : place < end
    before = (let o = is.ordered in omega arith)

    above : 0 < end
    above = (let o = is.ordered in omega arith)

    told : (b : Bool) → (if b then false else true) ≡ true → b ≡ false
    told true e = cc
    told false e = refl

    stays : 0 < place → goes_on (slice_index bytes place) ≡ false
    stays later = elim new [
      | inl first ↦ absurd (let e : place ≡ 0 = less place ∙ first in omega arith)
      | inr begins_there ↦ told (goes_on (slice_index bytes place)) (ap (λ p. begins (slice_index bytes p)) (less place) ∙ begins_there)
    ]

pub turned_whole : (bytes turned : Bytes) (end : ℕ) → IsTurned bytes 0 end turned → turned ≡ concat (reverse (characters bytes))
turned_whole bytes turned end is = is.so_far ∙ ap (λ k. concat (reverse (characters (drop k bytes)))) (is.whole refl)
