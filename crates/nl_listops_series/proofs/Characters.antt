-- The bytes of characters between two indices, as the code cuts them out.
use Rattle.std.proofs.Common.{◌≡◌, ℕ, zero, suc, ◌+◌, ◌-◌, ◌≤◌, true, false, Some, None, [], ◌∷◌, ◌++◌, length, map, take, drop, slice_range, refl, sym, ap, ◌∙◌, subst, arith, nat_le, if◌then◌else◌, append_assoc}
use Rattle.std.specs.List.{concat}
use Rattle.std.proofs.lemmas.List.{take-append-drop, length-append}
use Rattle.nl_fixed.specs.Nouns.{Bytes, Texts}
use Rattle.nl_fixed.specs.Characters.{characters, character_count, character_place, go_on, with_byte}
use Rattle.nl_value.specs.Plain.{PlainWords}
use Rattle.nl_value.specs.Living.{Living}
use Rattle.nl_value.specs.Text.{text_of}
use Rattle.nl_listops_series.specs.inner.Pieces.{before}
use Rattle.nl_listops_series.specs.Laws.{CharactersMakeTheText}

-- ---- characters joined are the text

joined_with : (byte : ℕ) (cs : Texts) → concat (with_byte byte cs) ≡ byte ∷ concat cs
joined_with byte [] = refl
joined_with byte (c ∷ cs) = refl

pub joined : (bytes : Bytes) → concat (characters bytes) ≡ bytes
unfolding characters
joined [] = refl
joined (byte ∷ bytes) =
    elim (go_on bytes) as (λ b. concat (if b then with_byte byte (characters bytes) else (byte ∷ []) ∷ characters bytes) ≡ byte ∷ bytes) [
      | true ↦ joined_with byte (characters bytes) ∙ ap (λ bs. byte ∷ bs) (joined bytes)
      | false ↦ ap (λ bs. byte ∷ bs) (joined bytes)
    ]

texts_of_words : (w : Living) (cs : Texts) → map (text_of w false) (map PlainWords cs) ≡ cs
texts_of_words w [] = refl
texts_of_words w (c ∷ cs) = ap (λ rest. c ∷ rest) (texts_of_words w cs)

pub characters_make : CharactersMakeTheText
characters_make w text = ap concat (texts_of_words w (characters text)) ∙ joined text

-- ---- lists of bytes end to end

pub concat-append : (xs ys : Texts) → concat (xs ++ ys) ≡ concat xs ++ concat ys
concat-append [] ys = refl
concat-append (x ∷ xs) ys = ap (λ s. x ++ s) (concat-append xs ys) ∙ sym (append_assoc x (concat xs) (concat ys))

cut : (cs : Texts) (n : ℕ) → concat cs ≡ concat (take n cs) ++ concat (drop n cs)
cut cs n = ap concat (sym (take-append-drop n cs)) ∙ concat-append (take n cs) (drop n cs)

pub drop_long : (xs ys : Bytes) → drop (length xs) (xs ++ ys) ≡ ys
drop_long [] ys = refl
drop_long (x ∷ xs) ys = drop_long xs ys

pub take_long : (xs ys : Bytes) → take (length xs) (xs ++ ys) ≡ xs
take_long [] ys = refl
take_long (x ∷ xs) ys = ap (λ s. x ∷ s) (take_long xs ys)

pub dropped : (cs : Texts) (n : ℕ) → drop (before cs n) (concat cs) ≡ concat (drop n cs)
dropped cs n = ap (drop (before cs n)) (cut cs n) ∙ drop_long (concat (take n cs)) (concat (drop n cs))

pub taken : (cs : Texts) (n : ℕ) → take (before cs n) (concat cs) ≡ concat (take n cs)
taken cs n = ap (take (before cs n)) (cut cs n) ∙ take_long (concat (take n cs)) (concat (drop n cs))

pub before_within : (cs : Texts) (n : ℕ) → before cs n ≤ length (concat cs)
before_within cs n = let e = ap length (cut cs n) in let s = length-append (concat (take n cs)) (concat (drop n cs)) in omega arith

abbrev no_texts : Texts
no_texts = []

take_none : (k : ℕ) → take k no_texts ≡ []
take_none zero = refl
take_none (suc k) = refl

drop_none : (k : ℕ) → drop k no_texts ≡ []
drop_none zero = refl
drop_none (suc k) = refl

-- the first m, and those behind them up to n, are the first n
take_split : (cs : Texts) (m n : ℕ) → m ≤ n → take n cs ≡ take m cs ++ take (n - m) (drop m cs)
take_split [] m n h = take_none n ∙ sym (ap (λ s. s ++ take (n - m) (drop m no_texts)) (take_none m) ∙ (ap (take (n - m)) (drop_none m) ∙ take_none (n - m)))
take_split (c ∷ cs) zero n h = ap (λ k. take k (c ∷ cs)) (omega arith)
take_split (c ∷ cs) (suc m) zero h = absurd (omega arith)
take_split (c ∷ cs) (suc m) (suc n) h = ap (λ s. c ∷ s) (take_split cs m n (omega arith) ∙ ap (λ k. take m cs ++ take k (drop m cs)) (omega arith))

before_split : (cs : Texts) (m n : ℕ) → m ≤ n → before cs n ≡ before cs m + length (concat (take (n - m) (drop m cs)))
before_split cs m n h =
    ap (λ s. length (concat s)) (take_split cs m n h)
    ∙ (ap length (concat-append (take m cs) (take (n - m) (drop m cs))) ∙ length-append (concat (take m cs)) (concat (take (n - m) (drop m cs))))

pub before_ordered : (cs : Texts) (m n : ℕ) → m ≤ n → before cs m ≤ before cs n
before_ordered cs m n h = let e = before_split cs m n h in omega arith

-- the bytes between are those of the characters between
pub sliced : (cs : Texts) (m n : ℕ) → m ≤ n → take (before cs n - before cs m) (drop (before cs m) (concat cs)) ≡ concat (slice_range cs m n)
sliced cs m n h =
    let size : before cs n - before cs m ≡ before (drop m cs) (n - m) = (let e = before_split cs m n h in omega arith) in
    ap (λ k. take k (drop (before cs m) (concat cs))) size ∙ (ap (take (before (drop m cs) (n - m))) (dropped cs m) ∙ taken (drop m cs) (n - m))

-- ---- places

pub place_is : (bytes : Bytes) (index : ℕ) → index ≤ character_count bytes → character_place bytes index ≡ Some (before (characters bytes) index)
unfolding character_place
place_is bytes index h =
    let test : nat_le index (character_count bytes) ≡ true = grind arith in
    ap (λ b. if b then Some (before (characters bytes) index) else None) test

pub text_place_within : (bytes : Bytes) (index : ℕ) → before (characters bytes) index ≤ length bytes
text_place_within bytes index = subst (λ bs. before (characters bytes) index ≤ length bs) (joined bytes) (before_within (characters bytes) index)

pub text_sliced : (bytes : Bytes) (m n start end : ℕ) → m ≤ n → start ≡ before (characters bytes) m → end ≡ before (characters bytes) n →
    take (end - start) (drop start bytes) ≡ concat (slice_range (characters bytes) m n)
text_sliced bytes m n start end h from to =
    ap (λ k. take (k - start) (drop start bytes)) to
    ∙ (ap (λ k. take (before (characters bytes) n - k) (drop k bytes)) from
    ∙ (ap (λ bs. take (before (characters bytes) n - before (characters bytes) m) (drop (before (characters bytes) m) bs)) (sym (joined bytes))
    ∙ sliced (characters bytes) m n h))
