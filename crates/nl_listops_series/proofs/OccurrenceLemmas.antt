-- Where a text has the characters of another one, told by bytes.
use Rattle.std.proofs.Common.{◌≡◌, ◌≢◌, ℕ, zero, suc, ◌+◌, ◌-◌, ◌<◌, ◌≤◌, Bool, true, false, ◌&&◌, Some, None, [], ◌∷◌, ◌++◌, length, take, drop, slice_index, not, ◌==◌, refl, sym, ap, ◌∙◌, arith, if◌then◌else◌, bytes_eq}
use Rattle.std.specs.List.{concat}
use Rattle.std.proofs.lemmas.Bool.{false≢true}
use Rattle.std.proofs.lemmas.Bool.Decides.{nat_tests}
use Rattle.std.proofs.lemmas.Slice.Eq.{bytes_eq-Decides}
use Rattle.std.proofs.lemmas.List.{take-append-drop, length-append, drop-drop, take_rest, drop_more, drop_all, length-drop}
use Rattle.std.specs.Cmp.Lexicographic.{pointwise}
use Rattle.nl_fixed.specs.Nouns.{Bytes, Texts}
use Rattle.nl_fixed.specs.Characters.{characters, go_on, goes_on, begins, with_byte}
use Rattle.nl_listops_series.specs.Searches.{begin_with, found_from, left_without, characters_without, text_without}
use Rattle.nl_listops_series.specs.inner.Pieces.{skipped}
use Rattle.nl_listops_series.proofs.Characters.{joined, concat-append, drop_long, take_long}

-- ---- tests of equal bytes

same_bytes : (xs ys : Bytes) → bytes_eq xs ys ≡ true → xs ≡ ys
same_bytes xs ys e = (bytes_eq-Decides xs ys).0 e

bytes_same : (xs : Bytes) → bytes_eq xs xs ≡ true
bytes_same xs = (bytes_eq-Decides xs xs).1 refl

both : (p q : Bool) → (p && q) ≡ true → (p ≡ true) × (q ≡ true)
both true q e = (refl, e)
both false q e = absurd (false≢true e)

same_texts : (xs ys : Texts) → pointwise bytes_eq xs ys ≡ true → xs ≡ ys
same_texts [] [] e = refl
same_texts [] (y ∷ ys) e = absurd (false≢true e)
same_texts (x ∷ xs) [] e = absurd (false≢true e)
same_texts (x ∷ xs) (y ∷ ys) e =
    let parts = both (bytes_eq x y) (pointwise bytes_eq xs ys) e in
    let first = same_bytes x y parts.0 in
    let others = same_texts xs ys parts.1 in
    cc

texts_same : (xs : Texts) → pointwise bytes_eq xs xs ≡ true
texts_same [] = refl
texts_same (x ∷ xs) = ap (λ b. b && pointwise bytes_eq xs xs) (bytes_same x) ∙ texts_same xs

front_of_texts : (xs ys : Texts) → take (length xs) (xs ++ ys) ≡ xs
front_of_texts [] ys = refl
front_of_texts (x ∷ xs) ys = ap (λ s. x ∷ s) (front_of_texts xs ys)

rest_of_texts : (xs ys : Texts) → drop (length xs) (xs ++ ys) ≡ ys
rest_of_texts [] ys = refl
rest_of_texts (x ∷ xs) ys = rest_of_texts xs ys

-- ---- characters of texts end to end

-- a text that isn't empty has a first character, and behind it those of what is left
pub first_character_is : (b : ℕ) (bs : Bytes) → (front : Bytes) × (characters (b ∷ bs) ≡ (b ∷ front) ∷ characters (skipped bs)) × (b ∷ bs ≡ (b ∷ front) ++ skipped bs)
unfolding characters
first_character_is b [] = ([], refl, refl)
first_character_is b (c ∷ cs) =
    let inner = first_character_is c cs in
    by (goes_on c) refl inner.0 inner.1 inner.2
  where
    by : (g : Bool) → goes_on c ≡ g → (front : Bytes) → characters (c ∷ cs) ≡ (c ∷ front) ∷ characters (skipped cs) → c ∷ cs ≡ (c ∷ front) ++ skipped cs →
        (front : Bytes) × (characters (b ∷ (c ∷ cs)) ≡ (b ∷ front) ∷ characters (skipped (c ∷ cs))) × (b ∷ (c ∷ cs) ≡ (b ∷ front) ++ skipped (c ∷ cs))
    by true g front is whole = (
      c ∷ front,
      ap (λ t. if t then with_byte b (characters (c ∷ cs)) else (b ∷ []) ∷ characters (c ∷ cs)) g ∙ (ap (with_byte b) is ∙ ap (λ t. (b ∷ (c ∷ front)) ∷ characters (if t then skipped cs else c ∷ cs)) (sym g)),
      ap (λ s. b ∷ s) whole ∙ ap (λ t. (b ∷ (c ∷ front)) ++ (if t then skipped cs else c ∷ cs)) (sym g),
    )
    by false g front is whole = (
      [],
      ap (λ t. if t then with_byte b (characters (c ∷ cs)) else (b ∷ []) ∷ characters (c ∷ cs)) g ∙ ap (λ t. (b ∷ []) ∷ characters (if t then skipped cs else c ∷ cs)) (sym g),
      ap (λ t. b ∷ (if t then skipped cs else c ∷ cs)) (sym g),
    )

two_and_more : (b c : ℕ) (p rest : Bytes) (g : Bool) → characters (c ∷ (p ++ rest)) ≡ characters (c ∷ p) ++ characters rest →
    (if g then with_byte b (characters (c ∷ (p ++ rest))) else (b ∷ []) ∷ characters (c ∷ (p ++ rest))) ≡ (if g then with_byte b (characters (c ∷ p)) else (b ∷ []) ∷ characters (c ∷ p)) ++ characters rest
two_and_more b c p rest true inner =
    let first = first_character_is c p in
    ap (with_byte b) (inner ∙ ap (λ s. s ++ characters rest) first.1) ∙ ap (λ s. with_byte b s ++ characters rest) (sym first.1)
two_and_more b c p rest false inner = ap (λ s. (b ∷ []) ∷ s) inner

pub characters-append : (p rest : Bytes) → go_on rest ≡ false → characters (p ++ rest) ≡ characters p ++ characters rest
unfolding characters
characters-append [] rest h = refl
characters-append (b ∷ []) rest h = ap (λ g. if g then with_byte b (characters rest) else (b ∷ []) ∷ characters rest) h
characters-append (b ∷ (c ∷ p)) rest h = two_and_more b c p rest (goes_on c) (characters-append (c ∷ p) rest h)

drop_none : (n : ℕ) (cs : Texts) → cs ≡ [] → drop n cs ≡ []
drop_none zero cs e = e
drop_none (suc n) [] e = refl
drop_none (suc n) (c ∷ cs) e = cc

with_byte-drop : (b : ℕ) (cs : Texts) (n : ℕ) → drop (suc n) (with_byte b cs) ≡ drop (suc n) cs
with_byte-drop b [] n = drop_none n [] refl
with_byte-drop b (c ∷ cs) n = refl

new_step : (b : ℕ) (bs : Bytes) (n : ℕ) (g : Bool) → go_on bs ≡ g → ((m : ℕ) → go_on (concat (drop (suc m) (characters bs))) ≡ false) →
    go_on (concat (drop (suc n) (if g then with_byte b (characters bs) else (b ∷ []) ∷ characters bs))) ≡ false
new_step b bs n true is inner = ap (λ cs. go_on (concat cs)) (with_byte-drop b (characters bs) n) ∙ inner n
new_step b bs zero false is inner = ap go_on (joined bs) ∙ is
new_step b bs (suc n) false is inner = inner n

-- behind one character or more a new one begins
new_behind : (s : Bytes) (n : ℕ) → go_on (concat (drop (suc n) (characters s))) ≡ false
unfolding characters
new_behind [] n = refl
new_behind (b ∷ bs) n = new_step b bs n (go_on bs) refl (λ m. new_behind bs m)

-- ---- a text begins with the characters of another one exactly where it begins with its bytes, and a new character follows

pub occurs : (p s : Bytes) → take (length p) s ≡ p → go_on (drop (length p) s) ≡ false → begin_with (characters p) (characters s) ≡ true
occurs p s same new =
    let split : s ≡ p ++ drop (length p) s = sym (take-append-drop (length p) s) ∙ ap (λ t. t ++ drop (length p) s) same in
    ap (λ t. begin_with (characters p) (characters t)) split
    ∙ (ap (begin_with (characters p)) (characters-append p (drop (length p) s) new)
    ∙ (ap (pointwise bytes_eq (characters p)) (front_of_texts (characters p) (characters (drop (length p) s))) ∙ texts_same (characters p)))

pub record Occurs (p s : Bytes) : Type 0 where
  pub long : length p ≤ length s
  pub same : take (length p) s ≡ p
  pub new : go_on (drop (length p) s) ≡ false
  pub rest : characters (drop (length p) s) ≡ drop (length (characters p)) (characters s)

some_characters : (p : Bytes) → p ≢ [] → (n : ℕ) × (length (characters p) ≡ suc n)
some_characters [] some = absurd (some refl)
some_characters (b ∷ p) some = let first = first_character_is b p in (length (characters (skipped p)), ap length first.1)

pub occurs_told : (p s : Bytes) → p ≢ [] → begin_with (characters p) (characters s) ≡ true → Occurs p s
occurs_told p s some test =
    let n = length (characters p) in
    let behind = drop n (characters s) in
    let front : characters p ≡ take n (characters s) = same_texts (characters p) (take n (characters s)) test in
    let split : characters s ≡ characters p ++ behind = sym (take-append-drop n (characters s)) ∙ ap (λ t. t ++ behind) (sym front) in
    let whole : s ≡ p ++ concat behind = sym (joined s) ∙ (ap concat split ∙ (concat-append (characters p) behind ∙ ap (λ t. t ++ concat behind) (joined p))) in
    let long = ap length whole ∙ length-append p (concat behind) in
    let dropped : drop (length p) s ≡ concat behind = ap (drop (length p)) whole ∙ drop_long p (concat behind) in
    let count = some_characters p some in
    let new : go_on (concat behind) ≡ false = ap (λ k. go_on (concat (drop k (characters s)))) count.1 ∙ new_behind s count.0 in
    record {
      long = omega arith;
      same = ap (take (length p)) whole ∙ take_long p (concat behind);
      new = ap go_on dropped ∙ new;
      rest =
          ap characters dropped
          ∙ (sym (rest_of_texts (characters p) (characters (concat behind)))
          ∙ ap (drop n) (sym (ap characters whole ∙ characters-append p (concat behind) new)));
    }

-- what refutes it
pub occurs_not : (p s : Bytes) → p ≢ [] → (Occurs p s → ⊥) → begin_with (characters p) (characters s) ≡ false
occurs_not p s some never = by (begin_with (characters p) (characters s)) refl
  where
    by : (b : Bool) → begin_with (characters p) (characters s) ≡ b → b ≡ false
    by true is = absurd (never (occurs_told p s some is))
    by false is = refl

pub empty_begins : (s : Bytes) → begin_with (characters []) (characters s) ≡ true
unfolding characters
empty_begins s = refl

-- ---- the cases of the code's test

not_empty : (p : Bytes) (n : ℕ) → n < length p → p ≢ []
not_empty [] n h = absurd (omega arith)
not_empty (b ∷ p) n h = λ e. cc

pub occurs_short : (p s : Bytes) → length s < length p → begin_with (characters p) (characters s) ≡ false
occurs_short p s short = occurs_not p s (not_empty p (length s) short) (λ is. let long = is.long in omega arith)

-- other bytes in front
pub occurs_other : (p s : Bytes) → not (bytes_eq (take (length p) s) p) ≡ true → begin_with (characters p) (characters s) ≡ false
occurs_other [] s other = absurd (false≢true other)
occurs_other (b ∷ p) s other =
    occurs_not (b ∷ p) s (λ e. cc) (λ is. let same = (bytes_eq-Decides (take (length (b ∷ p)) s) (b ∷ p)).1 is.same in absurd (false≢true (ap not (sym same) ∙ other)))

-- the same bytes at the end
pub occurs_last : (p s : Bytes) → not (bytes_eq (take (length p) s) p) ≡ false → length (drop (length p) s) < 1 → begin_with (characters p) (characters s) ≡ true
occurs_last p s same none = occurs p s ((bytes_eq-Decides (take (length p) s) p).0 (unturned (bytes_eq (take (length p) s) p) same)) (at_end (drop (length p) s) none)
  where
    unturned : (b : Bool) → not b ≡ false → b ≡ true
    unturned true e = refl
    unturned false e = absurd (false≢true (sym e))

    at_end : (rest : Bytes) → length rest < 1 → go_on rest ≡ false
    at_end [] h = refl
    at_end (b ∷ rest) h = absurd (omega arith)

-- the same bytes before another one: it decides
pub occurs_before : (p s back : Bytes) → p ≢ [] → not (bytes_eq (take (length p) s) p) ≡ false → back ≡ drop (length p) s → 1 ≤ length back →
    begins (slice_index back 0) ≡ begin_with (characters p) (characters s)
occurs_before p s back some same is more = by (go_on back) refl
  where
    unturned : (b : Bool) → not b ≡ false → b ≡ true
    unturned true e = refl
    unturned false e = absurd (false≢true (sym e))

    front : take (length p) s ≡ p
    front = (bytes_eq-Decides (take (length p) s) p).0 (unturned (bytes_eq (take (length p) s) p) same)

    head : (bs : Bytes) (g : Bool) → 1 ≤ length bs → go_on bs ≡ g → begins (slice_index bs 0) ≡ (if g then false else true)
    head [] g h e = absurd (omega arith)
    head (b ∷ bs) g h e = ap (λ t. if t then false else true) e

    by : (g : Bool) → go_on back ≡ g → begins (slice_index back 0) ≡ begin_with (characters p) (characters s)
    by true e = head back true more e ∙ sym (occurs_not p s some (λ told. absurd (false≢true (sym told.new ∙ (ap go_on (sym is) ∙ e)))))
    by false e = head back false more e ∙ sym (occurs p s front (ap go_on (sym is) ∙ e))

not_none : (n : ℕ) → (suc n == 0) ≡ false
not_none n = grind (arith, nat_tests)

pub empty_test : (p s : Bytes) → (length p == 0) ≡ true → begin_with (characters p) (characters s) ≡ true
empty_test [] s e = empty_begins s
empty_test (b ∷ p) s e = absurd (false≢true (sym (not_none (length p)) ∙ e))

pub some_test : (p : Bytes) → (length p == 0) ≡ false → p ≢ []
some_test [] e = absurd (false≢true (sym e))
some_test (b ∷ p) e = λ is. cc

-- ---- the search goes on behind a character

pub found_here : (place : ℕ) (part s : Bytes) → begin_with (characters part) (characters s) ≡ true → found_from place (characters part) (characters s) ≡ Some place
found_here place part s is = here (characters s) is
  where
    here : (cs : Texts) → begin_with (characters part) cs ≡ true → found_from place (characters part) cs ≡ Some place
    here [] e = ap (λ b. if b then Some place else None) e
    here (c ∷ cs) e = ap (λ b. if b then Some place else found_from (place + 1) (characters part) cs) e

pub found_behind : (place : ℕ) (part : Bytes) (b : ℕ) (bs s : Bytes) → s ≡ b ∷ bs → begin_with (characters part) (characters s) ≡ false →
    found_from place (characters part) (characters s) ≡ found_from (place + 1) (characters part) (characters (skipped bs))
found_behind place part b bs s is not_here =
    let first = first_character_is b bs in
    let seen : characters s ≡ (b ∷ first.0) ∷ characters (skipped bs) = ap characters is ∙ first.1 in
    ap (found_from place (characters part)) seen
    ∙ ap (λ t. if t then Some place else found_from (place + 1) (characters part) (characters (skipped bs))) (ap (begin_with (characters part)) (sym seen) ∙ not_here)

pub found_at_end : (place : ℕ) (part s : Bytes) → s ≡ [] → (length part == 0) ≡ true → found_from place (characters part) (characters s) ≡ Some place
unfolding characters
found_at_end place [] s is none = ap (λ t. found_from place (characters []) (characters t)) is
found_at_end place (b ∷ part) s is none = absurd (false≢true (sym (not_none (length part)) ∙ none))

pub found_nowhere : (place : ℕ) (part s : Bytes) → s ≡ [] → part ≢ [] → found_from place (characters part) (characters s) ≡ None
unfolding characters
found_nowhere place [] s is some = absurd (some refl)
found_nowhere place (b ∷ part) s is some =
    let first = first_character_is b part in
    ap (λ t. found_from place (characters (b ∷ part)) (characters t)) is ∙ ap (λ cs. found_from place cs []) first.1

-- ---- what is left without the occurrences

left_by : (n : ℕ) (others cs : Texts) → left_without n others cs ≡ left_without 0 others (drop n cs)
left_by zero others cs = refl
left_by (suc n) others [] = refl
left_by (suc n) others (c ∷ cs) = left_by n others cs

left_found : (others cs : Texts) (n : ℕ) → length others ≡ suc n → begin_with others cs ≡ true → left_without 0 others cs ≡ left_without 0 others (drop (length others) cs)
left_found others [] n long test = sym (ap (left_without 0 others) (drop_none (length others) [] refl))
left_found others (c ∷ cs) n long test =
    let less : length others - 1 ≡ n = omega arith in
    ap (λ t. if t then left_without (length others - 1) others cs else c ∷ left_without 0 others cs) test
    ∙ (ap (λ k. left_without k others cs) less ∙ (left_by n others cs ∙ ap (λ k. left_without 0 others (drop k (c ∷ cs))) (sym long)))

pub left_behind : (part s : Bytes) → part ≢ [] → begin_with (characters part) (characters s) ≡ true →
    left_without 0 (characters part) (characters s) ≡ left_without 0 (characters part) (characters (drop (length part) s))
left_behind part s some is =
    let told = occurs_told part s some is in
    let count = some_characters part some in
    left_found (characters part) (characters s) count.0 count.1 is ∙ ap (left_without 0 (characters part)) (sym told.rest)

-- a character that stays, as the code cuts it out
pub left_one : (part : Bytes) (b : ℕ) (bs s : Bytes) (size : ℕ) → s ≡ b ∷ bs → begin_with (characters part) (characters s) ≡ false → skipped bs ≡ drop size s →
    length s ≡ size + length (skipped bs) →
    concat (left_without 0 (characters part) (characters s)) ≡ take size s ++ concat (left_without 0 (characters part) (characters (skipped bs)))
left_one part b bs s size is stays behind long =
    let first = first_character_is b bs in
    let seen : characters s ≡ (b ∷ first.0) ∷ characters (skipped bs) = ap characters is ∙ first.1 in
    let whole : s ≡ (b ∷ first.0) ++ skipped bs = is ∙ first.2 in
    let lengths = ap length whole ∙ length-append (b ∷ first.0) (skipped bs) in
    let same : size ≡ length (b ∷ first.0) = omega arith in
    let cut : take size s ≡ b ∷ first.0 = ap (λ k. take k s) same ∙ (ap (take (length (b ∷ first.0))) whole ∙ take_long (b ∷ first.0) (skipped bs)) in
    ap (λ cs. concat (left_without 0 (characters part) cs)) seen
    ∙ (ap (λ t. concat (if t then left_without (length (characters part) - 1) (characters part) (characters (skipped bs)) else (b ∷ first.0) ∷ left_without 0 (characters part) (characters (skipped bs)))) (ap (begin_with (characters part)) (sym seen) ∙ stays)
    ∙ ap (λ t. t ++ concat (left_without 0 (characters part) (characters (skipped bs)))) (sym cut))

-- ---- the code's slices

-- what stands from a place on, as a slice to the end
pub slice_test : (part bytes : Bytes) (place : ℕ) (b : Bool) → b ≡ begin_with (characters part) (characters (take (length bytes - place) (drop place bytes))) →
    begin_with (characters part) (characters (drop place bytes)) ≡ b
slice_test part bytes place b is = ap (λ s. begin_with (characters part) (characters s)) (sym (take_rest bytes place)) ∙ sym is

pub at_place : (bytes : Bytes) (place : ℕ) → place < length bytes → drop place bytes ≡ slice_index bytes place ∷ drop (place + 1) bytes
at_place bytes place h = drop_more bytes place 0 h

pub past_end : (bytes : Bytes) (place : ℕ) → length bytes ≤ place → drop place bytes ≡ []
past_end bytes place h = drop_all place bytes h

pub without_more : (part bytes : Bytes) (place : ℕ) →
    left_without 0 (characters part) (characters (drop (length part) (drop place bytes))) ≡ left_without 0 (characters part) (characters (drop (place + length part) bytes))
without_more part bytes place = ap (λ s. left_without 0 (characters part) (characters s)) (drop-drop (length part) place bytes)

pub shorter_by : (bytes : Bytes) (place n : ℕ) → place ≤ length bytes → n ≤ length (drop place bytes) → place + n ≤ length bytes
shorter_by bytes place n within long = let rest = length-drop place bytes in omega arith

-- the empty text takes nothing away
pub without_empty : (part text : Bytes) → (length part == 0) ≡ true → text_without part text ≡ text
unfolding characters
without_empty [] text none = joined text
without_empty (b ∷ part) text none = absurd (false≢true (sym (not_none (length part)) ∙ none))

pub without_some : (part text : Bytes) → part ≢ [] → text_without part text ≡ concat (left_without 0 (characters part) (characters text))
without_some [] text some = absurd (some refl)
without_some (b ∷ part) text some =
    let first = first_character_is b part in
    ap (λ cs. concat (characters_without cs (characters text))) first.1 ∙ ap (λ cs. concat (left_without 0 cs (characters text))) (sym first.1)

pub left_end : (part s : Bytes) → s ≡ [] → concat (left_without 0 (characters part) (characters s)) ≡ []
unfolding characters
left_end part s is = ap (λ t. concat (left_without 0 (characters part) (characters t))) is

-- a character that stays, between two places
pub left_between : (part bytes : Bytes) (place end : ℕ) → place < end → end ≤ length bytes → begin_with (characters part) (characters (drop place bytes)) ≡ false →
    drop end bytes ≡ skipped (drop (place + 1) bytes) →
    concat (left_without 0 (characters part) (characters (drop place bytes))) ≡ take (end - place) (drop place bytes) ++ concat (left_without 0 (characters part) (characters (drop end bytes)))
left_between part bytes place end behind within stays is =
    let at : drop place bytes ≡ slice_index bytes place ∷ drop (place + 1) bytes = at_place bytes place (omega arith) in
    let rest : skipped (drop (place + 1) bytes) ≡ drop (end - place) (drop place bytes) = sym is ∙ sym (drop-drop (end - place) place bytes ∙ ap (λ k. drop k bytes) (omega arith)) in
    let whole = length-drop place bytes in
    let last = length-drop end bytes in
    let same = ap length is in
    left_one part (slice_index bytes place) (drop (place + 1) bytes) (drop place bytes) (end - place) at stays rest (omega arith)
    ∙ ap (λ s. take (end - place) (drop place bytes) ++ concat (left_without 0 (characters part) (characters s))) (sym is)
