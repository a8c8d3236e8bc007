-- The characters of texts.
use Rattle.std.proofs.Common.{◌≡◌, ℕ, zero, suc, ◌+◌, ◌<◌, ◌≤◌, Bool, true, false, cond, Option, Some, None, List, [], ◌∷◌, ◌++◌, length, take, drop, refl, sym, ap, ◌∙◌, arith, inl, inr, leb, ltb, ◌-◌, ◌/◌, ◌%◌, map, ◌==◌, get_or, add-one, drop-cons}
use Rattle.std.proofs.lemmas.Bool.{cases_lt}
use Rattle.std.proofs.lemmas.Bool.Decides.{nat_tests}
use Rattle.std.proofs.lemmas.List.{take-append-drop}
use Rattle.std.proofs.lemmas.List.Folds.{concat-append}
use Rattle.std.proofs.lemmas.List.Sums.{sum_by-cons}
use Rattle.std.proofs.lemmas.Str.{chars_from_encodes}
use Rattle.std.proofs.Math.ListN.{drop_of_length-le}
use Rattle.std.proofs.Math.Seq.{take-length, take-append_seam, drop-append_seam}
use lib.Utf8.{encode, encodes, next}
use Rattle.std.specs.List.{concat, list_all, count_by}
use Rattle.std.specs.Option.{option_map}
use Rattle.nl_fixed.specs.Nouns.{Bytes, Texts}
use Rattle.nl_fixed.specs.Characters.{goes_on, begins, go_on, with_byte, characters, character_count, character_place, IsCharacter, AreCharacters, CharactersJoin, CharactersAreUnique, PlacesCut, CharactersAreScalars}
use Rattle.nl_fixed.specs.inner.Beginnings.{beginning_place}
use Rattle.nl_fixed.proofs.Digits.{first_and_rest}

-- ---- one character and what follows

pub characters_one : (byte : ℕ) (bytes rest : Bytes) → list_all goes_on bytes ≡ true → go_on rest ≡ false → characters (byte ∷ (bytes ++ rest)) ≡ (byte ∷ bytes) ∷ characters rest
unfolding characters
characters_one byte [] rest all ends = rw ends refl
characters_one byte (next ∷ bytes) rest all ends =
    let parts = first_and_rest (goes_on next) (list_all goes_on bytes) all in
    rw (parts.0, characters_one next bytes rest parts.1 ends) refl

pub characters_are_unique : CharactersAreUnique
unfolding characters
characters_are_unique [] are = refl
characters_are_unique ([] ∷ texts) are = absurd are.0
characters_are_unique ((byte ∷ bytes) ∷ texts) are =
    characters_one byte bytes (concat texts) are.0 are.1 ∙ ap (λ xs. (byte ∷ bytes) ∷ xs) (characters_are_unique texts are.2)

-- ---- the characters are such

-- characters, and the text that they join to
pub record Join (texts : Texts) (bytes : Bytes) : Type 0 where
  pub are : AreCharacters texts
  pub joined : concat texts ≡ bytes

join_on : (byte : ℕ) (texts : Texts) (bytes : Bytes) → go_on bytes ≡ true → Join texts bytes → Join (with_byte byte texts) (byte ∷ bytes)
join_on byte [] bytes on join = absurd (let never : false ≡ true = rw (← join.joined) at on in cc)
join_on byte ([] ∷ texts) bytes on join = absurd join.are.0
join_on byte ((first ∷ rest) ∷ texts) bytes on join =
    let begins : goes_on first ≡ true = rw (← join.joined) at on in
    record { are = (rw begins join.are.0, join.are.1, join.are.2); joined = ap (λ bs. byte ∷ bs) join.joined }

join_new : (byte : ℕ) (texts : Texts) (bytes : Bytes) → go_on bytes ≡ false → Join texts bytes → Join ((byte ∷ []) ∷ texts) (byte ∷ bytes)
join_new byte texts bytes ends join =
    record { are = (refl, rw join.joined ends, join.are); joined = ap (λ bs. byte ∷ bs) join.joined }

join_by : (byte : ℕ) (texts : Texts) (bytes : Bytes) (test : Bool) → go_on bytes ≡ test → Join texts bytes → Join (cond test (with_byte byte texts) ((byte ∷ []) ∷ texts)) (byte ∷ bytes)
join_by byte texts bytes true on join = join_on byte texts bytes on join
join_by byte texts bytes false ends join = join_new byte texts bytes ends join

pub characters_are : (bytes : Bytes) → Join (characters bytes) bytes
unfolding characters
characters_are [] = record { are = tt; joined = refl }
characters_are (byte ∷ bytes) = join_by byte (characters bytes) bytes (go_on bytes) refl (characters_are bytes)

pub characters_join : CharactersJoin
characters_join bytes = let join = characters_are bytes in (join.are, join.joined)

-- ---- how many there are

length-with_byte : (byte : ℕ) (texts : Texts) → 0 < length texts → length (with_byte byte texts) ≡ length texts
length-with_byte byte [] some = absurd (omega arith)
length-with_byte byte (first ∷ rest) some = refl

count_more : (next : ℕ) (bytes : Bytes) (test : Bool) → goes_on next ≡ test → count_by begins (next ∷ bytes) ≡ cond test 0 1 + count_by begins bytes
count_more next bytes true on = sum_by-cons (λ x. cond (begins x) 1 0) next bytes ∙ ap (λ t. cond (cond t false true) 1 0 + count_by begins bytes) on
count_more next bytes false new = sum_by-cons (λ x. cond (begins x) 1 0) next bytes ∙ ap (λ t. cond (cond t false true) 1 0 + count_by begins bytes) new

count_on : (byte next : ℕ) (bytes : Bytes) (test : Bool) → goes_on next ≡ test → length (characters (next ∷ bytes)) ≡ 1 + count_by begins bytes → length (cond test (with_byte byte (characters (next ∷ bytes))) ((byte ∷ []) ∷ characters (next ∷ bytes))) ≡ 1 + count_by begins (next ∷ bytes)
count_on byte next bytes true on rest =
    let more : count_by begins (next ∷ bytes) ≡ 0 + count_by begins bytes = count_more next bytes true on in
    let same : length (with_byte byte (characters (next ∷ bytes))) ≡ length (characters (next ∷ bytes)) = length-with_byte byte (characters (next ∷ bytes)) (omega arith) in
    omega arith
count_on byte next bytes false new rest =
    let more : count_by begins (next ∷ bytes) ≡ 1 + count_by begins bytes = count_more next bytes false new in
    omega arith

character_count-cons : (byte : ℕ) (bytes : Bytes) → length (characters (byte ∷ bytes)) ≡ 1 + count_by begins bytes
unfolding characters
character_count-cons byte [] = refl
character_count-cons byte (next ∷ bytes) = count_on byte next bytes (goes_on next) refl (character_count-cons next bytes)

character_count-some : (bytes : Bytes) → 0 < length bytes → character_count bytes ≡ 1 + count_by begins (drop 1 bytes)
character_count-some [] some = absurd (omega arith)
character_count-some (byte ∷ bytes) some = character_count-cons byte bytes

character_count-none : (bytes : Bytes) → length bytes ≡ 0 → character_count bytes ≡ 0
unfolding characters
character_count-none [] none = refl
character_count-none (byte ∷ bytes) none = absurd (omega arith)

-- ---- where they begin

abbrev place_in : Texts → ℕ → Option ℕ
place_in texts index = cond (leb index (length texts)) (Some (length (concat (take index texts)))) None

place_in-zero : (texts : Texts) → place_in texts 0 ≡ Some 0
place_in-zero texts = let low : leb 0 (length texts) ≡ true = grind (arith, nat_tests) in rw low refl

place_by : (byte : ℕ) (first : Bytes) (rest : Texts) (n : ℕ) (test : Bool) → cond test (Some (length ((byte ∷ first) ++ concat (take n rest)))) None ≡ option_map suc (cond test (Some (length (first ++ concat (take n rest)))) None)
place_by byte first rest n true = refl
place_by byte first rest n false = refl

place_in-with_byte : (byte : ℕ) (texts : Texts) (n : ℕ) → 0 < length texts → place_in (with_byte byte texts) (suc n) ≡ option_map suc (place_in texts (suc n))
place_in-with_byte byte [] n some = absurd (omega arith)
place_in-with_byte byte (first ∷ rest) n some = place_by byte first rest n (leb (suc n) (suc (length rest)))

leb-suc : (m n : ℕ) → leb (suc m) (suc n) ≡ leb m n
leb-suc m n =
    elim (cases_lt n m) [
      | inl above ↦ (let a : leb m n ≡ false = grind (arith, nat_tests) in let b : leb (suc m) (suc n) ≡ false = grind (arith, nat_tests) in cc)
      | inr least ↦ (let a : leb m n ≡ true = grind (arith, nat_tests) in let b : leb (suc m) (suc n) ≡ true = grind (arith, nat_tests) in cc)
    ]

place_in-new : (byte : ℕ) (texts : Texts) (n : ℕ) → place_in ((byte ∷ []) ∷ texts) (suc n) ≡ option_map suc (place_in texts n)
place_in-new byte texts n = rw (leb-suc n (length texts)) (place_by byte [] texts n (leb n (length texts)))

place_on : (byte next : ℕ) (bytes : Bytes) (n : ℕ) (test : Bool) → goes_on next ≡ test → 0 < length (characters (next ∷ bytes)) → ((m : ℕ) → place_in (characters (next ∷ bytes)) (suc m) ≡ option_map suc (beginning_place bytes m)) → place_in (cond test (with_byte byte (characters (next ∷ bytes))) ((byte ∷ []) ∷ characters (next ∷ bytes))) (suc n) ≡ option_map suc (beginning_place (next ∷ bytes) n)
unfolding beginning_place
place_on byte next bytes n true on some rest =
    rw on (place_in-with_byte byte (characters (next ∷ bytes)) n some ∙ ap (λ o. option_map suc o) (rest n))
place_on byte next bytes zero false new some rest =
    rw new (place_in-new byte (characters (next ∷ bytes)) zero ∙ ap (λ o. option_map suc o) (place_in-zero (characters (next ∷ bytes))))
place_on byte next bytes (suc n) false new some rest =
    let less : suc n - 1 ≡ n = omega arith in
    let more : (suc n == 0) ≡ false = grind (arith, nat_tests) in
    rw (new, more, less) (place_in-new byte (characters (next ∷ bytes)) (suc n) ∙ ap (λ o. option_map suc o) (rest n))

character_place-cons : (byte : ℕ) (bytes : Bytes) (n : ℕ) → place_in (characters (byte ∷ bytes)) (suc n) ≡ option_map suc (beginning_place bytes n)
unfolding characters beginning_place
character_place-cons byte [] zero = refl
character_place-cons byte [] (suc n) =
    let above : leb (suc (suc n)) 1 ≡ false = grind (arith, nat_tests) in
    let more : (suc n == 0) ≡ false = grind (arith, nat_tests) in
    rw (above, more) refl
character_place-cons byte (next ∷ bytes) n =
    let some : 0 < length (characters (next ∷ bytes)) = omega (arith, character_count-cons next bytes) in
    place_on byte next bytes n (goes_on next) refl some (character_place-cons next bytes)

pub character_place-zero : (bytes : Bytes) → character_place bytes 0 ≡ Some 0
unfolding character_place
character_place-zero bytes = place_in-zero (characters bytes)

character_place-none : (bytes : Bytes) (n : ℕ) → length bytes ≡ 0 → 0 < n → character_place bytes n ≡ None
unfolding character_place characters
character_place-none [] n none some =
    let above : leb n 0 ≡ false = grind (arith, nat_tests) in
    rw above refl
character_place-none (byte ∷ bytes) n none some = absurd (omega arith)

character_place-some : (bytes : Bytes) (n : ℕ) → 0 < length bytes → 0 < n → character_place bytes n ≡ option_map suc (beginning_place (drop 1 bytes) (n - 1))
unfolding character_place
character_place-some [] n some above = absurd (omega arith)
character_place-some (byte ∷ bytes) zero some above = absurd (omega arith)
character_place-some (byte ∷ bytes) (suc n) some above =
    let less : suc n - 1 ≡ n = omega arith in
    rw less (character_place-cons byte bytes n)

-- ---- the search for a beginning

shift : (place : ℕ) (found : Option ℕ) → option_map (λ k. place + k) (option_map suc found) ≡ option_map (λ k. place + 1 + k) found
shift place None = refl
shift place (Some k) = ap Some (omega arith)

abbrev pub found_from : Bytes → ℕ → ℕ → Option ℕ
found_from bytes place left = option_map (λ k. place + k) (beginning_place (drop place bytes) left)

pub search_begun : (bytes : Bytes) (n : ℕ) → beginning_place bytes n ≡ option_map (λ k. 0 + k) (beginning_place bytes n)
search_begun bytes n = by (beginning_place bytes n)
  where
    by : (found : Option ℕ) → found ≡ option_map (λ k. 0 + k) found
    by None = refl
    by (Some k) = ap Some (omega arith)

pub search_past : (bytes : Bytes) (place left : ℕ) → place < length bytes → begins (get_or bytes place 0) ≡ false → found_from bytes place left ≡ found_from bytes (place + 1) left
unfolding beginning_place
search_past bytes place left within is =
    let cut : drop place bytes ≡ get_or bytes place 0 ∷ drop (place + 1) bytes = rw (add-one) (drop-cons bytes place 0 within) in
    rw cut (rw is (shift place (beginning_place (drop (place + 1) bytes) left)))

pub search_counted : (bytes : Bytes) (place left : ℕ) → place < length bytes → begins (get_or bytes place 0) ≡ true → 0 < left → found_from bytes place left ≡ found_from bytes (place + 1) (left - 1)
unfolding beginning_place
search_counted bytes place left within is some =
    let cut : drop place bytes ≡ get_or bytes place 0 ∷ drop (place + 1) bytes = rw (add-one) (drop-cons bytes place 0 within) in
    let more : (left == 0) ≡ false = grind (arith, nat_tests) in
    rw cut (rw (is, more) (shift place (beginning_place (drop (place + 1) bytes) (left - 1))))

pub search_here : (bytes : Bytes) (place : ℕ) → place < length bytes → begins (get_or bytes place 0) ≡ true → found_from bytes place 0 ≡ Some place
unfolding beginning_place
search_here bytes place within is =
    let cut : drop place bytes ≡ get_or bytes place 0 ∷ drop (place + 1) bytes = rw (add-one) (drop-cons bytes place 0 within) in
    rw cut (rw is (ap Some (omega arith)))

pub search_ended : (bytes : Bytes) (place : ℕ) → length bytes ≤ place → found_from bytes place 0 ≡ Some place
unfolding beginning_place
search_ended bytes place past = rw (drop_of_length-le bytes past) (ap Some (omega arith))

pub search_missed : (bytes : Bytes) (place left : ℕ) → length bytes ≤ place → 0 < left → found_from bytes place left ≡ None
unfolding beginning_place
search_missed bytes place left past some =
    let more : (left == 0) ≡ false = grind (arith, nat_tests) in
    rw (drop_of_length-le bytes past) (rw more refl)

-- ---- what the code gives

rest_is : (bytes : Bytes) → take (length bytes - 1) (drop 1 bytes) ≡ drop 1 bytes
rest_is [] = refl
rest_is (byte ∷ bytes) = let less : suc (length bytes) - 1 ≡ length bytes = omega arith in rw less (take-length bytes)

pub count_given : (bytes seen : Bytes) (n : ℕ) → seen ≡ bytes → 0 < length seen → n ≡ count_by begins (take (length seen - 1) (drop 1 seen)) → 1 + n ≡ character_count bytes
count_given bytes seen n same some is =
    let counted = is ∙ ap (λ xs. count_by begins xs) (rest_is seen) in
    ap (λ k. 1 + k) counted ∙ sym (character_count-some seen some) ∙ ap character_count same

pub no_count_given : (bytes seen : Bytes) → seen ≡ bytes → length seen ≡ 0 → 0 ≡ character_count bytes
no_count_given bytes seen same none = sym (character_count-none seen none) ∙ ap character_count same

more_given : (found : Option ℕ) → option_map suc found ≡ option_map (λ k. 1 + k) found
more_given None = refl
more_given (Some k) = ap Some (omega arith)

pub place_given : (bytes seen : Bytes) (n : ℕ) (found : Option ℕ) → seen ≡ bytes → 0 < length seen → 0 < n → found ≡ beginning_place (take (length seen - 1) (drop 1 seen)) (n - 1) → option_map (λ k. 1 + k) found ≡ character_place bytes n
place_given bytes seen n found same some above is =
    let searched = is ∙ ap (λ xs. beginning_place xs (n - 1)) (rest_is seen) in
    sym (more_given found) ∙ ap (λ o. option_map suc o) searched ∙ sym (character_place-some seen n some above) ∙ ap (λ xs. character_place xs n) same

pub no_place_given : (bytes seen : Bytes) (n : ℕ) → seen ≡ bytes → length seen ≡ 0 → 0 < n → None ≡ character_place bytes n
no_place_given bytes seen n same none some = sym (character_place-none seen n none some) ∙ ap (λ xs. character_place xs n) same

-- ---- cut at a place

go_on-take : (texts : Texts) (n : ℕ) → AreCharacters texts → go_on (concat texts) ≡ false → go_on (concat (take n texts)) ≡ false
go_on-take texts zero are ends = refl
go_on-take [] (suc n) are ends = refl
go_on-take ([] ∷ texts) (suc n) are ends = absurd are.0
go_on-take ((byte ∷ bytes) ∷ texts) (suc n) are ends = ends

AreCharacters-take : (texts : Texts) (n : ℕ) → AreCharacters texts → AreCharacters (take n texts)
AreCharacters-take texts zero are = tt
AreCharacters-take [] (suc n) are = tt
AreCharacters-take (first ∷ rest) (suc n) are = (are.0, go_on-take rest n are.2 are.1, AreCharacters-take rest n are.2)

AreCharacters-drop : (texts : Texts) (n : ℕ) → AreCharacters texts → AreCharacters (drop n texts)
AreCharacters-drop texts zero are = are
AreCharacters-drop [] (suc n) are = tt
AreCharacters-drop (first ∷ rest) (suc n) are = AreCharacters-drop rest n are.2

place_is : (texts : Texts) (index place : ℕ) (test : Bool) → cond test (Some (length (concat (take index texts)))) None ≡ Some place → place ≡ length (concat (take index texts))
place_is texts index place true is = cc
place_is texts index place false is = cc

pub places_cut : PlacesCut
unfolding character_place
places_cut bytes index place is =
    let texts = characters bytes in
    let join = characters_are bytes in
    let before = concat (take index texts) in
    let behind = concat (drop index texts) in
    let size : place ≡ length before = place_is texts index place (leb index (length texts)) is in
    let whole : before ++ behind ≡ bytes =
    sym (concat-append (take index texts) (drop index texts)) ∙ ap concat (take-append-drop index texts) ∙ join.joined in
    let front : take place bytes ≡ before = ap (λ n. take n bytes) size ∙ ap (λ bs. take (length before) bs) (sym whole) ∙ take-append_seam before behind in
    let back : drop place bytes ≡ behind = ap (λ n. drop n bytes) size ∙ ap (λ bs. drop (length before) bs) (sym whole) ∙ drop-append_seam before behind in (
      ap characters front ∙ characters_are_unique (take index texts) (AreCharacters-take texts index join.are),
      ap characters back ∙ characters_are_unique (drop index texts) (AreCharacters-drop texts index join.are),
    )

-- ---- in UTF-8

next_goes_on : (bits : ℕ) → goes_on (128 + bits % 64) ≡ true
next_goes_on bits = grind (arith, nat_tests)

low_begins : (byte : ℕ) → byte < 128 → goes_on byte ≡ false
low_begins byte low = grind (arith, nat_tests)

high_begins : (byte : ℕ) → 192 ≤ byte → goes_on byte ≡ false
high_begins byte high = grind (arith, nat_tests)

-- these bytes are one character, and begin with a byte that begins it
abbrev Begins : Bytes → Type 0
Begins bytes = IsCharacter bytes × ((rest : Bytes) → go_on (bytes ++ rest) ≡ false)

encode_by : (c : ℕ) (one two three : Bool) → ltb c 128 ≡ one → Begins (cond one (c ∷ []) (cond two ((192 + c / 64) ∷ next c ∷ []) (cond three ((224 + c / 4096) ∷ next (c / 64) ∷ next c ∷ []) ((240 + c / 262144) ∷ next (c / 4096) ∷ next (c / 64) ∷ next c ∷ []))))
encode_by c true two three is = (refl, λ rest. low_begins c (grind (arith, nat_tests)))
encode_by c false true three is = (rw (next_goes_on c) refl, λ rest. high_begins (192 + c / 64) (omega arith))
encode_by c false false true is = (rw (next_goes_on (c / 64), next_goes_on c) refl, λ rest. high_begins (224 + c / 4096) (omega arith))
encode_by c false false false is = (rw (next_goes_on (c / 4096), next_goes_on (c / 64), next_goes_on c) refl, λ rest. high_begins (240 + c / 262144) (omega arith))

encode_begins : (c : ℕ) → Begins (encode c)
unfolding encode
encode_begins c = encode_by c (ltb c 128) (ltb c 2048) (ltb c 65536) refl

scalars_end : (values : List ℕ) → go_on (concat (map encode values)) ≡ false
scalars_end [] = refl
scalars_end (value ∷ values) = (encode_begins value).1 (concat (map encode values))

scalars_join : (values : List ℕ) → Join (map encode values) (encodes values)
scalars_join [] = record { are = tt; joined = refl }
scalars_join (value ∷ values) =
    let join = scalars_join values in
    record { are = ((encode_begins value).0, scalars_end values, join.are); joined = ap (λ bs. encode value ++ bs) join.joined }

pub characters_are_scalars : CharactersAreScalars
characters_are_scalars bytes utf8 =
    let values = utf8.0 in
    let join = scalars_join values in
    let spelled : encodes values ≡ bytes = utf8.1.1 in
    ap characters (sym (join.joined ∙ spelled)) ∙ characters_are_unique (map encode values) join.are ∙ ap (map encode) (chars_from_encodes values bytes utf8 spelled)
