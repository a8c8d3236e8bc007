-- What begins with a byte, and how far it goes.
use Rattle.std.proofs.Common.{◌≡◌, ℕ, suc, ◌+◌, ◌<◌, ◌≤◌, ◌==◌, ◌⊎◌, inl, inr, Bool, true, false, List, [], ◌∷◌, length, cond, Option, Some, None, refl, ap, sym, ◌∙◌, subst, arith}
use Rattle.std.specs.List.{prefix_len}
use Rattle.std.specs.Option.{option_map}
use Rattle.std.proofs.lemmas.Bool.{cases_Bool}
use Rattle.std.proofs.lemmas.Bool.Decides.{nat_tests}
use Rattle.nl_scan.specs.declared.pieces.Form.{Form}
use Rattle.nl_scan.specs.Forms.{is_space, is_in_line, is_word_byte, bracket_of, is_some_bracket, semicolon, quote, backslash, is_escape, first_bad_escape}
use Rattle.nl_scan.specs.inner.Pieces.{form_at, closed_length}

-- so many more
abbrev pub plus : ℕ → Option ℕ → Option ℕ
plus at None = None
plus at (Some n) = Some (at + n)

pub same_byte : (c d : ℕ) → (c == d) ≡ true → c ≡ d
same_byte c d h = grind (arith, nat_tests)

-- ---- the form that begins with a byte

-- whether a form begins with a byte
abbrev pub begins : Form → ℕ → Bool
begins Form.Space byte = is_space byte
begins Form.Comment byte = byte == semicolon
begins Form.Word byte = is_word_byte byte
begins Form.Quoted byte = byte == quote
begins Form.Bracket byte = is_some_bracket (bracket_of byte)

abbrev chosen : Bool → Bool → Bool → Bool → Bool → Option Form
chosen space comment quoted bracket word =
    cond space (Some Form.Space) (cond comment (Some Form.Comment) (cond quoted (Some Form.Quoted) (cond bracket (Some Form.Bracket) (cond word (Some Form.Word) None))))

abbrev choice : Bool → Bool → Bool → Bool → Bool → Form → Bool
choice space comment quoted bracket word Form.Space = space
choice space comment quoted bracket word Form.Comment = comment
choice space comment quoted bracket word Form.Word = word
choice space comment quoted bracket word Form.Quoted = quoted
choice space comment quoted bracket word Form.Bracket = bracket

chosen-is : (space comment quoted bracket word : Bool) (form : Form) → chosen space comment quoted bracket word ≡ Some form → choice space comment quoted bracket word form ≡ true
chosen-is true comment quoted bracket word form h = let e : form ≡ Form.Space = cc in rw e refl
chosen-is false true quoted bracket word form h = let e : form ≡ Form.Comment = cc in rw e refl
chosen-is false false true bracket word form h = let e : form ≡ Form.Quoted = cc in rw e refl
chosen-is false false false true word form h = let e : form ≡ Form.Bracket = cc in rw e refl
chosen-is false false false false true form h = let e : form ≡ Form.Word = cc in rw e refl
chosen-is false false false false false form h = cc

choice-begins : (byte : ℕ) (form : Form) → choice (is_space byte) (byte == semicolon) (byte == quote) (is_some_bracket (bracket_of byte)) (is_word_byte byte) form ≡ begins form byte
choice-begins byte Form.Space = refl
choice-begins byte Form.Comment = refl
choice-begins byte Form.Word = refl
choice-begins byte Form.Quoted = refl
choice-begins byte Form.Bracket = refl

pub begins-form_at : (byte : ℕ) (form : Form) → form_at byte ≡ Some form → begins form byte ≡ true
begins-form_at byte form h = sym (choice-begins byte form) ∙ chosen-is (is_space byte) (byte == semicolon) (byte == quote) (is_some_bracket (bracket_of byte)) (is_word_byte byte) form h

-- no word begins with a byte of another form
apart : (byte k : ℕ) → is_word_byte k ≡ false → is_word_byte byte ≡ true → ((byte == k) ≡ true) ⊎ ((byte == k) ≡ false) → (byte == k) ≡ false
apart byte k none h (inl e) =
    let same : byte ≡ k = same_byte byte k e in
    let word : is_word_byte k ≡ true = ap is_word_byte (sym same) ∙ h in cc
apart byte k none h (inr e) = e

not_word : (byte k : ℕ) → is_word_byte k ≡ false → is_word_byte byte ≡ true → (byte == k) ≡ false
not_word byte k none h = apart byte k none h (cases_Bool (byte == k))

-- what holds of each bracket holds of a byte that is one
brackets : (P : ℕ → Type 0) (byte : ℕ) → P 91 → P 93 → P 40 → P 41 → is_some_bracket (bracket_of byte) ≡ true → P byte
brackets P byte a b c d h = by (cases_Bool (byte == 91))
  where
    four : ((byte == 41) ≡ true) ⊎ ((byte == 41) ≡ false) → (byte == 91) ≡ false → (byte == 93) ≡ false → (byte == 40) ≡ false → P byte
    four (inl e) x y z = subst P (sym (same_byte byte 41 e)) d
    four (inr e) x y z = let none = rw (x, y, z, e) at h in cc

    three : ((byte == 40) ≡ true) ⊎ ((byte == 40) ≡ false) → (byte == 91) ≡ false → (byte == 93) ≡ false → P byte
    three (inl e) x y = subst P (sym (same_byte byte 40 e)) c
    three (inr e) x y = four (cases_Bool (byte == 41)) x y e

    two : ((byte == 93) ≡ true) ⊎ ((byte == 93) ≡ false) → (byte == 91) ≡ false → P byte
    two (inl e) x = subst P (sym (same_byte byte 93 e)) b
    two (inr e) x = three (cases_Bool (byte == 40)) x e

    by : ((byte == 91) ≡ true) ⊎ ((byte == 91) ≡ false) → P byte
    by (inl e) = subst P (sym (same_byte byte 91 e)) a
    by (inr e) = two (cases_Bool (byte == 93)) e

pub form_at-begins : (byte : ℕ) (form : Form) → begins form byte ≡ true → form_at byte ≡ Some form
form_at-begins byte Form.Space h = rw h refl
form_at-begins byte Form.Comment h = let P : ℕ → Type 0 = λ n. form_at n ≡ Some Form.Comment in subst P (sym (same_byte byte semicolon h)) refl
form_at-begins byte Form.Quoted h = let P : ℕ → Type 0 = λ n. form_at n ≡ Some Form.Quoted in subst P (sym (same_byte byte quote h)) refl
form_at-begins byte Form.Bracket h = brackets (λ n. form_at n ≡ Some Form.Bracket) byte refl refl refl refl h
form_at-begins byte Form.Word h =
    rw (not_word byte 32 refl h, not_word byte 9 refl h, not_word byte 13 refl h, not_word byte 10 refl h, not_word byte 59 refl h, not_word byte 34 refl h, not_word byte 91 refl h, not_word byte 93 refl h, not_word byte 40 refl h, not_word byte 41 refl h, h) refl

-- ---- how far it goes

pub word_len-some : (byte : ℕ) (rest : List ℕ) → is_word_byte byte ≡ true → 0 < prefix_len is_word_byte (byte ∷ rest)
word_len-some byte rest h = rw h (omega arith)

-- a bound on an optional number
abbrev pub IsWithin : ℕ → ℕ → Option ℕ → Type 0
IsWithin least most None = Unit {0}
IsWithin least most (Some n) = (least ≤ n) × (n ≤ most)

within_suc : (most : ℕ) (o : Option ℕ) → IsWithin 1 most o → IsWithin 1 (suc most) (option_map suc o)
within_suc most None h = tt
within_suc most (Some n) h = (omega arith, omega arith)

cond_within : (least most : ℕ) (b : Bool) (x y : Option ℕ) → IsWithin least most x → IsWithin least most y → IsWithin least most (cond b x y)
cond_within least most true x y p q = p
cond_within least most false x y p q = q

pub closed_length-within : (behind : Bool) (bytes : List ℕ) → IsWithin 1 (length bytes) (closed_length behind bytes)
closed_length-within behind [] = tt
closed_length-within true (byte ∷ rest) =
    cond_within 1 (suc (length rest)) (is_in_line byte) _ None (within_suc (length rest) (closed_length false rest) (closed_length-within false rest)) tt
closed_length-within false (byte ∷ rest) =
    cond_within 1 (suc (length rest)) (byte == quote) (Some 1) _ (omega arith, omega arith)
    (cond_within 1 (suc (length rest)) (is_in_line byte) _ None (within_suc (length rest) (closed_length (byte == backslash) rest) (closed_length-within (byte == backslash) rest)) tt)

-- a number below another
abbrev pub IsBelow : ℕ → Option ℕ → Type 0
IsBelow most None = Unit {0}
IsBelow most (Some n) = n < most

below_suc : (most : ℕ) (o : Option ℕ) → IsBelow most o → IsBelow (suc most) (option_map suc o)
below_suc most None h = tt
below_suc most (Some n) h = omega arith

cond_below : (most : ℕ) (b : Bool) (x y : Option ℕ) → IsBelow most x → IsBelow most y → IsBelow most (cond b x y)
cond_below most true x y p q = p
cond_below most false x y p q = q

pub first_bad_escape-below : (behind : Bool) (bytes : List ℕ) → IsBelow (length bytes) (first_bad_escape behind bytes)
first_bad_escape-below behind [] = tt
first_bad_escape-below true (byte ∷ rest) =
    cond_below (suc (length rest)) (is_escape byte) _ (Some 0) (below_suc (length rest) (first_bad_escape false rest) (first_bad_escape-below false rest)) (omega arith)
first_bad_escape-below false (byte ∷ rest) = below_suc (length rest) (first_bad_escape (byte == backslash) rest) (first_bad_escape-below (byte == backslash) rest)
