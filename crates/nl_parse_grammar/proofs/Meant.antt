-- The tokens of a text are what a text can have.
use Rattle.std.proofs.Common.{◌≡◌, ℕ, ◌+◌, ◌-◌, ◌<◌, ◌≤◌, ◌==◌, ◌⊎◌, inl, inr, nat_le, Bool, true, false, not, ◌&&◌, ◌||◌, if◌then◌else◌, List, [], ◌∷◌, ◌++◌, Option, Some, None, Result, Ok, Err, length, take, drop, refl, sym, ◌∙◌, ap, subst, arith, append_assoc, length-append, ℤ}
use Rattle.std.proofs.Math.Seq.{take-append_seam}
use Rattle.std.proofs.lemmas.Bool.Decides.{nat_tests, Decides-eqb}
use Rattle.std.proofs.lemmas.Bool.{cases_lt}
use Rattle.std.proofs.lemmas.Str.Ascii.{lowercase_is}
use Rattle.std.proofs.lemmas.List.{take-append-drop, drop-drop, length-drop, length-take-le}
use Rattle.std.proofs.lemmas.List.Elements.{All-nil, All-cons}
use Rattle.std.specs.Prelude.{codes, is_some, All}
use Rattle.std.specs.Char.{is_ascii_alphanumeric, is_ascii_uppercase, to_ascii_lowercase}
use Rattle.std.specs.Int.{is_in_range}
use Rattle.std.specs.List.{list_any, list_all}
use Rattle.std.specs.Option.{option_map}
use Rattle.std.specs.Str.{IsUtf8, str_to_ascii_lowercase}
use Rattle.nl_fixed.specs.declared.number.NumFault.{NumFault}
use Rattle.nl_fixed.specs.Spelling.{Parts, value_of, parts_of, read_of}
use Rattle.nl_words.specs.Table as table
use Rattle.nl_words.specs.Table.{is_name, is_word, is_number}
use Rattle.nl_scan.specs.declared.token.Token.{Token}
use Rattle.nl_scan.specs.declared.token.Lexeme as s
use Rattle.nl_scan.specs.declared.token.Lexeme.TheVariants as scanned
use Rattle.nl_scan.specs.Forms.{is_space, semicolon, is_some_bracket, is_mark, is_word_byte, bracket_of, quote, Flaw, has_form, is_closed, first_bad_escape, word_meaning, quoted_meaning, meaning_of}
use Rattle.nl_scan.specs.Contents.{resolved, content_of}
use Rattle.nl_scan.specs.Tokens.{AreInOrder}
use Rattle.nl_scan.specs.Cuts.{IsMeant, AreMeant}
use Rattle.nl_tree.specs.Tokens.{IsLexeme, IsToken}
use Rattle.nl_scan.specs.Texts.{bytes_of, word_at}
use Rattle.nl_parse_grammar.specs.Texts.{lexeme_as, plain_token, plain_tokens}
use Rattle.nl_scan.proofs.Firsts.{has_form-nil, has_form-parts}
use Rattle.nl_scan.proofs.Runs.{form_at-begins}
use Rattle.nl_scan.proofs.Order.{AreInOrder-le, tokens_of-in_order}
use Rattle.nl_scan.proofs.CutLaws.{tokens_are_meant, tokens_are_computed}
use Rattle.nl_parse_grammar.specs.TokenLaws.{TokensArePlain}
use Rattle.nl_parse_grammar.proofs.Numbers.{lowered_number, number_is}
use Rattle.nl_parse_grammar.proofs.Split.{split, resolves, closed_is, front_escapes}
use Rattle.std.specs.Cmp.{first_so, second_so}

-- ---- words

both : (a b : Bool) → a ≡ true → b ≡ true → (a && b) ≡ true
both true b h k = k
both false b h k = cc

-- one of some bytes, as the two languages of tests write it
abbrev one_of : Bool → List ℕ → ℕ → Bool
one_of found [] b = found
one_of found (m ∷ ms) b = one_of (found || (b == m)) ms b

turned : (a b : ℕ) → (a == b) ≡ (b == a)
turned a b = grind (arith, nat_tests)

or_more : (a b c : Bool) → ((a || b) || c) ≡ (a || (b || c))
or_more true b c = refl
or_more false b c = refl

or_none : (a : Bool) → (a || false) ≡ a
or_none true = refl
or_none false = refl

one_of_is : (ms : List ℕ) (found : Bool) (b : ℕ) → one_of found ms b ≡ (found || list_any (λ sign. sign == b) ms)
one_of_is [] found b = sym (or_none found)
one_of_is (m ∷ ms) found b = one_of_is ms (found || (b == m)) b ∙ or_more found (b == m) _ ∙ ap (λ x. found || (x || list_any (λ sign. sign == b) ms)) (turned b m)

mark_is : (b : ℕ) → is_mark b ≡ list_any (λ sign. sign == b) (codes ".?=*!<>:#+/%$_^'&-")
mark_is b = one_of_is (codes "?=*!<>:#+/%$_^'&-") (b == 46) b ∙ ap (λ x. x || list_any (λ sign. sign == b) (codes "?=*!<>:#+/%$_^'&-")) (turned b 46)

or_right : (a c : Bool) → ((a || true) || c) ≡ true
or_right true c = refl
or_right false c = refl

word_byte_is : (b : ℕ) → is_word_byte b ≡ table.is_word_byte b
word_byte_is b = ap (λ x. is_ascii_alphanumeric b || x) (mark_is b)

-- a letter that is lowered is one, and another byte stays
lower_byte : (b : ℕ) → is_word_byte b ≡ true → is_word_byte (to_ascii_lowercase b) ≡ true
lower_byte b h = at (cases_lt b 65) (cases_lt b 91)
  where
    at : (b < 65) ⊎ (65 ≤ b) → (b < 91) ⊎ (91 ≤ b) → is_word_byte (to_ascii_lowercase b) ≡ true
    at (inl low) y = let e : to_ascii_lowercase b ≡ b = (lowercase_is b).1 low in subst (λ c. is_word_byte c ≡ true) (sym e) h
    at (inr x) (inr high) = let e : to_ascii_lowercase b ≡ b = (lowercase_is b).2 (omega (arith, high)) in subst (λ c. is_word_byte c ≡ true) (sym e) h
    at (inr x) (inl y) =
        let e : to_ascii_lowercase b ≡ b + 32 = (lowercase_is b).0 (x, omega (arith, y)) in
        let small : is_in_range 97 122 (b + 32) ≡ true = both (nat_le 97 (b + 32)) (nat_le (b + 32) 122) (grind (arith, nat_tests, x)) (grind (arith, nat_tests, y)) in
        subst (λ c. is_word_byte c ≡ true) (sym e) (ap (λ z. ((is_in_range 48 57 (b + 32) || is_in_range 65 90 (b + 32)) || z) || is_mark (b + 32)) small ∙ or_right (is_in_range 48 57 (b + 32) || is_in_range 65 90 (b + 32)) (is_mark (b + 32)))

lower_small : (b : ℕ) → is_ascii_uppercase (to_ascii_lowercase b) ≡ false
lower_small b = grind (arith, nat_tests)

is_name_of : (bs : List ℕ) → is_word (str_to_ascii_lowercase bs) ≡ true → is_number bs ≡ false → is_name (str_to_ascii_lowercase bs) ≡ true
is_name_of bs h n =
    both (is_word (str_to_ascii_lowercase bs) && not (list_any is_ascii_uppercase (str_to_ascii_lowercase bs))) (not (is_number (str_to_ascii_lowercase bs)))
    (both (is_word (str_to_ascii_lowercase bs)) (not (list_any is_ascii_uppercase (str_to_ascii_lowercase bs))) h (ap not (none_upper bs)))
    (ap not (lowered_number bs ∙ n))
  where
    none_upper : (bs : List ℕ) → list_any is_ascii_uppercase (str_to_ascii_lowercase bs) ≡ false
    none_upper [] = refl
    none_upper (b ∷ bs) = ap (λ x. x || list_any is_ascii_uppercase (str_to_ascii_lowercase bs)) (lower_small b) ∙ none_upper bs

lower_bytes : (bs : List ℕ) → list_all is_word_byte bs ≡ true → list_all table.is_word_byte (str_to_ascii_lowercase bs) ≡ true
lower_bytes [] h = refl
lower_bytes (b ∷ bs) h =
    both (table.is_word_byte (to_ascii_lowercase b)) (list_all table.is_word_byte (str_to_ascii_lowercase bs))
    (sym (word_byte_is (to_ascii_lowercase b)) ∙ lower_byte b (first_so (is_word_byte b) (list_all is_word_byte bs) h))
    (lower_bytes bs (second_so (is_word_byte b) (list_all is_word_byte bs) h))

no_number : (bs : List ℕ) → read_of bs ≡ None → is_number bs ≡ false
unfolding read_of
no_number bs h = sym (number_is bs) ∙ ap is_some (none_of (parts_of bs) h)
  where
    none_of : (o : Option Parts) → option_map value_of o ≡ None → o ≡ None
    none_of None h = refl
    none_of (Some p) h = cc

-- ---- the form of a token

some_same : {F : Type 0} (a f : F) → Some a ≡ Some f → a ≡ f
some_same a f h = cc

-- one of five, the first that passes its test
chosen : {F : Type 0} (P : F → Type 0) (a b c d e f : F) (v w x y z : Bool)
    → (if v then Some a else (if w then Some b else (if x then Some c else (if y then Some d else (if z then Some e else None))))) ≡ Some f
    → P a → P b → P c → P d → P e → P f
chosen P a b c d e f true w x y z h i j k l m = subst P (some_same a f h) i
chosen P a b c d e f false true x y z h i j k l m = subst P (some_same b f h) j
chosen P a b c d e f false false true y z h i j k l m = subst P (some_same c f h) k
chosen P a b c d e f false false false true z h i j k l m = subst P (some_same d f h) l
chosen P a b c d e f false false false false true h i j k l m = subst P (some_same e f h) m
chosen P a b c d e f false false false false false h i j k l m = cc

-- what a word's bytes are, and those of a text
abbrev WordForm : ℕ → List ℕ → Type 0
WordForm b rest = ((is_word_byte b && list_all is_word_byte rest) ≡ true) × (read_of (b ∷ rest) ≡ None)

abbrev TextForm : ℕ → List ℕ → Type 0
TextForm b rest = ((b == quote) ≡ true) × (is_closed false rest ≡ true) × (first_bad_escape false rest ≡ None)

-- a bracket is neither a word nor a text
bracket_other : (b : ℕ) (l : s.Lexeme) → (l ≡ scanned.Open → ⊥) → (l ≡ scanned.Close → ⊥) → (l ≡ scanned.OpenParen → ⊥) → (l ≡ scanned.CloseParen → ⊥) → bracket_of b ≡ Some l → ⊥
bracket_other b l o c p q h = at (b == 91) (b == 93) (b == 40) (b == 41) h
  where
    at : (v w x y : Bool) → (if v then Some scanned.Open else (if w then Some scanned.Close else (if x then Some scanned.OpenParen else (if y then Some scanned.CloseParen else None)))) ≡ Some l → ⊥
    at true w x y h = o (sym (some_same _ _ h))
    at false true x y h = c (sym (some_same _ _ h))
    at false false true y h = p (sym (some_same _ _ h))
    at false false false true h = q (sym (some_same _ _ h))
    at false false false false h = cc

quoted_no_word : (o : Option ℕ) → quoted_meaning o ≡ Ok (Some scanned.Word) → ⊥
quoted_no_word None h = cc
quoted_no_word (Some n) h = cc

quoted_none : (o : Option ℕ) → quoted_meaning o ≡ Ok (Some scanned.Text) → o ≡ None
quoted_none None h = refl
quoted_none (Some n) h = cc

word_none : (o : Option (Result ℤ NumFault)) → word_meaning o ≡ Ok (Some scanned.Word) → o ≡ None
word_none None h = refl
word_none (Some (Ok n)) h = cc
word_none (Some (Err f)) h = cc

word_no_text : (o : Option (Result ℤ NumFault)) → word_meaning o ≡ Ok (Some scanned.Text) → ⊥
word_no_text None h = cc
word_no_text (Some (Ok n)) h = cc
word_no_text (Some (Err f)) h = cc

abbrev as_ok : Option s.Lexeme → Result (Option s.Lexeme) Flaw
as_ok o = Ok o

ok_same : (o p : Option s.Lexeme) → as_ok o ≡ as_ok p → o ≡ p
ok_same o p h = cc

word_form : (text : List ℕ) (t : Token) (b : ℕ) (rest : List ℕ) → bytes_of text t ≡ b ∷ rest → t.lexeme ≡ scanned.Word → IsMeant text t → WordForm b rest
word_form text t b rest e w m =
    let has = ap (has_form m.0) (sym e) ∙ m.1 in
    let mean = ap (meaning_of m.0) (sym e) ∙ m.2 ∙ ap (λ l. Ok (Some l)) w in
    let at = form_at-begins b m.0 (has_form-parts m.0 b rest has).0 in
    chosen (λ f. has_form f (b ∷ rest) ≡ true → meaning_of f (b ∷ rest) ≡ Ok (Some scanned.Word) → WordForm b rest)
    _ _ _ _ _ m.0 (is_space b) (b == semicolon) (b == quote) (is_some_bracket (bracket_of b)) (is_word_byte b) at
    (λ h k. cc k) (λ h k. cc k)
    (λ h k. absurd (quoted_no_word (first_bad_escape false rest) k))
    (λ h k. absurd (bracket_other b scanned.Word (λ x. cc x) (λ x. cc x) (λ x. cc x) (λ x. cc x) (ok_same _ _ k)))
    (λ h k. (h, word_none (read_of (b ∷ rest)) k)) has mean

text_form : (text : List ℕ) (t : Token) (b : ℕ) (rest : List ℕ) → bytes_of text t ≡ b ∷ rest → t.lexeme ≡ scanned.Text → IsMeant text t → TextForm b rest
text_form text t b rest e w m =
    let has = ap (has_form m.0) (sym e) ∙ m.1 in
    let mean = ap (meaning_of m.0) (sym e) ∙ m.2 ∙ ap (λ l. Ok (Some l)) w in
    let at = form_at-begins b m.0 (has_form-parts m.0 b rest has).0 in
    chosen (λ f. has_form f (b ∷ rest) ≡ true → meaning_of f (b ∷ rest) ≡ Ok (Some scanned.Text) → TextForm b rest)
    _ _ _ _ _ m.0 (is_space b) (b == semicolon) (b == quote) (is_some_bracket (bracket_of b)) (is_word_byte b) at
    (λ h k. cc k) (λ h k. cc k)
    (λ h k. (first_so (b == quote) (is_closed false rest) h, second_so (b == quote) (is_closed false rest) h, quoted_none (first_bad_escape false rest) k))
    (λ h k. absurd (bracket_other b scanned.Text (λ x. cc x) (λ x. cc x) (λ x. cc x) (λ x. cc x) (ok_same _ _ k)))
    (λ h k. absurd (word_no_text (read_of (b ∷ rest)) k)) has mean

some_bytes : (text : List ℕ) (t : Token) → IsMeant text t → (b : ℕ) × (rest : List ℕ) × (bytes_of text t ≡ b ∷ rest)
some_bytes text t m = at (bytes_of text t) refl
  where
    at : (bs : List ℕ) → bytes_of text t ≡ bs → (b : ℕ) × (rest : List ℕ) × (bytes_of text t ≡ b ∷ rest)
    at [] e = let h = ap (has_form m.0) (sym e) ∙ m.1 in let g = has_form-nil m.0 in cc (g, h)
    at (b ∷ rest) e = (b, rest, e)

-- a word's name
word_named : (text : List ℕ) (t : Token) → t.lexeme ≡ scanned.Word → IsMeant text t → is_name (word_at text t.span) ≡ true
word_named text t w m =
    let r = some_bytes text t m in
    let f = word_form text t r.0 r.1 r.2 w m in
    subst (λ bs. is_name (str_to_ascii_lowercase bs) ≡ true) (sym r.2) (is_name_of (r.0 ∷ r.1) (lower_bytes (r.0 ∷ r.1) f.0) (no_number (r.0 ∷ r.1) f.1))

-- ---- texts

-- what stands between the quotes is UTF-8
between : (text : List ℕ) (start len : ℕ) (inner : List ℕ) → start + len ≤ length text → take len (drop start text) ≡ quote ∷ (inner ++ quote ∷ []) → IsUtf8 text
    → (take (len - 2) (drop (start + 1) text) ≡ inner) × IsUtf8 inner
between text start len inner within e u =
    let behind : List ℕ = drop len (drop start text) in
    let room : len ≤ length (drop start text) = omega (arith, length-drop start text, within) in
    let long : len ≡ length inner + 2 = omega (arith, length-take-le len (drop start text) room, ap length e, length-append inner (quote ∷ [])) in
    let at : drop start text ≡ quote ∷ (inner ++ quote ∷ behind) =
    sym (take-append-drop len (drop start text)) ∙ ap (λ xs. xs ++ behind) e ∙ ap (λ xs. quote ∷ xs) (append_assoc inner (quote ∷ []) behind) in
    let further : drop (start + 1) text ≡ inner ++ quote ∷ behind = sym (drop-drop 1 start text) ∙ ap (drop 1) at in
    let whole : IsUtf8 (take start text ++ quote ∷ (inner ++ quote ∷ behind)) = subst IsUtf8 (sym (take-append-drop start text) ∙ ap (λ xs. take start text ++ xs) at) u in
    let small : quote < 128 = omega arith in
    let short : len - 2 ≡ length inner = omega (arith, long) in (
      ap (λ n. take n (drop (start + 1) text)) short ∙ ap (take (length inner)) further ∙ take-append_seam inner (quote ∷ behind),
      (split inner behind quote small (split (take start text) (inner ++ quote ∷ behind) quote small whole).1).0,
    )

text_utf8 : (text : List ℕ) (t : Token) → IsUtf8 text → t.span.start + t.span.len ≤ length text → t.lexeme ≡ scanned.Text → IsMeant text t → IsUtf8 (content_of text t)
text_utf8 text t u within w m =
    let r = some_bytes text t m in
    let f = text_form text t r.0 r.1 r.2 w m in
    let c = closed_is r.1 false f.1 in
    let q : r.0 ≡ quote = (Decides-eqb r.0 quote).0 f.0 in
    let b = between text t.span.start t.span.len c.0 within (r.2 ∙ ap (λ x. x ∷ r.1) q ∙ ap (λ xs. quote ∷ xs) c.1) u in
    let good : first_bad_escape false c.0 ≡ None = front_escapes c.0 (quote ∷ []) false (ap (first_bad_escape false) (sym c.1) ∙ f.2) in
    subst (λ bs. IsUtf8 (resolved false bs)) (sym b.0) (resolves c.0 good b.1)

-- ---- all tokens

lexeme_is : (text : List ℕ) (t : Token) (l : s.Lexeme) → t.lexeme ≡ l → IsUtf8 text → t.span.start + t.span.len ≤ length text → IsMeant text t → IsLexeme (lexeme_as text t l)
lexeme_is text t scanned.Word e u within m = word_named text t e m
lexeme_is text t (scanned.Number n) e u within m = tt
lexeme_is text t scanned.Text e u within m = text_utf8 text t u within e m
lexeme_is text t scanned.Open e u within m = tt
lexeme_is text t scanned.Close e u within m = tt
lexeme_is text t scanned.OpenParen e u within m = tt
lexeme_is text t scanned.CloseParen e u within m = tt

all_are : (ts : List Token) (text : List ℕ) (from : ℕ) → IsUtf8 text → AreInOrder from (length text) ts → AreMeant text ts → All IsToken (plain_tokens text ts)
all_are [] text from u order meant = All-nil IsToken
all_are (t ∷ ts) text from u order meant =
    All-cons IsToken (plain_token text t) (plain_tokens text ts)
    (lexeme_is text t t.lexeme refl u (AreInOrder-le (t.span.start + t.span.len) (length text) ts order.2) meant.0)
    (all_are ts text (t.span.start + t.span.len) u order.2 meant.1)

pub tokens_are_plain : TokensArePlain
tokens_are_plain text ts e =
    let is = (tokens_are_computed text ts).0 e in
    all_are ts text 0 is.1 (tokens_of-in_order text ts e) (tokens_are_meant text ts e)
