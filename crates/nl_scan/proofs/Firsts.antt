-- What begins a text, by the forms that bytes may have.
use Rattle.std.proofs.Common.{◌≡◌, ℕ, ℤ, zero, suc, ◌≤◌, ◌==◌, ◌⊎◌, inl, inr, Bool, true, false, List, [], ◌∷◌, length, take, cond, Option, Some, None, Result, Ok, Err, refl, ap, sym, ◌∙◌, subst, arith}
use Rattle.std.specs.List.{list_all, prefix_len}
use Rattle.std.specs.Option.{option_map}
use Rattle.std.proofs.lemmas.Bool.{cases_Bool}
use Rattle.std.proofs.lemmas.List.{length-take-le}
use Rattle.std.proofs.lemmas.List.Sums.{prefix_len-le-length}
use Rattle.nl_fixed.specs.declared.number.NumFault.{NumFault}
use Rattle.nl_fixed.specs.Spelling.{read_of}
use Rattle.nl_fixed.proofs.Digits.{first_and_rest, list_all-take-prefix_len}
use Rattle.nl_scan.specs.declared.token.Lexeme.{Lexeme}
use Rattle.nl_scan.specs.declared.token.ScanKind.{ScanKind}
use Rattle.nl_scan.specs.declared.pieces.Form.{Form}
use Rattle.nl_scan.specs.declared.pieces.Piece.{Piece}
use Rattle.nl_scan.specs.Forms.{Flaw, is_space, is_in_line, is_word_byte, is_none_left, is_closed, is_some_bracket, bracket_of, semicolon, quote, backslash, has_form, first_bad_escape, meaning_of, meaning_behind, word_meaning, quoted_meaning}
use Rattle.nl_scan.specs.inner.Pieces.{form_at, closed_length, piece_at, piece_by, word_piece, quoted_piece, escaped_piece, bracket_piece}
use Rattle.nl_scan.specs.Cuts.{Stretch, IsFirst, IsUnformed, kind_of_first}
use Rattle.nl_scan.proofs.Runs.{begins, begins-form_at, form_at-begins, closed_length-within}

-- ---- a form is what begins with its first byte and goes on as the form asks

pub has_form-nil : (form : Form) → has_form form [] ≡ false
has_form-nil Form.Space = refl
has_form-nil Form.Comment = refl
has_form-nil Form.Word = refl
has_form-nil Form.Quoted = refl
has_form-nil Form.Bracket = refl

abbrev pub goes_on : Form → List ℕ → Bool
goes_on Form.Space rest = is_none_left rest
goes_on Form.Comment rest = list_all is_in_line rest
goes_on Form.Word rest = list_all is_word_byte rest
goes_on Form.Quoted rest = is_closed false rest
goes_on Form.Bracket rest = is_none_left rest

pub has_form-parts : (form : Form) (byte : ℕ) (rest : List ℕ) → has_form form (byte ∷ rest) ≡ true → (begins form byte ≡ true) × (goes_on form rest ≡ true)
has_form-parts Form.Space byte rest h = first_and_rest (is_space byte) (is_none_left rest) h
has_form-parts Form.Comment byte rest h = first_and_rest (byte == semicolon) (list_all is_in_line rest) h
has_form-parts Form.Word byte rest h = first_and_rest (is_word_byte byte) (list_all is_word_byte rest) h
has_form-parts Form.Quoted byte rest h = first_and_rest (byte == quote) (is_closed false rest) h
has_form-parts Form.Bracket byte rest h = first_and_rest (is_some_bracket (bracket_of byte)) (is_none_left rest) h

has_form-joined : (form : Form) (byte : ℕ) (rest : List ℕ) → begins form byte ≡ true → goes_on form rest ≡ true → has_form form (byte ∷ rest) ≡ true
has_form-joined Form.Space byte rest b t = rw (b, t) refl
has_form-joined Form.Comment byte rest b t = rw (b, t) refl
has_form-joined Form.Word byte rest b t = rw (b, t) refl
has_form-joined Form.Quoted byte rest b t = rw (b, t) refl
has_form-joined Form.Bracket byte rest b t = rw (b, t) refl

-- ---- how far it may go

run_most : (p : ℕ → Bool) (rest : List ℕ) (n : ℕ) → list_all p (take n rest) ≡ true → n ≤ length rest → n ≤ prefix_len p rest
run_most p rest zero h le = omega arith
run_most p [] (suc n) h le = absurd (omega arith)
run_most p (byte ∷ rest) (suc n) h le =
    let both = first_and_rest (p byte) (list_all p (take n rest)) h in
    let more = run_most p rest n both.1 (omega arith) in
    rw both.0 (omega arith)

none_left : (rest : List ℕ) (n : ℕ) → is_none_left (take n rest) ≡ true → n ≤ length rest → n ≡ 0
none_left rest zero h le = refl
none_left [] (suc n) h le = absurd (omega arith)
none_left (byte ∷ rest) (suc n) h le = cc

is_closed-nil : (behind : Bool) → is_closed behind [] ≡ false
is_closed-nil true = refl
is_closed-nil false = refl

closed_length-nil : (behind : Bool) → closed_length behind [] ≡ None
closed_length-nil true = refl
closed_length-nil false = refl

closed_by : (byte : ℕ) (rest : List ℕ) (n : ℕ) → ((behind : Bool) → is_closed behind (take n rest) ≡ true → closed_length behind rest ≡ Some n) → n ≤ length rest
    → is_closed false (byte ∷ take n rest) ≡ true → ((byte == quote) ≡ true) ⊎ ((byte == quote) ≡ false) → closed_length false (byte ∷ rest) ≡ Some (suc n)
closed_by byte rest n more le h (inl e) =
    let none = rw e at h in
    let zero_left : n ≡ 0 = none_left rest n none le in
    rw (e, zero_left) refl
closed_by byte rest n more le h (inr e) =
    let held = rw e at h in
    let both = first_and_rest (is_in_line byte) (is_closed (byte == backslash) (take n rest)) held in
    rw (e, both.0, more (byte == backslash) both.1) refl

closed_most : (behind : Bool) (rest : List ℕ) (n : ℕ) → is_closed behind (take n rest) ≡ true → n ≤ length rest → closed_length behind rest ≡ Some n
closed_most behind rest zero h le = let none = is_closed-nil behind in cc
closed_most behind [] (suc n) h le = absurd (omega arith)
closed_most true (byte ∷ rest) (suc n) h le =
    let both = first_and_rest (is_in_line byte) (is_closed false (take n rest)) h in
    rw (both.0, closed_most false rest n both.1 (omega arith)) refl
closed_most false (byte ∷ rest) (suc n) h le =
    closed_by byte rest n (λ behind held. closed_most behind rest n held (omega arith)) (omega arith) h (cases_Bool (byte == quote))

-- one more than a number that is there
suc_of : (o : Option ℕ) (n : ℕ) → option_map suc o ≡ Some n → (m : ℕ) × (o ≡ Some m) × (n ≡ suc m)
suc_of None n e = cc
suc_of (Some m) n e = (m, refl, cc)

closes_behind : (byte : ℕ) (rest : List ℕ) (n : ℕ) → ((m : ℕ) → closed_length false rest ≡ Some m → is_closed false (take m rest) ≡ true)
    → closed_length true (byte ∷ rest) ≡ Some n → (is_in_line byte ≡ true) ⊎ (is_in_line byte ≡ false) → is_closed true (take n (byte ∷ rest)) ≡ true
closes_behind byte rest n more h (inl e) =
    let held = rw e at h in
    let (m, is, one) = suc_of (closed_length false rest) n held in
    rw (one, e, more m is) refl
closes_behind byte rest n more h (inr e) = let held = rw e at h in cc

closes_unquoted : (byte : ℕ) (rest : List ℕ) (n : ℕ) → ((m : ℕ) → closed_length (byte == backslash) rest ≡ Some m → is_closed (byte == backslash) (take m rest) ≡ true)
    → cond (is_in_line byte) (option_map suc (closed_length (byte == backslash) rest)) None ≡ Some n → (byte == quote) ≡ false → (is_in_line byte ≡ true) ⊎ (is_in_line byte ≡ false)
    → is_closed false (take n (byte ∷ rest)) ≡ true
closes_unquoted byte rest n more h none (inl e) =
    let held = rw e at h in
    let (m, is, one) = suc_of (closed_length (byte == backslash) rest) n held in
    rw (one, none, e, more m is) refl
closes_unquoted byte rest n more h none (inr e) = let held = rw e at h in cc

closes_by : (byte : ℕ) (rest : List ℕ) (n : ℕ) → ((m : ℕ) → closed_length (byte == backslash) rest ≡ Some m → is_closed (byte == backslash) (take m rest) ≡ true)
    → closed_length false (byte ∷ rest) ≡ Some n → ((byte == quote) ≡ true) ⊎ ((byte == quote) ≡ false) → is_closed false (take n (byte ∷ rest)) ≡ true
closes_by byte rest n more h (inl e) =
    let held = rw e at h in
    let one : n ≡ 1 = cc in
    rw (one, e) refl
closes_by byte rest n more h (inr e) =
    let held = rw e at h in closes_unquoted byte rest n more held e (cases_Bool (is_in_line byte))

closed_is : (behind : Bool) (rest : List ℕ) (n : ℕ) → closed_length behind rest ≡ Some n → is_closed behind (take n rest) ≡ true
closed_is behind [] n h = let none = closed_length-nil behind in cc
closed_is true (byte ∷ rest) n h = closes_behind byte rest n (λ m is. closed_is false rest m is) h (cases_Bool (is_in_line byte))
closed_is false (byte ∷ rest) n h = closes_by byte rest n (λ m is. closed_is (byte == backslash) rest m is) h (cases_Bool (byte == quote))

-- how many bytes it goes on for behind its first
abbrev pub reach : Form → List ℕ → Option ℕ
reach Form.Space rest = Some 0
reach Form.Comment rest = Some (prefix_len is_in_line rest)
reach Form.Word rest = Some (prefix_len is_word_byte rest)
reach Form.Quoted rest = closed_length false rest
reach Form.Bracket rest = Some 0

reach-is : (form : Form) (rest : List ℕ) (m : ℕ) → reach form rest ≡ Some m → (goes_on form (take m rest) ≡ true) × (m ≤ length rest)
reach-is Form.Space rest m is = let e : m ≡ 0 = cc in rw e (refl, omega arith)
reach-is Form.Comment rest m is =
    let e : m ≡ prefix_len is_in_line rest = cc in rw e (list_all-take-prefix_len is_in_line rest, prefix_len-le-length is_in_line rest)
reach-is Form.Word rest m is =
    let e : m ≡ prefix_len is_word_byte rest = cc in rw e (list_all-take-prefix_len is_word_byte rest, prefix_len-le-length is_word_byte rest)
reach-is Form.Quoted rest m is =
    let within = rw is at (closed_length-within false rest) in (closed_is false rest m is, within.1)
reach-is Form.Bracket rest m is = let e : m ≡ 0 = cc in rw e (refl, omega arith)

abbrev Reaches : ℕ → Option ℕ → Type 0
Reaches n None = ⊥
Reaches n (Some m) = n ≤ m

reach-most : (form : Form) (rest : List ℕ) (n : ℕ) → goes_on form (take n rest) ≡ true → n ≤ length rest → Reaches n (reach form rest)
reach-most Form.Space rest n h le = let e = none_left rest n h le in omega arith
reach-most Form.Comment rest n h le = run_most is_in_line rest n h le
reach-most Form.Word rest n h le = run_most is_word_byte rest n h le
reach-most Form.Quoted rest n h le = rw (closed_most false rest n h le) (omega arith)
reach-most Form.Bracket rest n h le = let e = none_left rest n h le in omega arith

-- ---- the longest at a place

longest_is : (byte : ℕ) (rest : List ℕ) (form : Form) (m : ℕ) → form_at byte ≡ Some form → reach form rest ≡ Some m
    → (other : Form) (n : ℕ) → n ≤ suc (length rest) → has_form other (take n (byte ∷ rest)) ≡ true → n ≤ suc m
longest_is byte rest form m at is other zero le h = omega arith
longest_is byte rest form m at is other (suc n) le h =
    let parts = has_form-parts other byte (take n rest) h in
    let begun = form_at-begins byte other parts.0 in
    let same : other ≡ form = cc in
    let P : Form → Type 0 = λ f. Reaches n (reach f rest) in
    let most = subst P same (reach-most other rest n parts.1 (omega arith)) in
    let bound = rw is at most in omega (arith, bound)

pub first_is : (byte : ℕ) (rest : List ℕ) (form : Form) (m : ℕ) → form_at byte ≡ Some form → reach form rest ≡ Some m → IsFirst (byte ∷ rest) (record { form = form; bytes = byte ∷ take m rest })
first_is byte rest form m at is =
    let held = reach-is form rest m is in
    let len : length (take m rest) ≡ m = length-take-le m rest held.1 in
    record {
      begins = ap (λ n. take (suc n) (byte ∷ rest)) (sym len);
      formed = has_form-joined form byte (take m rest) (begins-form_at byte form at) held.0;
      longest = λ other n le h. rw len (longest_is byte rest form m at is other n le h);
    }

nothing_is : (byte : ℕ) (rest : List ℕ) → ((form : Form) → form_at byte ≡ Some form → reach form rest ≡ None)
    → (other : Form) (n : ℕ) → n ≤ suc (length rest) → has_form other (take n (byte ∷ rest)) ≡ true → ⊥
nothing_is byte rest none other zero le h = let never = has_form-nil other in cc
nothing_is byte rest none other (suc n) le h =
    let parts = has_form-parts other byte (take n rest) h in
    let most = reach-most other rest n parts.1 (omega arith) in
    rw (none other (form_at-begins byte other parts.0)) at most

-- ---- what is computed is the longest

-- what so many bytes with a meaning are
abbrev pub piece_of : ℕ → Result (Option Lexeme) Flaw → Piece
piece_of len (Ok None) = Piece.Gap len
piece_of len (Ok (Some lexeme)) = Piece.Found lexeme len
piece_of len (Err flaw) = Piece.Bad flaw.kind flaw.before

word_piece-is : (len : ℕ) (read : Option (Result ℤ NumFault)) → word_piece len read ≡ piece_of len (word_meaning read)
word_piece-is len None = refl
word_piece-is len (Some (Ok number)) = refl
word_piece-is len (Some (Err fault)) = refl

escaped_piece-is : (len : ℕ) (bad : Option ℕ) → escaped_piece len bad ≡ piece_of len (quoted_meaning bad)
escaped_piece-is len None = refl
escaped_piece-is len (Some before) = refl

bracket_piece-is : (bracket : Option Lexeme) → is_some_bracket bracket ≡ true → bracket_piece bracket ≡ piece_of 1 (Ok bracket)
bracket_piece-is None h = cc
bracket_piece-is (Some lexeme) h = refl

pub piece-is : (byte : ℕ) (rest : List ℕ) (form : Form) (m : ℕ) → form_at byte ≡ Some form → reach form rest ≡ Some m
    → piece_by (Some form) byte rest ≡ piece_of (suc m) (meaning_behind form byte (take m rest))
piece-is byte rest Form.Space m at is = let e : m ≡ 0 = cc in rw e refl
piece-is byte rest Form.Comment m at is = let e : prefix_len is_in_line rest ≡ m = cc in ap (λ n. Piece.Gap (suc n)) e
piece-is byte rest Form.Word m at is =
    let e : prefix_len is_word_byte rest ≡ m = cc in
    let word : is_word_byte byte ≡ true = begins-form_at byte Form.Word at in
    let len : prefix_len is_word_byte (byte ∷ rest) ≡ suc m = rw word (omega arith) in
    ap (λ n. word_piece n (read_of (take n (byte ∷ rest)))) len ∙ word_piece-is (suc m) (read_of (byte ∷ take m rest))
piece-is byte rest Form.Quoted m at is = rw is (escaped_piece-is (suc m) (first_bad_escape false (take m rest)))
piece-is byte rest Form.Bracket m at is =
    let e : m ≡ 0 = cc in rw e (bracket_piece-is (bracket_of byte) (begins-form_at byte Form.Bracket at))

-- what begins a text, and that it is computed
abbrev pub IsBegun : List ℕ → Type 0
IsBegun text = (stretch : Stretch) × IsFirst text stretch × (piece_at text ≡ piece_of (length stretch.bytes) (meaning_of stretch.form stretch.bytes))

abbrev pub IsStopped : List ℕ → Type 0
IsStopped text = IsUnformed text (record { kind = kind_of_first text; before = 0 }) × (piece_at text ≡ Piece.Bad (kind_of_first text) 0)

begun : (byte : ℕ) (rest : List ℕ) (form : Form) (m : ℕ) → form_at byte ≡ Some form → reach form rest ≡ Some m → IsBegun (byte ∷ rest)
begun byte rest form m at is =
    let held = reach-is form rest m is in
    let len : suc m ≡ suc (length (take m rest)) = ap suc (sym (length-take-le m rest held.1)) in
    let by_form : piece_at (byte ∷ rest) ≡ piece_by (Some form) byte rest = ap (λ o. piece_by o byte rest) at in (
      record { form = form; bytes = byte ∷ take m rest },
      first_is byte rest form m at is,
      by_form ∙ piece-is byte rest form m at is ∙ ap (λ n. piece_of n (meaning_behind form byte (take m rest))) len,
    )

none_begins : (byte : ℕ) (rest : List ℕ) → form_at byte ≡ None → (form : Form) → form_at byte ≡ Some form → reach form rest ≡ None
none_begins byte rest none form at = cc

unquoted : (byte : ℕ) → form_at byte ≡ None → ((byte == quote) ≡ true) ⊎ ((byte == quote) ≡ false) → (byte == quote) ≡ false
unquoted byte none (inl e) = let begun = form_at-begins byte Form.Quoted e in cc
unquoted byte none (inr e) = e

stopped : (byte : ℕ) (rest : List ℕ) → form_at byte ≡ None → IsStopped (byte ∷ rest)
stopped byte rest none =
    let other = unquoted byte none (cases_Bool (byte == quote)) in
    let kind : kind_of_first (byte ∷ rest) ≡ ScanKind.BadChar = rw other refl in
    let by_form : piece_at (byte ∷ rest) ≡ Piece.Bad ScanKind.BadChar 0 = ap (λ o. piece_by o byte rest) none in
    ((omega arith, nothing_is byte rest (none_begins byte rest none), refl), by_form ∙ ap (λ k. Piece.Bad k 0) (sym kind))

open_quoted : (byte : ℕ) (rest : List ℕ) → form_at byte ≡ Some Form.Quoted → closed_length false rest ≡ None → IsStopped (byte ∷ rest)
open_quoted byte rest at never =
    let is : (byte == quote) ≡ true = begins-form_at byte Form.Quoted at in
    let kind : kind_of_first (byte ∷ rest) ≡ ScanKind.OpenText = rw is refl in
    let by_form : piece_at (byte ∷ rest) ≡ quoted_piece (closed_length false rest) rest = ap (λ o. piece_by o byte rest) at in
    let unclosed : piece_at (byte ∷ rest) ≡ Piece.Bad ScanKind.OpenText 0 = by_form ∙ ap (λ o. quoted_piece o rest) never in
    let none : (form : Form) → form_at byte ≡ Some form → reach form rest ≡ None = λ form other.
    let same : Form.Quoted ≡ form = cc in
    let P : Form → Type 0 = λ f. reach f rest ≡ None in subst P same never in
    ((omega arith, nothing_is byte rest none, refl), unclosed ∙ ap (λ k. Piece.Bad k 0) (sym kind))

by_reach : (byte : ℕ) (rest : List ℕ) (form : Form) (o : Option ℕ) → form_at byte ≡ Some form → reach form rest ≡ o → IsBegun (byte ∷ rest) ⊎ IsStopped (byte ∷ rest)
by_reach byte rest form (Some m) at is = inl (begun byte rest form m at is)
by_reach byte rest Form.Quoted None at is = inr (open_quoted byte rest at is)
by_reach byte rest Form.Space None at is = cc
by_reach byte rest Form.Comment None at is = cc
by_reach byte rest Form.Word None at is = cc
by_reach byte rest Form.Bracket None at is = cc

by_form : (byte : ℕ) (rest : List ℕ) (o : Option Form) → form_at byte ≡ o → IsBegun (byte ∷ rest) ⊎ IsStopped (byte ∷ rest)
by_form byte rest (Some form) at = by_reach byte rest form (reach form rest) at refl
by_form byte rest None at = inr (stopped byte rest at)

-- something begins a text, or nothing does
pub first_of : (byte : ℕ) (rest : List ℕ) → IsBegun (byte ∷ rest) ⊎ IsStopped (byte ∷ rest)
first_of byte rest = by_form byte rest (form_at byte) refl
