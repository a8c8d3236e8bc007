-- The laws of the cuts of a text.
use Rattle.std.proofs.Common.{◌≡◌, ℕ, zero, suc, ◌+◌, ◌<◌, ◌≤◌, ◌⊎◌, inl, inr, true, false, List, [], ◌∷◌, ◌++◌, length, drop, take, Option, Some, None, Result, Ok, Err, refl, ap, sym, ◌∙◌, subst, arith, length-append, length-drop}
use Rattle.std.specs.Str.{IsUtf8, is_utf8}
use Rattle.std.proofs.lemmas.Bool.{cases_Bool, cases_lt}
use Rattle.std.proofs.lemmas.List.{drop-drop, length-take, take-append-drop}
use Rattle.std.proofs.lemmas.Str.{IsUtf8-from_is_utf8, is_utf8-from_IsUtf8}
use Rattle.nl_scan.specs.declared.token.Lexeme.{Lexeme}
use Rattle.nl_scan.specs.declared.token.Token.{Token}
use Rattle.nl_scan.specs.declared.token.ScanKind.{ScanKind}
use Rattle.nl_scan.specs.declared.pieces.Form.{Form}
use Rattle.nl_scan.specs.declared.pieces.Piece.{Piece}
use Rattle.nl_scan.specs.Forms.{Flaw, has_form, meaning_of}
use Rattle.nl_scan.specs.Faults.{ScanFault, text_limit}
use Rattle.nl_scan.specs.Tokens.{tokens_of}
use Rattle.nl_scan.specs.inner.Pieces.{cut_from, after_piece, token_first, piece_at}
use Rattle.nl_scan.specs.Cuts.{Stretch, IsFirst, IsSound, IsCutTo, IsCut, joined, token_before, tokens_in, kind_of_first, IsFlaw, IsCutToFault, IsTokens, IsFault, TextsAreCutOnce, StretchesJoin, FaultsAreUnique, FaultOrTokens, TokensAreComputed, FaultsAreComputed, AreMeant, TokensAreMeant}
use Rattle.nl_scan.proofs.Runs.{form_at-begins}
use Rattle.nl_scan.proofs.Firsts.{piece_of, IsBegun, IsStopped, first_of, has_form-nil, has_form-parts}
use Rattle.nl_scan.proofs.Cutting.{tokens_of-long, tokens_of-no_text, tokens_of-text}

-- ---- the stretch that begins a text

first_length : (text : List ℕ) (s : Stretch) → IsFirst text s → length s.bytes ≤ length text
first_length text s first =
    let e = ap length first.begins ∙ length-take (length s.bytes) text in omega arith

some_bytes : (form : Form) (bytes : List ℕ) → has_form form bytes ≡ true → 0 < length bytes
some_bytes form [] h = let never = has_form-nil form in cc
some_bytes form (byte ∷ rest) h = omega arith

one_form : (a b : Form) (bytes : List ℕ) → has_form a bytes ≡ true → has_form b bytes ≡ true → a ≡ b
one_form a b [] p q = let never = has_form-nil a in cc
one_form a b (byte ∷ rest) p q =
    let first = form_at-begins byte a (has_form-parts a byte rest p).0 in
    let second = form_at-begins byte b (has_form-parts b byte rest q).0 in cc

formed_in : (text : List ℕ) (s : Stretch) → IsFirst text s → has_form s.form (take (length s.bytes) text) ≡ true
formed_in text s first = ap (has_form s.form) (sym first.begins) ∙ first.formed

same_length : (text : List ℕ) (a b : Stretch) → IsFirst text a → IsFirst text b → length a.bytes ≡ length b.bytes
same_length text a b p q =
    let up = q.longest a.form (length a.bytes) (first_length text a p) (formed_in text a p) in
    let down = p.longest b.form (length b.bytes) (first_length text b q) (formed_in text b q) in omega arith

same_stretch : (a b : Stretch) → a.form ≡ b.form → a.bytes ≡ b.bytes → a ≡ b
same_stretch a b p q =
    let by_form : Form → Stretch = λ form. record { form = form; bytes = a.bytes } in
    let by_bytes : List ℕ → Stretch = λ bytes. record { form = b.form; bytes = bytes } in ap by_form p ∙ ap by_bytes q

one_first : (text : List ℕ) (a b : Stretch) → IsFirst text a → IsFirst text b → a ≡ b
one_first text a b p q =
    let len = same_length text a b p q in
    let bytes : a.bytes ≡ b.bytes = p.begins ∙ ap (λ n. take n text) len ∙ sym q.begins in
    let form : a.form ≡ b.form = one_form a.form b.form a.bytes p.formed (ap (has_form b.form) bytes ∙ q.formed) in
    same_stretch a b form bytes

-- ---- where no more gaps and tokens stand

abbrev IsEnd : List ℕ → Type 0
IsEnd behind = (behind ≡ []) ⊎ ((flaw : Flaw) × IsFlaw behind flaw)

no_first : (s : Stretch) → IsFirst [] s → ⊥
no_first s first =
    let some = some_bytes s.form s.bytes first.formed in
    let none = first_length [] s first in omega arith

not_sound : (text : List ℕ) (s : Stretch) (flaw : Flaw) → IsFirst text s → IsSound s → IsFlaw text flaw → ⊥
not_sound text s flaw first (lexeme, sound) (inl (other, begun, flawed)) =
    let same = one_first text s other first begun in
    let meaning : Stretch → Result (Option Lexeme) Flaw = λ t. meaning_of t.form t.bytes in
    let e = ap meaning same in cc
not_sound text s flaw first sound (inr (some, none, is)) = none s.form (length s.bytes) (first_length text s first) (formed_in text s first)

ends : (text : List ℕ) (s : Stretch) → IsFirst text s → IsSound s → IsEnd text → ⊥
ends text s first sound (inl none) = let P : List ℕ → Type 0 = λ t. IsFirst t s in no_first s (subst P none first)
ends text s first sound (inr (flaw, is)) = not_sound text s flaw first sound is

-- ---- a text is cut in one way

cut_same : (text : List ℕ) (a b : List Stretch) (x y : List ℕ) → IsCutTo text a x → IsCutTo text b y → IsEnd x → IsEnd y → (a ≡ b) × (x ≡ y)
cut_same text [] [] x y p q ex ey = (refl, sym p ∙ q)
cut_same text [] (s ∷ b) x y p q ex ey = absurd (ends text s q.0 q.1 (subst IsEnd (sym p) ex))
cut_same text (r ∷ a) [] x y p q ex ey = absurd (ends text r p.0 p.1 (subst IsEnd (sym q) ey))
cut_same text (r ∷ a) (s ∷ b) x y p q ex ey =
    let same = one_first text r s p.0 q.0 in
    let P : Stretch → Type 0 = λ t. IsCutTo (drop (length t.bytes) text) a x in
    let rest = cut_same (drop (length s.bytes) text) a b x y (subst P same p.2) q.2 ex ey in (cc, rest.1)

flaw_same : (text : List ℕ) (f g : Flaw) → IsFlaw text f → IsFlaw text g → f ≡ g
flaw_same text f g (inl (r, first, is)) (inl (s, second, also)) =
    let same = one_first text r s first second in
    let meaning : Stretch → Result (Option Lexeme) Flaw = λ t. meaning_of t.form t.bytes in
    let e = ap meaning same in cc
flaw_same text f g (inl (r, first, is)) (inr (some, none, also)) = absurd (none r.form (length r.bytes) (first_length text r first) (formed_in text r first))
flaw_same text f g (inr (some, none, is)) (inl (s, second, also)) = absurd (none s.form (length s.bytes) (first_length text s second) (formed_in text s second))
flaw_same text f g (inr (some, none, is)) (inr (more, never, also)) = is ∙ sym also

pub texts_are_cut_once : TextsAreCutOnce
texts_are_cut_once text a b p q = (cut_same text a b [] [] p q (inl refl) (inl refl)).0

pub stretches_join : StretchesJoin
stretches_join text [] p = sym p
stretches_join text (s ∷ stretches) (first, sound, rest) =
    let behind = stretches_join (drop (length s.bytes) text) stretches rest in
    ap (λ bytes. bytes ++ joined stretches) first.begins ∙ ap (λ bytes. take (length s.bytes) text ++ bytes) behind ∙ take-append-drop (length s.bytes) text

-- ---- what is computed is the cut

abbrev Says : ℕ → List ℕ → Result (List Token) ScanFault → Type 0
Says at text (Ok tokens) = (stretches : List Stretch) × IsCut text stretches × (tokens ≡ tokens_in at stretches)
Says at text (Err fault) =
    (stretches : List Stretch) × (behind : List ℕ) × (flaw : Flaw) × IsCutTo text stretches behind × IsFlaw behind flaw
    × (fault ≡ record { kind = flaw.kind; place = at + (length (joined stretches) + flaw.before) })

abbrev placed : ScanKind → ℕ → ScanFault
placed kind place = record { kind = kind; place = place }

later : (at : ℕ) (s : Stretch) (stretches : List Stretch) (before : ℕ) → at + length s.bytes + (length (joined stretches) + before) ≡ at + (length (joined (s ∷ stretches)) + before)
later at s stretches before = rw (length-append s.bytes (joined stretches)) (omega arith)

says_gap : (at : ℕ) (text : List ℕ) (s : Stretch) (r : Result (List Token) ScanFault) → IsFirst text s → meaning_of s.form s.bytes ≡ Ok None
    → Says (at + length s.bytes) (drop (length s.bytes) text) r → Says at text r
says_gap at text s (Ok tokens) first is (stretches, cut, e) =
    (s ∷ stretches, (first, (None, is), cut), e ∙ ap (λ m. token_before m at (length s.bytes) (tokens_in (at + length s.bytes) stretches)) (sym is))
says_gap at text s (Err fault) first is (stretches, behind, flaw, cut, flawed, e) =
    (s ∷ stretches, behind, flaw, (first, (None, is), cut), flawed, e ∙ ap (placed flaw.kind) (later at s stretches flaw.before))

says_token : (at : ℕ) (text : List ℕ) (s : Stretch) (lexeme : Lexeme) (r : Result (List Token) ScanFault) → IsFirst text s → meaning_of s.form s.bytes ≡ Ok (Some lexeme)
    → Says (at + length s.bytes) (drop (length s.bytes) text) r → Says at text (token_first (record { lexeme = lexeme; span = record { start = at; len = length s.bytes } }) r)
says_token at text s lexeme (Ok tokens) first is (stretches, cut, e) =
    let token : Token = record { lexeme = lexeme; span = record { start = at; len = length s.bytes } } in (
      s ∷ stretches,
      (first, (Some lexeme, is), cut),
      ap (λ (more : List Token). token ∷ more) e ∙ ap (λ m. token_before m at (length s.bytes) (tokens_in (at + length s.bytes) stretches)) (sym is),
    )
says_token at text s lexeme (Err fault) first is (stretches, behind, flaw, cut, flawed, e) =
    (s ∷ stretches, behind, flaw, (first, (Some lexeme, is), cut), flawed, e ∙ ap (placed flaw.kind) (later at s stretches flaw.before))

at_once : (at before : ℕ) → at + before ≡ at + (0 + before)
at_once at before = omega arith

says_by : (at : ℕ) (text : List ℕ) (next : ℕ → Result (List Token) ScanFault) (s : Stretch) (m : Result (Option Lexeme) Flaw) → IsFirst text s → meaning_of s.form s.bytes ≡ m
    → Says (at + length s.bytes) (drop (length s.bytes) text) (next (length s.bytes)) → Says at text (after_piece at next (piece_of (length s.bytes) m))
says_by at text next s (Ok None) first is rest = says_gap at text s (next (length s.bytes)) first is rest
says_by at text next s (Ok (Some lexeme)) first is rest = says_token at text s lexeme (next (length s.bytes)) first is rest
says_by at text next s (Err flaw) first is rest = ([], text, flaw, refl, inl (s, first, is), ap (placed flaw.kind) (at_once at flaw.before))

says_first : (at : ℕ) (text : List ℕ) (next : ℕ → Result (List Token) ScanFault) → IsBegun text ⊎ IsStopped text
    → ((n : ℕ) → 0 < n → n ≤ length text → Says (at + n) (drop n text) (next n)) → Says at text (after_piece at next (piece_at text))
says_first at text next (inl (s, first, is)) more =
    let P : Piece → Type 0 = λ piece. Says at text (after_piece at next piece) in
    let some = some_bytes s.form s.bytes first.formed in
    subst P (sym is) (says_by at text next s (meaning_of s.form s.bytes) first refl (more (length s.bytes) some (first_length text s first)))
says_first at text next (inr (unformed, is)) more =
    let P : Piece → Type 0 = λ piece. Says at text (after_piece at next piece) in
    let flaw : Flaw = record { kind = kind_of_first text; before = 0 } in
    subst P (sym is) ([], text, flaw, refl, inr unformed, ap (placed (kind_of_first text)) (at_once at 0))

cut_from-says : (room at : ℕ) (text : List ℕ) → length text ≤ room → Says at text (cut_from room at text)
cut_from-says zero at [] le = ([], refl, refl)
cut_from-says zero at (byte ∷ rest) le = absurd (omega arith)
cut_from-says (suc room) at [] le = ([], refl, refl)
cut_from-says (suc room) at (byte ∷ rest) le =
    says_first at (byte ∷ rest) (λ len. cut_from room (at + len) (drop len (byte ∷ rest))) (first_of byte rest)
    (λ n some within. cut_from-says room (at + n) (drop n (byte ∷ rest)) (simp length-drop (omega arith)))

-- ---- the tokens of a text, or its fault

abbrev IsOutcome : List ℕ → Result (List Token) ScanFault → Type 0
IsOutcome text (Ok tokens) = IsTokens text tokens
IsOutcome text (Err fault) = IsFault text fault

outcome_of_cut : (text : List ℕ) (r : Result (List Token) ScanFault) → length text ≤ text_limit → IsUtf8 text → Says 0 text r → IsOutcome text r
outcome_of_cut text (Ok tokens) short is says = (short, is, says)
outcome_of_cut text (Err fault) short is (stretches, behind, flaw, cut, flawed, e) =
    let place : 0 + (length (joined stretches) + flaw.before) ≡ length (joined stretches) + flaw.before = omega arith in
    inr (inr (short, is, (stretches, behind, flaw, cut, flawed, e ∙ ap (placed flaw.kind) place)))

outcome_of_text : (text : List ℕ) → length text ≤ text_limit → (is_utf8 text ≡ true) ⊎ (is_utf8 text ≡ false) → IsOutcome text (tokens_of text)
outcome_of_text text short (inl e) =
    let is = IsUtf8-from_is_utf8 text e in
    subst (IsOutcome text) (sym (tokens_of-text text short is)) (outcome_of_cut text (cut_from (length text) 0 text) short is (cut_from-says (length text) 0 text (omega arith)))
outcome_of_text text short (inr e) =
    let none : IsUtf8 text → ⊥ = λ is. (let also = is_utf8-from_IsUtf8 text is in cc) in
    subst (IsOutcome text) (sym (tokens_of-no_text text short none)) (inr (inl (short, none, refl)))

outcome_by : (text : List ℕ) → (text_limit < length text) ⊎ (length text ≤ text_limit) → IsOutcome text (tokens_of text)
outcome_by text (inl long) = subst (IsOutcome text) (sym (tokens_of-long text long)) (inl (long, refl))
outcome_by text (inr short) = outcome_of_text text short (cases_Bool (is_utf8 text))

outcome_of : (text : List ℕ) → IsOutcome text (tokens_of text)
outcome_of text = outcome_by text (cases_lt text_limit (length text))

tokens_same : (text : List ℕ) (a b : List Token) → IsTokens text a → IsTokens text b → a ≡ b
tokens_same text a b (short, is, (p, cut, e)) (short2, is2, (q, cut2, e2)) =
    e ∙ ap (tokens_in 0) (texts_are_cut_once text p q cut cut2) ∙ sym e2

miscut_same : (text : List ℕ) (a b : ScanFault) → IsCutToFault text a → IsCutToFault text b → a ≡ b
miscut_same text a b (p, x, f, cut, flawed, e) (q, y, g, cut2, flawed2, e2) =
    let same = cut_same text p q x y cut cut2 (inr (f, flawed)) (inr (g, flawed2)) in
    let P : List ℕ → Type 0 = λ t. IsFlaw t f in
    let flaws = flaw_same y f g (subst P same.1 flawed) flawed2 in
    let made : List Stretch → Flaw → ScanFault = λ s flaw. placed flaw.kind (length (joined s) + flaw.before) in
    e ∙ ap (λ s. made s f) same.0 ∙ ap (made q) flaws ∙ sym e2

pub faults_are_unique : FaultsAreUnique
faults_are_unique text a b (inl (long, e)) (inl (also, e2)) = e ∙ sym e2
faults_are_unique text a b (inl (long, e)) (inr (inl (short, none, e2))) = absurd (omega arith)
faults_are_unique text a b (inl (long, e)) (inr (inr (short, is, cut))) = absurd (omega arith)
faults_are_unique text a b (inr (inl (short, none, e))) (inl (long, e2)) = absurd (omega arith)
faults_are_unique text a b (inr (inl (short, none, e))) (inr (inl (short2, none2, e2))) = e ∙ sym e2
faults_are_unique text a b (inr (inl (short, none, e))) (inr (inr (short2, is, cut))) = absurd (none is)
faults_are_unique text a b (inr (inr (short, is, cut))) (inl (long, e2)) = absurd (omega arith)
faults_are_unique text a b (inr (inr (short, is, cut))) (inr (inl (short2, none, e2))) = absurd (none is)
faults_are_unique text a b (inr (inr (short, is, cut))) (inr (inr (short2, is2, cut2))) = miscut_same text a b cut cut2

not_both : (text : List ℕ) (tokens : List Token) (fault : ScanFault) → IsTokens text tokens → IsFault text fault → ⊥
not_both text tokens fault (short, is, cut) (inl (long, e)) = omega arith
not_both text tokens fault (short, is, cut) (inr (inl (short2, none, e))) = none is
not_both text tokens fault (short, is, (p, cut, t)) (inr (inr (short2, is2, (q, y, g, cut2, flawed, e)))) =
    let same = cut_same text p q [] y cut cut2 (inl refl) (inr (g, flawed)) in
    let P : List ℕ → Type 0 = λ t. IsFlaw t g in no_flaw g (subst P (sym same.1) flawed)
  where
    no_flaw : (f : Flaw) → IsFlaw [] f → ⊥
    no_flaw f (inl (s, first, m)) = no_first s first
    no_flaw f (inr (some, none, m)) = omega arith

outcome_same : (text : List ℕ) (r s : Result (List Token) ScanFault) → IsOutcome text r → IsOutcome text s → r ≡ s
outcome_same text (Ok a) (Ok b) p q = ap Ok (tokens_same text a b p q)
outcome_same text (Ok a) (Err f) p q = absurd (not_both text a f p q)
outcome_same text (Err f) (Ok a) p q = absurd (not_both text a f q p)
outcome_same text (Err f) (Err g) p q = ap Err (faults_are_unique text f g p q)

pub tokens_are_computed : TokensAreComputed
tokens_are_computed text tokens = (λ e. subst (IsOutcome text) e (outcome_of text), λ is. outcome_same text (tokens_of text) (Ok tokens) (outcome_of text) is)

pub faults_are_computed : FaultsAreComputed
faults_are_computed text fault = (λ e. subst (IsOutcome text) e (outcome_of text), λ is. outcome_same text (tokens_of text) (Err fault) (outcome_of text) is)

fault_by : (text : List ℕ) (r : Result (List Token) ScanFault) → IsOutcome text r → ((tokens : List Token) → IsTokens text tokens → ⊥) → (fault : ScanFault) × IsFault text fault
fault_by text (Ok tokens) is none = absurd (none tokens is)
fault_by text (Err fault) is none = (fault, is)

pub fault_or_tokens : FaultOrTokens
fault_or_tokens text = (λ (fault, is) tokens cut. not_both text tokens fault cut is, fault_by text (tokens_of text) (outcome_of text))

-- ---- each token is what its bytes say

meant_by : (text : List ℕ) (at : ℕ) (s : Stretch) (m : Result (Option Lexeme) Flaw) (tokens : List Token) → IsFirst (drop at text) s → meaning_of s.form s.bytes ≡ m
    → AreMeant text tokens → AreMeant text (token_before m at (length s.bytes) tokens)
meant_by text at s (Ok None) tokens first is rest = rest
meant_by text at s (Err flaw) tokens first is rest = rest
meant_by text at s (Ok (Some lexeme)) tokens first is rest =
    ((s.form, ap (has_form s.form) (sym first.begins) ∙ first.formed, ap (meaning_of s.form) (sym first.begins) ∙ is), rest)

meant_in : (text : List ℕ) (at : ℕ) (stretches : List Stretch) (behind : List ℕ) → IsCutTo (drop at text) stretches behind → AreMeant text (tokens_in at stretches)
meant_in text at [] behind cut = tt
meant_in text at (s ∷ stretches) behind (first, sound, rest) =
    let P : List ℕ → Type 0 = λ t. IsCutTo t stretches behind in
    let more = meant_in text (at + length s.bytes) stretches behind (subst P (drop-drop (length s.bytes) at text) rest) in
    meant_by text at s (meaning_of s.form s.bytes) (tokens_in (at + length s.bytes) stretches) first refl more

pub tokens_are_meant : TokensAreMeant
tokens_are_meant text tokens e =
    let (short, is, (stretches, cut, same)) = (tokens_are_computed text tokens).0 e in
    subst (AreMeant text) (sym same) (meant_in text 0 stretches [] cut)
