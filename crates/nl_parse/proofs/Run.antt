-- The machine over the tokens of a text.
use Rattle.std.proofs.Common.{◌≡◌, ℕ, zero, suc, ◌+◌, ◌<◌, ◌≤◌, List, [], ◌∷◌, ◌++◌, take, get_or, slice_get, Some, option_map, length, add-one, refl, sym, subst, ap, ◌∙◌, arith}
use Rattle.std.proofs.lemmas.Option.{slice_get_read}
use Rattle.nl_fixed.specs.declared.span.Span.{Span}
use Rattle.nl_scan.specs.declared.token.Token.{Token}
use Rattle.nl_scan.specs.declared.token.Lexeme.TheVariants as scanned
use Rattle.nl_tree.specs.declared.declared.Form.{Form}
use Rattle.nl_tree.specs.Term.{Term}
use Rattle.nl_tree.specs.Tree.{Node, depth}
use Rattle.nl_tree.specs.Tokens.{Tok, end, mark, marked, span_of}
use Rattle.nl_tree.specs.Tokens as plain
use Rattle.nl_tree.specs.Grammar.{span_of_first}
use Rattle.nl_tree.specs.BodyFault.{IsGood, IsTextFault, ends_at, deepest}
use Rattle.nl_parse_grammar.specs.Texts.{plain_token, plain_tokens}
use Rattle.nl_parse_grammar.specs.Machine.{State, st, Frame, Over, Step, go, stop, feed, run_from, run, start}
use Rattle.nl_parse_grammar.specs.Depth.{least_depth}
use Rattle.nl_parse_grammar.specs.Fault.{reading_to}
use Rattle.nl_parse_grammar.specs.Completion.{HasWords}
use Rattle.nl_parse.specs.Outcome.{Refuses}
use Rattle.nl_parse.specs.inner.Stops.{first_span, Stops, StopsAt, StopsIn}
use Rattle.nl_tree.specs.declared.faults.BodyKind.{BodyKind}
use Rattle.nl_parse.specs.declared.body.BodyRefusal.{BodyRefusal}
use Rattle.nl_parse_grammar.proofs.Taken.{taken_text}
use Rattle.nl_parse_grammar.proofs.Good.{run_append}
use Rattle.nl_parse_grammar.proofs.FaultKinds.{faults_are_told}

-- the tokens of a text with what the rows of their words make of them
abbrev pub toks_of : List Term → List ℕ → List Token → List Tok
toks_of table text ts = marked table (plain_tokens text ts)

abbrev pub tok_of : List Term → List ℕ → Token → Tok
tok_of table text t = mark table (plain_token text t)

-- one token more
pub run_next : (table : List Term) (text : List ℕ) (s : Step) (ts : List Token) (k : ℕ) (t : Token) (z : State) → k < length ts → t ≡ get_or ts k t → run_from s (take k (toks_of table text ts)) ≡ go z → run_from s (take (k + 1) (toks_of table text ts)) ≡ feed z (tok_of table text t)
run_next table text s ts k t z h is q = rw (add-one k) (at s ts k h q) ∙ ap (λ u. feed z (tok_of table text u)) (sym is)
  where
    at : (s : Step) (ts : List Token) (k : ℕ) → k < length ts → run_from s (take k (toks_of table text ts)) ≡ go z → run_from s (take (suc k) (toks_of table text ts)) ≡ feed z (tok_of table text (get_or ts k t))
    at s [] k h q = absurd (omega (arith, h))
    at s (u ∷ ts) zero h q = rw q refl
    at (go y) (u ∷ ts) (suc k) h q = at (feed y (tok_of table text u)) ts k (omega (arith, h)) q
    at stop (u ∷ ts) (suc k) h q = cc q

-- a stop at the token that stands there
pub stops_in : (table : List Term) (text : List ℕ) (s : State) (ts : List Token) (k : ℕ) (t : Token) (z : State) (r : BodyRefusal) → k < length ts → t ≡ get_or ts k t → run_from (go s) (take k (toks_of table text ts)) ≡ go z → least_depth z ≤ deepest → StopsAt z (tok_of table text t) k r → StopsIn table text s ts r
stops_in table text s ts k t z BodyRefusal.NoMemory h is q small stops = tt
stops_in table text s ts k t z (BodyRefusal.Fault kind j) h is q small (same, stops) =
    let at : slice_get ts k ≡ Some t = slice_get_read ts (length ts) k t refl h is in
    (z, t, (subst (λ n. slice_get ts n ≡ Some t) (sym same) at, subst (λ n. run_from (go s) (take n (toks_of table text ts)) ≡ go z) (sym same) q, small, stops))

pub all_toks : (table : List Term) (text : List ℕ) (ts : List Token) (k : ℕ) → length ts ≤ k → take k (toks_of table text ts) ≡ toks_of table text ts
all_toks table text [] zero h = refl
all_toks table text [] (suc k) h = refl
all_toks table text (t ∷ ts) zero h = absurd (omega (arith, h))
all_toks table text (t ∷ ts) (suc k) h = ap (λ us. tok_of table text t ∷ us) (all_toks table text ts k (omega (arith, h)))

pub toks_length : (table : List Term) (text : List ℕ) (ts : List Token) → length (toks_of table text ts) ≡ length ts
toks_length table text [] = refl
toks_length table text (t ∷ ts) = ap suc (toks_length table text ts)

-- the span of a token is that of the text
span_marked : (table : List Term) (text : List ℕ) (t : Token) → span_of (tok_of table text t) ≡ t.span
span_marked table text t = at t.lexeme
  where
    at : (l : _) → span_of (plain.marked_as table t.span (Rattle.nl_parse_grammar.specs.Texts.lexeme_as text t l)) ≡ t.span
    at scanned.Word = refl
    at (scanned.Number n) = refl
    at scanned.Text = refl
    at scanned.Open = refl
    at scanned.Close = refl
    at scanned.OpenParen = refl
    at scanned.CloseParen = refl

-- the whole text, with what ends it
abbrev pub whole : List ℕ → List Token → Span → List plain.Token
whole text ts e = plain_tokens text ts ++ ends_at e ∷ []

whole_marked : (table : List Term) (text : List ℕ) (ts : List Token) (e : Span) → marked table (whole text ts e) ≡ toks_of table text ts ++ end e ∷ []
whole_marked table text [] e = refl
whole_marked table text (t ∷ ts) e = ap (λ us. tok_of table text t ∷ us) (whole_marked table text ts e)

first_marked : (table : List Term) (text : List ℕ) (ts : List Token) (e : Span) → span_of_first (marked table (whole text ts e)) ≡ first_span ts e
first_marked table text [] e = refl
first_marked table text (t ∷ ts) e = span_marked table text t

take_within : (a : List Tok) (b : List Tok) (k : ℕ) → k ≤ length a → take k (a ++ b) ≡ take k a
take_within a b zero h = refl
take_within [] b (suc k) h = absurd (omega (arith, h))
take_within (t ∷ a) b (suc k) h = ap (λ us. t ∷ us) (take_within a b k (omega (arith, h)))

-- where the machine has come to over the whole text
pub reading_within : (f : Form) (names : List (List ℕ)) (table : List Term) (text : List ℕ) (ts : List Token) (e : Span) (k : ℕ) → k ≤ length ts → reading_to f names table (whole text ts e) k ≡ run_from (go (start f names (first_span ts e))) (take k (toks_of table text ts))
reading_within f names table text ts e k h =
    ap (λ a. run (start f names (span_of_first (marked table (whole text ts e)))) (take k a)) (whole_marked table text ts e)
    ∙ ap (λ a. run (start f names (span_of_first (marked table (whole text ts e)))) a) (take_within (toks_of table text ts) (end e ∷ []) k (subst (λ n. k ≤ n) (sym (toks_length table text ts)) h))
    ∙ ap (λ r. run (start f names r) (take k (toks_of table text ts))) (first_marked table text ts e)

-- the machine has the tree of the whole text
pub good_text : (f : Form) (names : List (List ℕ)) (table : List Term) (text : List ℕ) (ts : List Token) (e : Span) (s : State) (t : Node) (known : List (List ℕ)) (K : List Frame) → run_from (go (start f names (first_span ts e))) (toks_of table text ts) ≡ go s → feed s (end e) ≡ go (st (Over t) known K) → depth t ≤ deepest → IsGood f names table (whole text ts e) t
good_text f names table text ts e s t known K q r h =
    let a = toks_of table text ts in
    let z = start f names (first_span ts e) in
    let all : run (start f names (span_of_first (marked table (whole text ts e)))) (marked table (whole text ts e)) ≡ go (st (Over t) known K) =
    ap (λ p. run (start f names p) (marked table (whole text ts e))) (first_marked table text ts e)
    ∙ ap (λ b. run z b) (whole_marked table text ts e)
    ∙ run_append (go z) a (end e ∷ [])
    ∙ ap (λ y. run_from y (end e ∷ [])) q
    ∙ r in
    (taken_text f names known K (marked table (whole text ts e)) t all, h)

-- what stops at a token of the whole text
refused_by : (f : Form) (names : List (List ℕ)) (table : List Term) (w : List plain.Token) (k : ℕ) (z : State) (t : plain.Token) (kind : BodyKind) → HasWords table → k < length w → reading_to f names table w k ≡ go z → least_depth z ≤ deepest → slice_get w k ≡ Some t → Stops z (mark table t) kind → IsTextFault f names table w k kind
refused_by f names table w k z t BodyKind.TooDeep words within q small at (y, (go_y, deep)) = (faults_are_told f names table w k z t words within q small at).1 y go_y deep
refused_by f names table w k z t BodyKind.UnknownName words within q small at (stops, kind) = subst (IsTextFault f names table w k) kind ((faults_are_told f names table w k z t words within q small at).0 stops)
refused_by f names table w k z t BodyKind.Unexpected words within q small at (stops, kind) = subst (IsTextFault f names table w k) kind ((faults_are_told f names table w k z t words within q small at).0 stops)

token_within : (text : List ℕ) (ts : List Token) (e : Span) (k : ℕ) (t : Token) → slice_get ts k ≡ Some t → (slice_get (whole text ts e) k ≡ Some (plain_token text t)) × (k < length ts) × (k < length (whole text ts e))
token_within text [] e zero t h = cc h
token_within text [] e (suc k) t h = cc h
token_within text (u ∷ ts) e zero t h = (ap (option_map (plain_token text)) h, omega arith, omega arith)
token_within text (u ∷ ts) e (suc k) t h = let (at, before, within) = token_within text ts e k t h in (at, omega (arith, before), omega (arith, within))

token_end : (text : List ℕ) (ts : List Token) (e : Span) → (slice_get (whole text ts e) (length ts) ≡ Some (ends_at e)) × (length ts < length (whole text ts e))
token_end text [] e = (refl, omega arith)
token_end text (t ∷ ts) e = let (at, within) = token_end text ts e in (at, omega (arith, within))

pub refused_within : (f : Form) (names : List (List ℕ)) (table : List Term) (text : List ℕ) (ts : List Token) (e : Span) (s : State) (r : BodyRefusal) → HasWords table → s ≡ start f names (first_span ts e) → StopsIn table text s ts r → Refuses f names table (whole text ts e) r
refused_within f names table text ts e s BodyRefusal.NoMemory words q h = tt
refused_within f names table text ts e s (BodyRefusal.Fault kind k) words q (z, t, (at, run_z, small, stops)) =
    let (there, before, within) = token_within text ts e k t at in
    let here : reading_to f names table (whole text ts e) k ≡ go z = reading_within f names table text ts e k (omega (arith, before)) ∙ ap (λ y. run_from (go y) (take k (toks_of table text ts))) (sym q) ∙ run_z in
    refused_by f names table (whole text ts e) k z (plain_token text t) kind words within here small there stops

-- and at what ends it
pub refused_end : (f : Form) (names : List (List ℕ)) (table : List Term) (text : List ℕ) (ts : List Token) (e : Span) (s : State) (r : BodyRefusal) → HasWords table → run_from (go (start f names (first_span ts e))) (toks_of table text ts) ≡ go s → least_depth s ≤ deepest → StopsAt s (end e) (length ts) r → Refuses f names table (whole text ts e) r
refused_end f names table text ts e s BodyRefusal.NoMemory words q small h = tt
refused_end f names table text ts e s (BodyRefusal.Fault kind k) words q small (at, stops) =
    let z = start f names (first_span ts e) in
    let (there, within) = token_end text ts e in
    let here : reading_to f names table (whole text ts e) (length ts) ≡ go s = reading_within f names table text ts e (length ts) (omega arith) ∙ ap (run_from (go z)) (all_toks table text ts (length ts) (omega arith)) ∙ q in
    subst (λ n. IsTextFault f names table (whole text ts e) n kind) (sym at) (refused_by f names table (whole text ts e) (length ts) s (ends_at e) kind words within here small there stops)
