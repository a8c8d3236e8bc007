-- Which tokens begin a text, and one of which depth.
use Rattle.std.proofs.Common.{◌≡◌, ℕ, zero, suc, ◌+◌, Bool, true, false, List, [], ◌∷◌, ◌++◌, map, length, All, None, refl, sym, ◌∙◌, ap, subst, ◌≤◌, ◌<◌, arith, codes, bytes_eq}
use Rattle.std.specs.List.{list_any, list_all}
use Rattle.std.specs.Char.{is_ascii_uppercase}
use Rattle.std.proofs.lemmas.List.{append-nil}
use Rattle.std.proofs.lemmas.Slice.Eq.{bytes_eq-Decides}
use Rattle.nl_words.specs.Rows.{rows}
use Rattle.nl_words.specs.Table.{is_name, is_word_byte}
use Rattle.nl_fixed.specs.declared.span.Span.{Span}
use Rattle.nl_tree.specs.declared.declared.Form.{Form}
use Rattle.nl_tree.specs.declared.declared.Form.TheVariants as form
use Rattle.nl_tree.specs.Tree.{Node, depth}
use Rattle.nl_tree.specs.Term.{Term}
use Rattle.nl_tree.specs.Vocabulary.{among, term_named}
use Rattle.nl_tree.specs.Tokens.{Token, IsToken, Tok, class_of, word, mark, marked}
use Rattle.nl_tree.specs.Grammar.{IsText, span_of_first}
use Rattle.nl_tree.specs.BodyFault.{IsReadable, BeginsReadable, BeginsGood, deepest}
use Rattle.nl_parse_grammar.specs.Machine.{State, st, Over, Step, go, stop, feed, run_from, run, start}
use Rattle.nl_parse_grammar.specs.Depth.{least_depth}
use Rattle.nl_parse_grammar.specs.Completion.{Piece, AValue, AVariable, AStatement, AnOf, AnArrow, AName, ABracket, ItsBracket, ItsParen, ItsEnd, pieces, letters, lengths, unused, token_of, nowhere, HasWords, reading, completion_of}
use Rattle.nl_parse_grammar.specs.Laws.{CompletionsAreLeast, BeginningsAreTaken, ModelsHaveWords}
use Rattle.nl_parse_grammar.proofs.Sound.{Reached, ReachedStep, reached_feed}
use Rattle.nl_parse_grammar.proofs.Stack.{fine_state}
use Rattle.nl_parse_grammar.proofs.Taken.{takes_text, taken_text, reached_after}
use Rattle.nl_parse_grammar.proofs.Live.{EndsIn, tok_of, toks, finishes}
use Rattle.nl_parse_grammar.proofs.Deep.{Grows, grows}

-- The machine over lists that are joined.

pub run_stop : (a : List Tok) → run_from stop a ≡ stop
run_stop [] = refl
run_stop (tok ∷ a) = refl

pub run_append : (s : Step) (a b : List Tok) → run_from s (a ++ b) ≡ run_from (run_from s a) b
run_append s [] b = refl
run_append (go s) (tok ∷ a) b = run_append (feed s tok) a b
run_append stop (tok ∷ a) b = sym (run_stop b)

-- where the machine stops, no text begins
pub begins_none : (form : Form) (e : List (List ℕ)) (a after : List Tok) (t : Node) → run (start form e (span_of_first (a ++ after))) a ≡ stop → IsText form e (a ++ after) t → ⊥
begins_none form e a after t q d = cc (takes_text form e (a ++ after) t d, run_append (go (start form e (span_of_first (a ++ after)))) a after, run_stop after, q)

-- nor do more tokens lower it
pub grows_run : (form : Form) (e0 : List (List ℕ)) (w : List Tok) (s : State) (a c : List Tok) (z : State) → Reached form e0 w s (a ++ c) → run s a ≡ go z → least_depth s ≤ least_depth z
grows_run form e0 w s [] c z h q = subst (λ x. Grows (least_depth s) x) q (omega arith)
grows_run form e0 w s (t ∷ a) c z h q = at (feed s t) (grows form e0 w s t (a ++ c) h) (reached_feed form e0 w s t (a ++ c) h) q (λ y k r. grows_run form e0 w y a c z k r)
  where
    at : (x : Step) → Grows (least_depth s) x → ReachedStep form e0 w x (a ++ c) → run_from x a ≡ go z → ((y : State) → Reached form e0 w y (a ++ c) → run y a ≡ go z → least_depth y ≤ least_depth z) → least_depth s ≤ least_depth z
    at (go y) g k r f = omega (arith, g, f y k r)
    at stop g k r f = cc (r, run_stop a)

pub reached_go : (form : Form) (e : List (List ℕ)) (a c : List Tok) (s : State) → run (start form e (span_of_first (a ++ c))) a ≡ go s → Reached form e (a ++ c) s c
reached_go form e a c s q = subst (λ x. ReachedStep form e (a ++ c) x c) q (reached_after form e a c)

-- and every text that they begin has at least that depth
pub least : (form : Form) (e : List (List ℕ)) (a after : List Tok) (s : State) (t : Node) → run (start form e (span_of_first (a ++ after))) a ≡ go s → IsText form e (a ++ after) t → least_depth s ≤ depth t
least form e a after s t q d =
    grows_run form e (a ++ after) s after [] (st (Over t) e []) (subst (λ c. Reached form e (a ++ after) s c) (sym (append-nil after)) (reached_go form e a after s q)) (sym (ap (λ x. run_from x after) q) ∙ sym (run_append (go (start form e (span_of_first (a ++ after)))) a after) ∙ takes_text form e (a ++ after) t d)

module _ (fresh : List (List ℕ) → List ℕ) (is_fresh : (e : List (List ℕ)) → among (fresh e) e ≡ false) where
  completes_to : (form : Form) (e : List (List ℕ)) (a : List Tok) (s : State) → run (start form e (span_of_first (a ++ toks fresh is_fresh (pieces s)))) a ≡ go s → EndsIn (run s (toks fresh is_fresh (pieces s))) (least_depth s) → (t : Node) × IsText form e (a ++ toks fresh is_fresh (pieces s)) t × (depth t ≡ least_depth s)
  completes_to form e a s q f =
      let after = toks fresh is_fresh (pieces s) in
      (f.tree, taken_text form e f.names f.stack (a ++ after) f.tree (run_append (go (start form e (span_of_first (a ++ after)))) a after ∙ ap (λ x. run_from x after) q ∙ f.over), f.deep)

  -- what is taken becomes a text of the least depth
  pub completes_least : (form : Form) (e : List (List ℕ)) (a : List Tok) (s : State) → run (start form e (span_of_first (a ++ toks fresh is_fresh (pieces s)))) a ≡ go s → (t : Node) × IsText form e (a ++ toks fresh is_fresh (pieces s)) t × (depth t ≡ least_depth s)
  completes_least form e a s q = completes_to form e a s q (finishes fresh is_fresh s (fine_state form e (a ++ toks fresh is_fresh (pieces s)) s (toks fresh is_fresh (pieces s)) (reached_go form e a (toks fresh is_fresh (pieces s)) s q)))

-- A name that is longer than others is none of them.

length-letters : (n : ℕ) → length (letters n) ≡ n
length-letters zero = refl
length-letters (suc n) = omega (arith, length-letters n)

apart : (a b : List ℕ) → length a < length b → bytes_eq a b ≡ false
apart a b h = at (bytes_eq a b) refl
  where
    at : (x : Bool) → bytes_eq a b ≡ x → x ≡ false
    at false q = refl
    at true q = absurd (omega (arith, h, ap (λ (c : List ℕ). length c) ((bytes_eq-Decides a b).0 q)))

longer : (n : ℕ) (names : List (List ℕ)) → lengths names < n → among (letters n) names ≡ false
longer n [] h = refl
longer n (name ∷ names) h = rw (apart name (letters n) (omega (arith, h, length-letters n))) (longer n names (omega (arith, h)))

unnamed : (n : ℕ) (table : List Term) → lengths (map (λ (t : Term). t.name) table) < n → term_named table (letters n) ≡ None
unnamed n [] h = refl
unnamed n (t ∷ table) h = rw (apart t.name (letters n) (omega (arith, h, length-letters n))) (unnamed n table (omega (arith, h)))

pub unused_fresh : (table : List Term) (e : List (List ℕ)) → among (unused table e) e ≡ false
unused_fresh table e = longer (suc (lengths e + lengths (map (λ (t : Term). t.name) table))) e (omega arith)

unused_unnamed : (table : List Term) (e : List (List ℕ)) → term_named table (unused table e) ≡ None
unused_unnamed table e = unnamed (suc (lengths e + lengths (map (λ (t : Term). t.name) table))) table (omega arith)

letters_are_word : (n : ℕ) → list_all is_word_byte (letters n) ≡ true
letters_are_word zero = refl
letters_are_word (suc n) = letters_are_word n

letters_are_lower : (n : ℕ) → list_any is_ascii_uppercase (letters n) ≡ false
letters_are_lower zero = refl
letters_are_lower (suc n) = letters_are_lower n

letters_are_name : (n : ℕ) → is_name (letters (suc n)) ≡ true
letters_are_name n = rw (letters_are_word n, letters_are_lower n) refl

-- Completions are tokens of the table.

piece_token : (table : List Term) (p : Piece) → IsToken (token_of table p)
piece_token table AValue = refl
piece_token table AVariable = refl
piece_token table AStatement = refl
piece_token table AnOf = refl
piece_token table AnArrow = refl
piece_token table (AName e) = letters_are_name (lengths e + lengths (map (λ (t : Term). t.name) table))
piece_token table ABracket = tt
piece_token table ItsBracket = tt
piece_token table ItsParen = tt
piece_token table ItsEnd = tt

pub all_tokens : (table : List Term) (ps : List Piece) → All IsToken (map (token_of table) ps)
all_tokens table [] k d h = absurd (omega (arith, h))
all_tokens table (p ∷ ps) zero d h = piece_token table p
all_tokens table (p ∷ ps) (suc k) d h = all_tokens table ps k d (omega (arith, h))

module _ (table : List Term) (has : HasWords table) where
  piece_marked : (p : Piece) → mark table (token_of table p) ≡ tok_of (unused table) (unused_fresh table) p
  piece_marked AValue = ap (λ c. word (codes "true") c nowhere) has.value
  piece_marked AVariable = ap (λ c. word (codes "color") c nowhere) has.variable
  piece_marked AStatement = ap (λ c. word (codes "stop") c nowhere) has.statement
  piece_marked AnOf = ap (λ c. word (codes "of") c nowhere) has.of
  piece_marked AnArrow = ap (λ c. word (codes "->") c nowhere) has.arrow
  piece_marked (AName e) = ap (λ t. word (unused table e) (class_of t) nowhere) (unused_unnamed table e)
  piece_marked ABracket = refl
  piece_marked ItsBracket = refl
  piece_marked ItsParen = refl
  piece_marked ItsEnd = refl

  pub pieces_marked : (ps : List Piece) → marked table (map (token_of table) ps) ≡ toks (unused table) (unused_fresh table) ps
  pieces_marked [] = refl
  pieces_marked (p ∷ ps) = ap (λ x. x ∷ marked table (map (token_of table) ps)) (piece_marked p) ∙ ap (λ xs. tok_of (unused table) (unused_fresh table) p ∷ xs) (pieces_marked ps)

pub marked_append : (table : List Term) (ts us : List Token) → marked table (ts ++ us) ≡ marked table ts ++ marked table us
marked_append table [] us = refl
marked_append table (t ∷ ts) us = ap (λ xs. mark table t ∷ xs) (marked_append table ts us)

joined_text : (form : Form) (names : List (List ℕ)) (table : List Term) (ts us : List Token) (t : Node) → IsReadable form names table (ts ++ us) t → IsText form names (marked table ts ++ marked table us) t
joined_text form names table ts us t d = subst (λ c. IsText form names c t) (marked_append table ts us) d

pub completed : (form : Form) (names : List (List ℕ)) (table : List Term) (has : HasWords table) (ts : List Token) (ps : List Piece) (t : Node) → IsText form names (marked table ts ++ toks (unused table) (unused_fresh table) ps) t → IsReadable form names table (ts ++ map (token_of table) ps) t
completed form names table has ts ps t d = subst (λ c. IsText form names c t) (sym (marked_append table ts (map (token_of table) ps) ∙ ap (λ c. marked table ts ++ c) (pieces_marked table has ps))) d

abbrev Completed : Form → List (List ℕ) → List Term → List Token → Step → Type 0
Completed form names table ts z =
    (t : Node)
    × IsReadable form names table (ts ++ completion_of table z) t
    × All IsToken (completion_of table z)
    × ((after : List Token) (u : Node) → IsReadable form names table (ts ++ after) u → depth t ≤ depth u)

module _ (form : Form) (names : List (List ℕ)) (table : List Term) (t : Token) (ts : List Token) (has : HasWords table) where
  pub not_stop : reading form names table (t ∷ ts) ≡ stop → BeginsReadable form names table (t ∷ ts) → ⊥
  not_stop q b = begins_none form names (marked table (t ∷ ts)) (marked table b.0) b.1 q (joined_text form names table (t ∷ ts) b.0 b.1 b.2.1)

  at_least : (s : State) → reading form names table (t ∷ ts) ≡ go s → (after : List Token) (u : Node) → IsReadable form names table (t ∷ ts ++ after) u → least_depth s ≤ depth u
  at_least s q after u d = least form names (marked table (t ∷ ts)) (marked table after) s u q (joined_text form names table (t ∷ ts) after u d)

  completed_least : (s : State) → reading form names table (t ∷ ts) ≡ go s → (u : Node) × IsReadable form names table (t ∷ ts ++ map (token_of table) (pieces s)) u × (depth u ≡ least_depth s)
  completed_least s q =
      let (u, d, h) = completes_least (unused table) (unused_fresh table) form names (marked table (t ∷ ts)) s q in
      (u, completed form names table has (t ∷ ts) (pieces s) u d, h)

  completed_at : (z : Step) → reading form names table (t ∷ ts) ≡ z → BeginsReadable form names table (t ∷ ts) → Completed form names table (t ∷ ts) z
  completed_at (go s) q b =
      let (u, d, h) = completed_least s q in
      (u, d, all_tokens table (pieces s), λ after v f. subst (λ n. n ≤ depth v) (sym h) (at_least s q after v f))
  completed_at stop q b = absurd (not_stop q b)

  taken_at : (z : Step) → reading form names table (t ∷ ts) ≡ z → BeginsReadable form names table (t ∷ ts) → (s : State) × (reading form names table (t ∷ ts) ≡ go s)
  taken_at (go s) q b = (s, q)
  taken_at stop q b = absurd (not_stop q b)

  pub begins : (s : State) → reading form names table (t ∷ ts) ≡ go s → BeginsReadable form names table (t ∷ ts)
  begins s q = let (u, d, h) = completed_least s q in (map (token_of table) (pieces s), u, (all_tokens table (pieces s), d))

  pub good_at : BeginsGood form names table (t ∷ ts) → (s : State) × (reading form names table (t ∷ ts) ≡ go s) × (least_depth s ≤ deepest)
  good_at (after, u, (all, (d, h))) =
      let (s, q) = taken_at (reading form names table (t ∷ ts)) refl (after, u, (all, d)) in
      (s, q, omega (arith, h, at_least s q after u d))

  pub begins_good : (s : State) → reading form names table (t ∷ ts) ≡ go s → least_depth s ≤ deepest → BeginsGood form names table (t ∷ ts)
  begins_good s q h = let (u, d, k) = completed_least s q in (map (token_of table) (pieces s), u, (all_tokens table (pieces s), (d, omega (arith, h, k))))

-- No tokens begin a text of each form.

nothing_completed : (form : Form) (names : List (List ℕ)) (table : List Term) → HasWords table → (u : Node) × IsReadable form names table (map (token_of table) (pieces (start form names nowhere))) u × (depth u ≡ least_depth (start form names nowhere))
nothing_completed form.Commands names table has =
    let (u, d, h) = completes_least (unused table) (unused_fresh table) form.Commands names [] (start form.Commands names nowhere) refl in
    (u, completed form.Commands names table has [] (pieces (start form.Commands names nowhere)) u d, h)
nothing_completed form.Reporter names table has =
    let (u, d, h) = completes_least (unused table) (unused_fresh table) form.Reporter names [] (start form.Reporter names nowhere) refl in
    (u, completed form.Reporter names table has [] (pieces (start form.Reporter names nowhere)) u d, h)

start_depth : (form : Form) (names : List (List ℕ)) (s : Span) → least_depth (start form names s) ≡ least_depth (start form names nowhere)
start_depth form.Commands names s = refl
start_depth form.Reporter names s = refl

start_is_low : (form : Form) (names : List (List ℕ)) → least_depth (start form names nowhere) ≤ deepest
start_is_low form.Commands names = omega arith
start_is_low form.Reporter names = omega arith

pub completions_are_least : CompletionsAreLeast
completions_are_least form names table (t ∷ ts) has b = completed_at form names table t ts has (reading form names table (t ∷ ts)) refl b
completions_are_least form names table [] has b =
    let (u, d, h) = nothing_completed form names table has in
    (u, d, all_tokens table (pieces (start form names nowhere)), λ after v f. subst (λ n. n ≤ depth v) (start_depth form names (span_of_first (marked table after)) ∙ sym h) (least form names [] (marked table after) (start form names (span_of_first (marked table after))) v refl f))

pub beginnings_are_taken : BeginningsAreTaken
beginnings_are_taken form names table (t ∷ ts) has = (
  (taken_at form names table t ts has (reading form names table (t ∷ ts)) refl, λ b. begins form names table t ts has b.0 b.1),
  (good_at form names table t ts has, λ b. begins_good form names table t ts has b.0 b.1 b.2),
)
beginnings_are_taken form names table [] has =
    let (u, d, h) = nothing_completed form names table has in
    let tokens : All IsToken (map (token_of table) (pieces (start form names nowhere))) = all_tokens table (pieces (start form names nowhere)) in (
      ((λ b. (start form names nowhere, refl)), λ b. (map (token_of table) (pieces (start form names nowhere)), u, (tokens, d))),
      (
        (λ b. (start form names nowhere, refl, start_is_low form names)),
        λ b. (map (token_of table) (pieces (start form names nowhere)), u, (tokens, (d, omega (arith, h, start_is_low form names)))),
      ),
    )

pub models_have_words : ModelsHaveWords
unfolding rows
models_have_words d = record { value = refl; variable = refl; statement = refl; of = refl; arrow = refl }
