-- A name is known before a token in some text that can still be read exactly where the machine's state knows it.
use Rattle.std.proofs.Common.{◌≡◌, ℕ, suc, Bool, true, false, not, ◌&&◌, ◌||◌, List, [], ◌∷◌, ◌++◌, length, refl, sym, ◌∙◌, ap, ◌≤◌, ◌<◌, arith, bytes_eq}
use Rattle.std.proofs.lemmas.Bool.{lt-ltb, le-ltb, or_right}
use Rattle.nl_fixed.specs.declared.span.Span.{Span}
use Rattle.nl_tree.specs.declared.declared.Form.{Form}
use Rattle.nl_tree.specs.declared.declared.Form.TheVariants as form
use Rattle.nl_tree.specs.Tree.{Node, none}
use Rattle.nl_tree.specs.Vocabulary.{among}
use Rattle.nl_tree.specs.Tokens.{Tok, end}
use Rattle.nl_tree.specs.Grammar.{one, top, Level, Reads, IsText, knows, knows_in, span_of_first}
use Rattle.nl_parse_grammar.specs.Machine.{InLet, Begin, Have, Shut, Over, State, st, Step, go, stop, Got, got, settle, feed, run_from, run, start}
use Rattle.nl_parse_grammar.specs.Fault.{known, known_got}
use Rattle.nl_parse_grammar.proofs.Complete.{breaks}
use Rattle.nl_tree.proofs.Suffix.{same, longer, suffix}
use Rattle.nl_parse_grammar.proofs.Sees.{names_at, chain_names, past, lies, sees_from, sees, or_false, inside_known, ends, token, alike, break, Arrives, Shows, looks}
use Rattle.nl_parse_grammar.proofs.Good.{run_stop}
use Rattle.nl_parse_grammar.proofs.Taken.{takes_text}

module _ (n : List ℕ) (left : ℕ) where
  -- before the place nothing is seen, and behind it nothing more

  behind : (x y : Bool) → y ≡ true → (x && not y) ≡ false
  behind true y h = ap not h
  behind false y h = refl

  sees_behind : (x : Step) (a : List Tok) → length a < left → sees_from n left x a ≡ false
  sees_behind x [] h = refl
  sees_behind (go s) (tok ∷ a) h = ap (λ b. (b && among n (names_at s tok)) || sees_from n left (feed s tok) a) (behind (past n left a) (past n left (tok ∷ a)) (lt-ltb (suc (length a)) left (omega (arith, h)))) ∙ sees_behind (feed s tok) a (omega (arith, h))
  sees_behind stop (tok ∷ a) h = refl

  sees_before : (s : State) (tok : Tok) (a : List Tok) → left ≤ length a → sees n left s (tok ∷ a) ≡ sees_from n left (feed s tok) a
  sees_before s tok a h = ap (λ b. ((b && not (past n left (tok ∷ a))) && among n (names_at s tok)) || sees_from n left (feed s tok) a) (le-ltb (length a) left h)

  sees_here : (s : State) (tok : Tok) (a : List Tok) → left ≡ suc (length a) → sees n left s (tok ∷ a) ≡ among n (names_at s tok)
  sees_here s tok a h =
      ap (λ b. ((b && not (past n left (tok ∷ a))) && among n (names_at s tok)) || sees_from n left (feed s tok) a) (lt-ltb (length a) left (omega (arith, h)))
      ∙ ap (λ b. (not b && among n (names_at s tok)) || sees_from n left (feed s tok) a) (le-ltb (suc (length a)) left (omega (arith, h)))
      ∙ ap (λ b. among n (names_at s tok) || b) (sees_behind (feed s tok) a (omega (arith, h)))
      ∙ or_false (among n (names_at s tok))

  length-past : (u : List Tok) (tok : Tok) (v : List Tok) → suc (length v) ≤ length (u ++ tok ∷ v)
  length-past [] tok v = omega arith
  length-past (x ∷ u) tok v = omega (arith, length-past u tok v)

  sees_at : (s : State) (u : List Tok) (tok : Tok) (v : List Tok) (z : State) → left ≡ suc (length v) → run s u ≡ go z → sees n left s (u ++ tok ∷ v) ≡ among n (names_at z tok)
  sees_at s [] tok v z h q = sees_here s tok v h ∙ ap (λ (x : State). among n (names_at x tok)) (same_state q)
    where
      same_state : go s ≡ go z → s ≡ z
      same_state p = cc p
  sees_at s (t ∷ u) tok v z h q = sees_before s t (u ++ tok ∷ v) (omega (arith, h, length-past u tok v)) ∙ at (feed s t) q (λ y r. sees_at y u tok v z h r)
    where
      at : (x : Step) → run_from x u ≡ go z → ((y : State) → run y u ≡ go z → sees n left y (u ++ tok ∷ v) ≡ among n (names_at z tok)) → sees_from n left x (u ++ tok ∷ v) ≡ among n (names_at z tok)
      at (go y) r f = f y r
      at stop r f = cc (r, run_stop u)

  -- What a text knows at the place is what the machine sees.

  covers : (w : List Tok) → left ≤ length w → 1 ≤ left → lies n left w [] ≡ true
  covers w h k = ap (λ b. b && not (past n left w)) (lt-ltb 0 left (omega (arith, k))) ∙ ap not (le-ltb (length w) left h)

  implied : (x y : Bool) → (x ≡ true → y ≡ true) → (x || y) ≡ y
  implied true y h = sym (h refl)
  implied false y h = refl

  reporter_shows : (e : List (List ℕ)) (w : List Tok) (t : Node) (s : Span) (d : Reads (Level top) e w (end s ∷ []) (one t)) → Shows n left e w [] (knows n left d) (sees n left (st Begin e []) w) false
  reporter_shows e w t s d =
      let m : Arrives n left top e [] [] t w (end s ∷ []) (knows n left d) = looks n left d [] (omega arith) tt in
      let shut : Shows n left e (end s ∷ []) [] false (sees n left (st (Shut m.shape t) e []) (end s ∷ [])) false = token n left (st (Shut m.shape t) e []) (end s) [] refl in
      ends n left (suffix d) (longer same) (alike n left m.shown (break n left m.held m.shape m.tree t m.rest [] e (end s ∷ []) refl m.settles)) shut

  knows_text : (form : Form) (e : List (List ℕ)) (w : List Tok) (t : Node) (d : IsText form e w t) → left ≤ length w → 1 ≤ left → knows_in form e w t n left d ≡ sees n left (start form e (span_of_first w)) w
  knows_text form.Commands e w t (ts, q, d) k l = implied (among n e) (knows n left d) (inside_known n left d (covers w k l)) ∙ sym (looks n left d (span_of_first w) e none [] ∙ or_false (knows n left d))
  knows_text form.Reporter e w t (s, d) k l = sym ((reporter_shows e w t s d).is ∙ ap (λ b. ((b && among n e) || knows n left d) || false) (covers w k l) ∙ or_false (among n e || knows n left d))

-- At the end of a text nothing is seen.

sees_none : (n : List ℕ) (x : Step) (a : List Tok) → sees_from n 0 x a ≡ false
sees_none n x [] = refl
sees_none n (go s) (tok ∷ a) = ap (λ b. ((b && not (past n 0 (tok ∷ a))) && among n (names_at s tok)) || sees_from n 0 (feed s tok) a) (le-ltb (length a) 0 (omega arith)) ∙ sees_none n (feed s tok) a
sees_none n stop (tok ∷ a) = refl

no_second : (x y : Bool) → ((x || y) || false) ≡ false → y ≡ false
no_second true y h = cc
no_second false true h = h
no_second false false h = refl

knows_end : (n : List ℕ) (form : Form) (e : List (List ℕ)) (w : List Tok) (t : Node) (d : IsText form e w t) → knows_in form e w t n 0 d ≡ among n e
knows_end n form.Commands e w t (ts, q, d) = ap (λ b. among n e || b) (sym (or_false (knows n 0 d)) ∙ sym (looks n 0 d (span_of_first w) e none []) ∙ sees_none n (go (start form.Commands e (span_of_first w))) w) ∙ or_false (among n e)
knows_end n form.Reporter e w t (s, d) = ap (λ b. among n e || b) (no_second (lies n 0 w [] && among n e) (knows n 0 d) (sym (reporter_shows n 0 e w t s d).is ∙ sees_none n (go (start form.Reporter e (span_of_first w))) w)) ∙ or_false (among n e)

-- The names at a token are among those that the state knows.

among_got : (n : List ℕ) (e : List (List ℕ)) (g : Got) → among n e ≡ true → among n (known_got e g) ≡ true
among_got n e (got x t []) h = h
among_got n e (got x t (InLet w s m r ∷ K)) h = or_right (bytes_eq m n) (among n e) h
among_got n e (got x t (f ∷ K)) h = h

known_at : (n : List ℕ) (z : State) (tok : Tok) → among n (names_at z tok) ≡ true → among n (known z) ≡ true
known_at n (st (Have x t) e K) tok h = at (breaks tok) h
  where
    at : (b : Bool) → among n (chain_names b e (settle top x t K)) ≡ true → among n (known (st (Have x t) e K)) ≡ true
    at true h = h
    at false h = among_got n e (settle top x t K) h
known_at n (st m e K) tok h = h

append_nothing : (u : List Tok) → u ++ [] ≡ u
append_nothing [] = refl
append_nothing (x ∷ u) = ap (λ c. x ∷ c) (append_nothing u)

-- after a whole text the state knows what is known at its beginning
ends_known : (form : Form) (e : List (List ℕ)) (u : List Tok) (t : Node) (z : State) → IsText form e (u ++ []) t → run (start form e (span_of_first (u ++ []))) u ≡ go z → known z ≡ e
ends_known form e u t z d q =
    let over : go (st (Over t) e []) ≡ go z = sym (takes_text form e (u ++ []) t d) ∙ ap (run (start form e (span_of_first (u ++ [])))) (append_nothing u) ∙ q in
    sym (ap names over)
  where
    names : Step → List (List ℕ)
    names (go s) = known s
    names stop = []

module _ (form : Form) (e : List (List ℕ)) (n : List ℕ) where
  -- known in a text: then known to the state
  pub known_to_state : (u v : List Tok) (t : Node) (z : State) (d : IsText form e (u ++ v) t) → run (start form e (span_of_first (u ++ v))) u ≡ go z → knows_in form e (u ++ v) t n (length v) d ≡ true → among n (known z) ≡ true
  known_to_state u [] t z d q k = ap (among n) (ends_known form e u t z d q) ∙ sym (knows_end n form e (u ++ []) t d) ∙ k
  known_to_state u (tok ∷ v) t z d q k = known_at n z tok (sym (sees_at n (suc (length v)) (start form e (span_of_first (u ++ tok ∷ v))) u tok v z refl q) ∙ sym (knows_text n (suc (length v)) form e (u ++ tok ∷ v) t d (length-past n (suc (length v)) u tok v) (omega arith)) ∙ k)

  -- known to the state, and no chain goes on: then known in the text
  abbrev pub Settles : State → List Tok → Type 0
  Settles z [] = Unit {0}
  Settles z (tok ∷ v) = names_at z tok ≡ known z

  pub known_in_text : (u v : List Tok) (t : Node) (z : State) (d : IsText form e (u ++ v) t) → run (start form e (span_of_first (u ++ v))) u ≡ go z → Settles z v → among n (known z) ≡ true → knows_in form e (u ++ v) t n (length v) d ≡ true
  known_in_text u [] t z d q s k = knows_end n form e (u ++ []) t d ∙ sym (ap (among n) (ends_known form e u t z d q)) ∙ k
  known_in_text u (tok ∷ v) t z d q s k = knows_text n (suc (length v)) form e (u ++ tok ∷ v) t d (length-past n (suc (length v)) u tok v) (omega arith) ∙ sees_at n (suc (length v)) (start form e (span_of_first (u ++ tok ∷ v))) u tok v z refl q ∙ ap (among n) s ∙ k
