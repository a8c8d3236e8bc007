-- The tokens that are read so far.
use Rattle.std.proofs.Common.{◌≡◌, ℕ, zero, suc, ◌+◌, ◌<◌, ◌≤◌, List, [], ◌∷◌, Option, Some, None, length, take, take_all, get_or, refl, sym, ◌∙◌, ap, arith}
use Rattle.nl_scan.specs.declared.token.Token.{Token}
use Rattle.nl_decl_outline.specs.declared.declaration.Declaration.{Declaration}
use Rattle.nl_decl_outline.specs.declared.mode.Mode.{Mode}
use Rattle.nl_scan.specs.Tokens.{AreInOrder}
use Rattle.nl_scan.proofs.Order.{AreInOrder-at}
use Rattle.nl_decl_outline.specs.inner.Reading.{State, in_mode, feed_in, feed, run_from, run}
use Rattle.nl_scan.specs.Texts.{LiesIn}
use Rattle.nl_parse_grammar.specs.Texts.{lexeme_of, lexemes_of}

-- each token lies in the text
pub lies_in : (text : List ℕ) (ts : List Token) (k : ℕ) (d : Token) → AreInOrder 0 (length text) ts → k < length ts → LiesIn text (get_or ts k d).span
lies_in text ts k d h below = AreInOrder-at 0 (length text) ts k d h below

pub lexemes-length : (text : List ℕ) (ts : List Token) → length (lexemes_of text ts) ≡ length ts
lexemes-length text [] = refl
lexemes-length text (t ∷ ts) = ap suc (lexemes-length text ts)

next_from : (s : Option State) (text : List ℕ) (ts : List Token) (k : ℕ) (d : Token) (z : State) → k < length ts → run_from s (take k (lexemes_of text ts)) ≡ Some z
    → run_from s (take (suc k) (lexemes_of text ts)) ≡ feed z (lexeme_of text (get_or ts k d))
next_from s text [] k d z h q = absurd (omega (arith, h))
next_from s text (t ∷ ts) zero d z h q = rw q refl
next_from None text (t ∷ ts) (suc k) d z h q = cc q
next_from (Some y) text (t ∷ ts) (suc k) d z h q = next_from (feed y (lexeme_of text t)) text ts k d z (omega (arith, h)) q

-- one token more
pub run_next : (text : List ℕ) (ts : List Token) (k : ℕ) (d : Token) (z : State) → k < length ts → run (take k (lexemes_of text ts)) ≡ Some z
    → run (take (k + 1) (lexemes_of text ts)) ≡ feed z (lexeme_of text (get_or ts k d))
run_next text ts k d z h q = let e : k + 1 ≡ suc k = omega arith in rw e (next_from _ text ts k d z h q)

pub read_more : (text : List ℕ) (ts : List Token) (k : ℕ) (t : Token) (m : Mode) (done after : List Declaration) (next : Option Mode) → k < length ts → t ≡ get_or ts k t
    → run (take k (lexemes_of text ts)) ≡ Some (record { mode = m; done = done }) → feed_in done m (lexeme_of text t) ≡ in_mode after next
    → run (take (k + 1) (lexemes_of text ts)) ≡ in_mode after next
read_more text ts k t m done after next below e taken step =
    run_next text ts k t (record { mode = m; done = done }) below taken ∙ ap (λ u. feed_in done m (lexeme_of text u)) (sym e) ∙ step

-- all of them
pub read_all : (text : List ℕ) (ts : List Token) (k : ℕ) (s : State) → length ts ≤ k → run (take k (lexemes_of text ts)) ≡ Some s → run (lexemes_of text ts) ≡ Some s
read_all text ts k s h q = ap run (sym (take_all k (lexemes_of text ts) (omega (arith, h, lexemes-length text ts)))) ∙ q
