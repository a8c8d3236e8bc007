-- What the reader's frames and names stand for.
use Rattle.std.proofs.Common.{◌≡◌, ℕ, zero, suc, ◌+◌, ◌<◌, Bool, true, false, ◌||◌, List, [], ◌∷◌, ◌++◌, length, take, get_or, bytes_eq, refl, sym, subst, ap, ◌∙◌, arith}
use Rattle.std.proofs.lemmas.List.{take_more}
use Rattle.nl_tree.specs.Vocabulary.{among}
use Rattle.nl_parse_grammar.specs.Machine as M
use Rattle.nl_parse_reading.specs.declared.frames.Frame.{Frame}
use Rattle.nl_parse_reading.specs.inner.Reading.{frame_of, made_over, names_with, frames_onto, names_onto}

or_swap : (a b c : Bool) → (b || (a || c)) ≡ ((a || b) || c)
or_swap true true c = refl
or_swap true false c = refl
or_swap false true c = refl
or_swap false false c = refl

pub among_made : (w : List ℕ) (ns e : List (List ℕ)) → among w (made_over ns e) ≡ (among w ns || among w e)
among_made w [] e = refl
among_made w (n ∷ ns) e = among_made w ns (n ∷ e) ∙ or_swap (bytes_eq n w) (among w ns) (among w e)

pub made_push : (ns : List (List ℕ)) (n : List ℕ) (e : List (List ℕ)) → made_over (ns ++ n ∷ []) e ≡ n ∷ made_over ns e
made_push [] n e = refl
made_push (m ∷ ns) n e = made_push ns n (m ∷ e)

pub frames_push : (fs : List Frame) (f : Frame) (e : List (List ℕ)) (K : List M.Frame) → frames_onto (fs ++ f ∷ []) e K ≡ frame_of (names_onto fs e) f ∷ frames_onto fs e K
frames_push [] f e K = refl
frames_push (g ∷ fs) f e K = frames_push fs f (names_with g e) (frame_of e g ∷ K)

pub names_push : (fs : List Frame) (f : Frame) (e : List (List ℕ)) → names_onto (fs ++ f ∷ []) e ≡ names_with f (names_onto fs e)
names_push [] f e = refl
names_push (g ∷ fs) f e = names_push fs f (names_with g e)

-- one frame more that makes no such name
pub makes_none_at : (w : List ℕ) (fs : List Frame) (k : ℕ) (f : Frame) → k < length fs → f ≡ get_or fs k f → ((e : List (List ℕ)) → among w (names_onto (take k fs) e) ≡ among w e) → ((e : List (List ℕ)) → among w (names_with f e) ≡ among w e) → (e : List (List ℕ)) → among w (names_onto (take (k + 1) fs) e) ≡ among w e
makes_none_at w fs k f h q p r e = ap (λ gs. among w (names_onto gs e)) (take_more fs k f h ∙ ap (λ g. take k fs ++ g ∷ []) (sym q)) ∙ ap (among w) (names_push (take k fs) f e) ∙ r (names_onto (take k fs) e) ∙ p e

or_true : (a b : Bool) → b ≡ true → (a || b) ≡ true
or_true true b h = refl
or_true false b h = h

keeps_with : (w : List ℕ) (f : Frame) (e : List (List ℕ)) → among w e ≡ true → among w (names_with f e) ≡ true
keeps_with w (Frame.Statements s k made ts) e h = among_made w made e ∙ or_true (among w made) (among w e) h
keeps_with w (Frame.ArrowReporter s ns) e h = among_made w ns e ∙ or_true (among w ns) (among w e) h
keeps_with w (Frame.ArrowCommands s ns made ts) e h = among_made w made e ∙ or_true (among w made) (among w e) h
keeps_with w f e h = h

keeps : (w : List ℕ) (fs : List Frame) (e : List (List ℕ)) → among w e ≡ true → among w (names_onto fs e) ≡ true
keeps w [] e h = h
keeps w (f ∷ fs) e h = keeps w fs (names_with f e) (keeps_with w f e h)

-- a frame that makes the name
pub some_makes : (w : List ℕ) (fs : List Frame) (k : ℕ) (f : Frame) → k < length fs → f ≡ get_or fs k f → ((e : List (List ℕ)) → among w (names_with f e) ≡ true) → (e : List (List ℕ)) → among w (names_onto fs e) ≡ true
some_makes w [] k f h q r e = absurd (omega (arith, h))
some_makes w (g ∷ fs) zero f h q r e = keeps w fs (names_with g e) (subst (λ x. among w (names_with x e) ≡ true) q (r e))
some_makes w (g ∷ fs) (suc k) f h q r e = some_makes w fs k f (omega (arith, h)) q r (names_with g e)

-- what an operator ends makes no name
pub closed_makes_none : (l : ℕ) (f : Frame) (e : List (List ℕ)) → M.closes l (frame_of e f) ≡ true → names_with f e ≡ e
closed_makes_none l (Frame.Statements s k made ts) e h = cc h
closed_makes_none l (Frame.ArrowReporter s ns) e h = cc h
closed_makes_none l (Frame.ArrowCommands s ns made ts) e h = cc h
closed_makes_none l f e h = refl
