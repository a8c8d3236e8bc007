-- The machine takes exactly the texts, and so a text has one tree.
use Rattle.std.proofs.Common.{◌≡◌, ℕ, List, [], ◌∷◌, ◌++◌, refl, sym, ◌∙◌, ap, subst, arith}
use Rattle.std.proofs.lemmas.List.{append-nil}
use Rattle.nl_tree.specs.declared.tree.Label.TheVariants as label
use Rattle.nl_tree.specs.declared.declared.Form.{Form}
use Rattle.nl_tree.specs.declared.declared.Form.TheVariants as form
use Rattle.nl_tree.specs.Tree.{Node, none}
use Rattle.nl_tree.specs.Tokens.{Tok, end, marked}
use Rattle.nl_tree.specs.Grammar.{leaf, top, IsText, span_of_first}
use Rattle.nl_parse_grammar.specs.Laws.{TreesAreUnique, TextsAreTaken}
use Rattle.nl_parse_grammar.specs.Machine.{Frame, State, st, Over, Step, go, stop, run, start}
use Rattle.nl_parse_grammar.proofs.Complete.{completes, Comes, break, nowhere}
use Rattle.nl_parse_grammar.proofs.Sound.{Reached, ReachedStep, reached_run}

pub takes_text : (form : Form) (e : List (List ℕ)) (a : List Tok) (t : Node) → IsText form e a t → run (start form e (span_of_first a)) a ≡ go (st (Over t) e [])
takes_text form.Commands e a t (ts, q, d) = completes d (span_of_first a) e none [] ∙ ap (λ u. go (st (Over u) e [])) (sym q)
takes_text form.Reporter e a t (s, d) = let m : Comes top e [] [] t a (end s ∷ []) = completes d [] (omega arith) tt in m.runs ∙ break m.held m.shape m.tree t m.rest [] e (end s ∷ []) refl m.settles

abbrev over_tree : State → Node
over_tree (st (Over t) e K) = t
over_tree s = leaf label.List nowhere

abbrev step_tree : Step → Node
step_tree (go s) = over_tree s
step_tree stop = leaf label.List nowhere

pub one_tree : (form : Form) (e : List (List ℕ)) (a : List Tok) (t u : Node) → IsText form e a t → IsText form e a u → t ≡ u
one_tree form e a t u d f = ap step_tree (sym (takes_text form e a t d) ∙ takes_text form e a u f)

pub trees_are_unique : TreesAreUnique
trees_are_unique form names table ts t u d f = one_tree form names (marked table ts) t u d f

pub reached_start : (form : Form) (e : List (List ℕ)) (w : List Tok) → Reached form e w (start form e (span_of_first w)) w
reached_start form.Commands e w = (tt, ((λ z us d. d), refl, refl))
reached_start form.Reporter e w = (tt, (refl, refl, refl))

-- the state after the first tokens is what they lead to
pub reached_after : (form : Form) (e : List (List ℕ)) (a c : List Tok) → ReachedStep form e (a ++ c) (run (start form e (span_of_first (a ++ c))) a) c
reached_after form e a c = reached_run form e (a ++ c) (go (start form e (span_of_first (a ++ c)))) a c (reached_start form e (a ++ c))

pub taken_text : (form : Form) (e e1 : List (List ℕ)) (K : List Frame) (a : List Tok) (t : Node) → run (start form e (span_of_first a)) a ≡ go (st (Over t) e1 K) → IsText form e a t
taken_text form e e1 K a t q = subst (λ s. ReachedStep form e a s []) q (reached_run form e a (go (start form e (span_of_first a))) a [] (subst (λ c. Reached form e a (start form e (span_of_first a)) c) (sym (append-nil a)) (reached_start form e a))) refl

pub texts_are_taken : TextsAreTaken
texts_are_taken form names table ts t = (takes_text form names (marked table ts) t, taken_text form names names [] (marked table ts) t)
