-- What waits for a tree on the machine's stack.
use Rattle.std.proofs.Common.{◌≡◌, ℕ, suc, false, List, [], ◌∷◌, refl}
use Rattle.nl_tree.specs.Tree.{Node}
use Rattle.nl_parse_grammar.specs.declared.pending.Shape.{Shape}
use Rattle.nl_parse_grammar.specs.declared.pending.Shape.TheVariants.{Literal}
use Rattle.nl_parse_grammar.specs.Machine.{Have, closed, end_list, Frame, InNear, InCall, InItems, InLet, InMany, InList, st, accept, Shut, got, settle}
use Rattle.nl_parse_stack.specs.inner.Asked.{is_at_side, is_in_list, is_waiting, ends_newest}

pub at_hand : (x : Shape) (t : Node) (e : List (List ℕ)) (K : List Frame) → is_at_side K ≡ false → closed x t e K ≡ st (Have x t) e K
at_hand x t e (InNear v r ts n ∷ K) h = cc h
at_hand x t e K h = refl

pub outer_list : (t : Node) (e : List (List ℕ)) (K : List Frame) → is_in_list K ≡ false → end_list t e K ≡ closed Literal t e K
outer_list t e (InList s ts ∷ K) h = cc h
outer_list t e K h = refl

-- an operator ends nothing more
pub nothing_ends : (l : ℕ) (x : Shape) (t : Node) (K : List Frame) → ends_newest l K ≡ false → settle l x t K ≡ got x t K
nothing_ends l x t [] h = refl
nothing_ends l x t (f ∷ K) h = rw (h, settle) refl

pub not_waiting : (x : Shape) (t : Node) (e : List (List ℕ)) (K : List Frame) → is_waiting K ≡ false → accept x t e K ≡ st (Shut x t) e K
not_waiting x t e (InCall w s ts i is last ∷ K) h = cc h
not_waiting x t e (InMany w s ts (suc n) ∷ K) h = cc h
not_waiting x t e (InItems p l s ts ∷ K) h = cc h
not_waiting x t e (InLet w s n r ∷ K) h = cc h
not_waiting x t e K h = refl
