-- What a stack is made of, whatever tokens lead to it.
use Rattle.std.proofs.Common.{◌≡◌, ℕ, zero, suc, Bool, true, false, List, [], ◌∷◌, refl, sym, subst, nat_le, ◌≤◌}
use Rattle.nl_tree.specs.declared.tree.Label.TheVariants as label
use Rattle.nl_tree.specs.declared.declared.Form.{Form}
use Rattle.nl_tree.specs.Tree.{Node, node}
use Rattle.nl_tree.specs.Tokens.{Tok}
use Rattle.nl_tree.specs.declared.needs.Block.TheVariants as blocks
use Rattle.nl_tree.specs.declared.needs.Content.TheVariants as contents
use Rattle.nl_tree.specs.Grammar.{two, and_last, top}
use Rattle.nl_tree.specs.declared.needs.Ending.TheVariants.{AtBracket, AtEnd}
use Rattle.nl_parse_grammar.specs.Machine.{Frame, InBinary, InWith, InNear, InOf, InCall, InLastItem, InLastBlock, InMany, InItems, InParen, InMinus, InReporter, InNoHead, InArrowReporter, InArrowCommands, InBracket, InList, InLet, InStatementParen, InStatements, Begin, Opening, Heading, InHead, Behind, Optional, Choosing, Have, Blocked, Shut, Listing, Stating, Naming, Ended, Over, Dead, State, st, Got, got, settle}
use Rattle.nl_parse_grammar.specs.declared.pending.Shape.{Shape}
use Rattle.nl_parse_grammar.specs.declared.pending.Shape.TheVariants.{Growing, Fixed}
use Rattle.nl_parse_grammar.proofs.Complete.{settle_on, settle_stop}
use Rattle.nl_parse_grammar.proofs.Sound.{Expr, Begins, Callable, BlockTop, MaybeTop, VariableTop, ShutTop, ListTop, StatementTop, EndedTop, ListUnder, Under, Opens, Reached}

-- each frame is on what may hold it
abbrev pub Fine : List Frame → Type 0
Fine [] = Unit {0}
Fine (InBinary l w s t ∷ K) = (l ≤ top) × Expr K × Fine K
Fine (InWith w s t ∷ K) = Expr K × Fine K
Fine (InNear w s ts n ∷ K) = Expr K × Fine K
Fine (InOf w s b ∷ K) = Expr K × Fine K
Fine (InCall w s ts i is last ∷ K) = Under last K × Fine K
Fine (InLastItem w s ts ∷ K) = Callable K × Fine K
Fine (InLastBlock w s ts b ∷ K) = Begins K × Fine K
Fine (InMany w s ts n ∷ K) = Callable K × Fine K
Fine (InItems p l s ts ∷ K) = Begins K × Fine K
Fine (InParen s ∷ K) = Begins K × Fine K
Fine (InMinus p s ∷ K) = Begins K × Fine K
Fine (InReporter s ∷ K) = BlockTop blocks.Reporter K × Fine K
Fine (InNoHead s n ∷ K) = BlockTop (blocks.Arrow contents.Reporter n) K × Fine K
Fine (InArrowReporter s before ns ∷ K) = (n : ℕ) × BlockTop (blocks.Arrow contents.Reporter n) K × Fine K
Fine (InArrowCommands s before ns ts ∷ K) = (n : ℕ) × BlockTop (blocks.Arrow contents.Commands n) K × Fine K
Fine (InBracket s ∷ K) = Expr K × Fine K
Fine (InList s ts ∷ K) = ListUnder K × Fine K
Fine (InLet w s n r ∷ K) = StatementTop K × Fine K
Fine (InStatementParen s ∷ K) = StatementTop K × Fine K
Fine (InStatements s AtBracket before ts ∷ K) = BlockTop blocks.Commands K × Fine K
Fine (InStatements s AtEnd before ts ∷ []) = Unit {0}
Fine (InStatements s AtEnd before ts ∷ f ∷ K) = ⊥

abbrev pub FineState : State → Type 0
FineState (st Begin e K) = Begins K × Fine K
FineState (st (Opening b) e K) = BlockTop b K × Fine K
FineState (st (Heading k n s) e K) = BlockTop (blocks.Arrow k n) K × Fine K
FineState (st (InHead k m s before ns) e K) = (n : ℕ) × BlockTop (blocks.Arrow k n) K × Fine K
FineState (st (Behind k s before ns) e K) = (n : ℕ) × BlockTop (blocks.Arrow k n) K × Fine K
FineState (st Optional e K) = MaybeTop K × Fine K
FineState (st Choosing e K) = VariableTop K × Fine K
FineState (st (Have x t) e K) = Expr K × Fine K
FineState (st (Blocked b) e K) = Expr K × Fine K
FineState (st (Shut x t) e K) = ShutTop K × Fine K
FineState (st Listing e K) = ListTop K × Fine K
FineState (st Stating e K) = StatementTop K × Fine K
FineState (st (Naming w s) e K) = StatementTop K × Fine K
FineState (st (Ended t) e K) = EndedTop K × Fine K
FineState (st (Over t) e K) = Unit {0}
FineState (st Dead e K) = ⊥

-- Tokens lead to no other.

module _ (kind : Form) (e0 : List (List ℕ)) (w : List Tok) where
  pub fine : (e : List (List ℕ)) (K : List Frame) (x : List Tok) → Opens kind e0 w e K x → Fine K
  fine e [] x o = tt
  fine e (InBinary zero v s t ∷ K) x o = absurd o
  fine e (InBinary (suc l) v s t ∷ K) x o = (o.3, o.5, fine e K o.0 o.6)
  fine e (InWith v s t ∷ K) x o = (o.2, fine e K o.0 o.3)
  fine e (InNear v s ts n ∷ K) x o = (o.3, fine e K o.0 o.4)
  fine e (InOf v s b ∷ K) x o = (o.2, fine e K o.0 o.3)
  fine e (InCall v s ts i is last ∷ K) x o = (o.3, fine e K _ o.4)
  fine e (InLastItem v s ts ∷ K) x o = (o.3, fine e K _ o.4)
  fine e (InLastBlock v s ts k ∷ K) x o = (o.3, fine e K _ o.4)
  fine e (InMany v s ts n ∷ K) x o = (o.4, fine e K _ o.5)
  fine e (InItems p l s ts ∷ K) x o = (o.5, fine e K _ o.6)
  fine e (InParen s ∷ K) x o = (o.0, fine e K _ o.1)
  fine e (InMinus p s ∷ K) x o = (o.2, fine e K _ o.3)
  fine e (InReporter s ∷ K) x o = (o.0, fine e K _ o.1)
  fine e (InNoHead s n ∷ K) x o = (o.0, fine e K _ o.1)
  fine e (InArrowReporter s before ns ∷ K) x o = (o.1, o.3, fine before K _ o.4)
  fine e (InArrowCommands s before ns ts ∷ K) x o = (o.1, o.6, fine before K _ o.7)
  fine e (InBracket s ∷ K) x o = (o.0, fine e K _ o.1)
  fine e (InList s ts ∷ K) x o = (o.2, fine e K _ o.3)
  fine e (InLet v s n r ∷ K) x o = (o.0, fine e K _ o.2)
  fine e (InStatementParen s ∷ K) x o = (o.0, fine e K _ o.1)
  fine e (InStatements s AtBracket before ts ∷ K) x o = (o.2, fine before K _ o.3)
  fine e (InStatements s AtEnd before ts ∷ []) x o = tt
  fine e (InStatements s AtEnd before ts ∷ f ∷ K) x o = absurd o

  pub fine_state : (s : State) (c : List Tok) → Reached kind e0 w s c → FineState s
  fine_state (st Begin e K) c h = (h.0, fine e K c h.1)
  fine_state (st (Opening b) e K) c h = (h.0, fine e K c h.1)
  fine_state (st (Heading k n s) e K) c h = (h.0, fine e K _ h.1)
  fine_state (st (InHead k m s before ns) e K) c h = (h.1, h.4, fine before K _ h.5)
  fine_state (st (Behind k s before ns) e K) c h = (h.1, h.3, fine before K _ h.4)
  fine_state (st Optional e K) c h = (h.0, fine e K c h.1)
  fine_state (st Choosing e K) c h = (h.0, fine e K c h.1)
  fine_state (st (Have x t) e K) c h = (h.3, fine e K h.0 h.4)
  fine_state (st (Blocked b) e K) c h = (h.2, fine e K h.0 h.3)
  fine_state (st (Shut x t) e K) c h = (h.3, fine e K h.0 h.4)
  fine_state (st Listing e K) c h = (h.0, fine e K c h.1)
  fine_state (st Stating e K) c h = (h.0, fine e K c h.1)
  fine_state (st (Naming v s) e K) c h = (h.0, fine e K _ h.1)
  fine_state (st (Ended t) f K) c h = (h.3, fine h.0 K h.1 h.4)
  fine_state (st (Over t) e K) c h = tt
  fine_state (st Dead e K) c h = h

-- What an operator leaves open is such a stack too.

abbrev pub FineGot : Got → Type 0
FineGot (got x t K) = Expr K × Fine K

pub expr_callable : (K : List Frame) → Expr K → Callable K
expr_callable [] u = u
expr_callable (InNear w s ts n ∷ K) u = absurd u
expr_callable (f ∷ K) u = u

pub fine_settle : (l : ℕ) (x : Shape) (t : Node) (K : List Frame) → Expr K → Fine K → FineGot (settle l x t K)
fine_settle l x t [] u h = (u, h)
fine_settle l x t (InBinary m v s r ∷ K) u h = at (nat_le m l) refl (fine_settle l Fixed (node (label.Named v) s (two r t)) K h.1 h.2)
  where
    at : (b : Bool) → nat_le m l ≡ b → FineGot (settle l Fixed (node (label.Named v) s (two r t)) K) → FineGot (settle l x t (InBinary m v s r ∷ K))
    at true q g = subst FineGot (sym (settle_on l x t (InBinary m v s r) K q)) g
    at false q g = subst FineGot (sym (settle_stop l x t (InBinary m v s r) K q)) (u, h)
fine_settle l x t (InOf v s r ∷ K) u h = fine_settle l Fixed (node (label.Named v) s (two r t)) K h.0 h.1
fine_settle l x t (InMany v s ts zero ∷ []) u h = (tt, tt)
fine_settle l x t (InMany v s ts zero ∷ InNear n r us zero ∷ K) u h = fine_settle l Fixed (node (label.Named n) r (and_last us (node (label.Named v) s (and_last ts t)))) K h.1.0 h.1.1
fine_settle l x t (InMany v s ts zero ∷ InNear n r us (suc m) ∷ K) u h = absurd h.0
fine_settle l x t (InMany v s ts zero ∷ f ∷ K) u h = fine_settle l Growing (node (label.Named v) s (and_last ts t)) (f ∷ K) h.0 h.1
fine_settle l x t (InLastItem v s ts ∷ []) u h = (tt, tt)
fine_settle l x t (InLastItem v s ts ∷ InNear n r us zero ∷ K) u h = fine_settle l Fixed (node (label.Named n) r (and_last us (node (label.Named v) s (and_last ts t)))) K h.1.0 h.1.1
fine_settle l x t (InLastItem v s ts ∷ InNear n r us (suc m) ∷ K) u h = absurd h.0
fine_settle l x t (InLastItem v s ts ∷ f ∷ K) u h = fine_settle l Fixed (node (label.Named v) s (and_last ts t)) (f ∷ K) h.0 h.1
fine_settle l x t (InNear n r us m ∷ K) u h = absurd u
fine_settle l x t (f ∷ K) u h = (u, h)
