-- What ends a text leads the machine only to where it has the whole text.
use Rattle.std.proofs.Common.{◌≡◌, ℕ, List, ◌∷◌, subst, refl}
use Rattle.nl_fixed.specs.declared.span.Span.{Span}
use Rattle.nl_tree.specs.declared.tree.Label.TheVariants as label
use Rattle.nl_tree.specs.Tree.{Node, node, none}
use Rattle.nl_tree.specs.Tokens.{end}
use Rattle.nl_tree.specs.declared.needs.Block.TheVariants as blocks
use Rattle.nl_tree.specs.declared.needs.Content.TheVariants as contents
use Rattle.nl_tree.specs.Grammar.{top}
use Rattle.nl_tree.specs.declared.needs.Ending.TheVariants.{AtBracket, AtEnd}
use Rattle.nl_parse_grammar.specs.Machine as M
use Rattle.nl_parse_grammar.specs.Machine.{Frame, InBinary, InWith, InNear, InOf, InCall, InLastItem, InLastBlock, InMany, InItems, InParen, InMinus, InReporter, InNoHead, InArrowReporter, InArrowCommands, InBracket, InList, InLet, InStatementParen, InStatements, Begin, Opening, Heading, InHead, Behind, Optional, Choosing, Have, Blocked, Shut, Listing, Stating, Naming, Ended, Over, Dead, State, st, Step, go, stop, Got, got, next, accept, settle, without_maybes, feed_paren, feed_bracket, feed_no_head, feed_shut, feed_stating, feed_listing, feed_ended, feed_plain, feed_optional, feed_ready, feed_broken, feed}
use Rattle.nl_parse_grammar.specs.declared.pending.Shape.{Shape}
use Rattle.nl_parse_grammar.specs.declared.pending.Shape.TheVariants.{Literal, Growing, Fixed}

abbrev pub IsOver : M.Mode → Type 0
IsOver (Over t) = Unit {0}
IsOver m = ⊥

abbrev Ends : Step → Type 0
Ends (go (st m e K)) = IsOver m
Ends stop = Unit {0}

ends_paren : (x : Shape) (t : Node) (p : Span) (e : List (List ℕ)) (K : List Frame) (s : Span) → Ends (feed_paren x t p e K (end s))
ends_paren Growing (node l r ts) p e K s = tt
ends_paren Literal t p e K s = tt
ends_paren Fixed t p e K s = tt

ends_bracket : (x : Shape) (t : Node) (p : Span) (e : List (List ℕ)) (K : List Frame) (s : Span) → Ends (feed_bracket x t p e K (end s))
ends_bracket Literal t p e K s = tt
ends_bracket Growing t p e K s = tt
ends_bracket Fixed t p e K s = tt

ends_no_head : (t : Node) (p : Span) (e : List (List ℕ)) (K : List Frame) (s : Span) → Ends (feed_no_head t p e K (end s))
ends_no_head (node label.List r none) p e K s = tt
ends_no_head t p e K s = tt

ends_shut : (x : Shape) (t : Node) (e : List (List ℕ)) (K : List Frame) (s : Span) → Ends (feed_shut x t e K (end s))
ends_shut x t e (InParen p ∷ K) s = ends_paren x t p e K s
ends_shut x t e (InBracket p ∷ K) s = ends_bracket x t p e K s
ends_shut x t e (InNoHead p n ∷ K) s = ends_no_head t p e K s
ends_shut x t e K s = tt

ends_stating : (e : List (List ℕ)) (K : List Frame) (s : Span) → Ends (feed_stating e K (end s))
ends_stating e (InStatements r AtBracket before ts ∷ K) s = tt
ends_stating e (InStatements r AtEnd before ts ∷ K) s = tt
ends_stating e (InArrowCommands r before ns ts ∷ K) s = tt
ends_stating e K s = tt

ends_listing : (e : List (List ℕ)) (K : List Frame) (s : Span) → Ends (feed_listing e K (end s))
ends_listing e (InList r ts ∷ K) s = tt
ends_listing e K s = tt

ends_ended : (t : Node) (e : List (List ℕ)) (K : List Frame) (s : Span) → Ends (feed_ended t e K (end s))
ends_ended t e (InStatementParen r ∷ K) s = tt
ends_ended t e K s = tt

ends_plain : (z : State) (s : Span) → Ends (feed_plain z (end s))
ends_plain (st Begin e K) s = tt
ends_plain (st (Opening blocks.Commands) e K) s = tt
ends_plain (st (Opening blocks.Reporter) e K) s = tt
ends_plain (st (Opening (blocks.Arrow k n)) e K) s = tt
ends_plain (st (Heading contents.Commands n r) e K) s = tt
ends_plain (st (Heading contents.Reporter n r) e K) s = tt
ends_plain (st (InHead k m r before ns) e K) s = tt
ends_plain (st (Behind k r before ns) e K) s = tt
ends_plain (st Optional e K) s = tt
ends_plain (st Choosing e K) s = tt
ends_plain (st (Have x t) e K) s = tt
ends_plain (st (Blocked b) e K) s = tt
ends_plain (st (Shut x t) e K) s = ends_shut x t e K s
ends_plain (st Listing e K) s = ends_listing e K s
ends_plain (st Stating e K) s = ends_stating e K s
ends_plain (st (Naming w r) e K) s = tt
ends_plain (st (Ended t) e K) s = ends_ended t e K s
ends_plain (st (Over t) e K) s = tt
ends_plain (st Dead e K) s = tt

ends_optional : (e : List (List ℕ)) (K : List Frame) (s : Span) → Ends (feed_optional e K (end s))
ends_optional e (InCall w r ts i is last ∷ K) s = ends_plain (next w r ts (without_maybes is) last e K) s
ends_optional e K s = tt

ends_ready : (z : State) (s : Span) → Ends (feed_ready z (end s))
ends_ready (st Optional e K) s = ends_optional e K s
ends_ready (st Begin e K) s = ends_plain (st Begin e K) s
ends_ready (st (Opening b) e K) s = ends_plain (st (Opening b) e K) s
ends_ready (st (Heading k n r) e K) s = ends_plain (st (Heading k n r) e K) s
ends_ready (st (InHead k m r before ns) e K) s = ends_plain (st (InHead k m r before ns) e K) s
ends_ready (st (Behind k r before ns) e K) s = ends_plain (st (Behind k r before ns) e K) s
ends_ready (st Choosing e K) s = ends_plain (st Choosing e K) s
ends_ready (st (Have x t) e K) s = ends_plain (st (Have x t) e K) s
ends_ready (st (Blocked b) e K) s = ends_plain (st (Blocked b) e K) s
ends_ready (st (Shut x t) e K) s = ends_plain (st (Shut x t) e K) s
ends_ready (st Listing e K) s = ends_plain (st Listing e K) s
ends_ready (st Stating e K) s = ends_plain (st Stating e K) s
ends_ready (st (Naming w r) e K) s = ends_plain (st (Naming w r) e K) s
ends_ready (st (Ended t) e K) s = ends_plain (st (Ended t) e K) s
ends_ready (st (Over t) e K) s = ends_plain (st (Over t) e K) s
ends_ready (st Dead e K) s = ends_plain (st Dead e K) s

ends_broken : (e : List (List ℕ)) (g : Got) (s : Span) → Ends (feed_broken e g (end s))
ends_broken e (got x t K) s = ends_ready (accept x t e K) s

ends_feed : (z : State) (s : Span) → Ends (feed z (end s))
ends_feed (st (Have x t) e K) s = ends_broken e (settle top x t K) s
ends_feed z s = ends_ready z s

pub ends_over : (z : State) (s : Span) (m : M.Mode) (e : List (List ℕ)) (K : List Frame) → feed z (end s) ≡ go (st m e K) → IsOver m
ends_over z s m e K q = subst Ends q (ends_feed z s)

-- and so there is its tree
pub tree_over : (m : M.Mode) → IsOver m → (t : Node) × (m ≡ Over t)
tree_over (Over t) h = (t, refl)
tree_over m h = absurd h
