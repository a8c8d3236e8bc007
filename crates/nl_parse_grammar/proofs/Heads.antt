-- How the machine goes over the bracket of an arrow block, its head, and what ends it.
use Rattle.std.proofs.Common.{◌≡◌, ℕ, suc, Bool, true, false, not, List, [], ◌∷◌, ◌++◌, refl, sym, ◌∙◌, ap, IsTrue}
use Rattle.nl_fixed.specs.declared.span.Span.{Span}
use Rattle.nl_tree.specs.declared.tree.Label.TheVariants as label
use Rattle.nl_tree.specs.Tree.{Node, node, Nodes, none}
use Rattle.nl_tree.specs.Vocabulary.{among}
use Rattle.nl_tree.specs.Tokens.{Unknown, Arrow, Tok, word, close_bracket}
use Rattle.nl_tree.specs.declared.needs.Content.TheVariants as contents
use Rattle.nl_tree.specs.declared.needs.Ending.TheVariants.{AtBracket}
use Rattle.nl_tree.specs.Grammar.{one, Part, Closed, Chain, Call, Level, Statements, Reads, closed_number, closed_text, closed_constant, closed_plain, closed_variable, closed_local, closed_list, closed_block, paren, paren_many, paren_minus, chain_closed, chain_with, chain_near, call_prefix, call_many, item_chain, item_call, item_near, item_of, level_up, level_binary, arg_reporter, command, make, statement_paren, at_bracket, statements}
use Rattle.nl_tree.specs.declared.needs.Content.{Content}
use Rattle.nl_parse_grammar.specs.Machine.{Frame, InNoHead, InArrowCommands, InBracket, Begin, Heading, InHead, Behind, Stating, st, go, supply, feed_local, feed_head_name, feed_lone_name, feed_no_head, feed_first, feed}

-- an expression begins neither with an arrow nor with a word that nobody knows
abbrev pub Starts : List (List ℕ) → List Tok → Type 0
Starts e [] = ⊥
Starts e (word w Arrow s ∷ c) = ⊥
Starts e (word w Unknown s ∷ c) = IsTrue (among w e)
Starts e (tok ∷ c) = Unit {0}

abbrev Starting : Part → List (List ℕ) → List Tok → Type 0
Starting Closed e a = Starts e a
Starting Chain e a = Starts e a
Starting Call e a = Starts e a
Starting (Level l) e a = Starts e a
Starting p e a = Unit {0}

starting : {p : Part} {e : List (List ℕ)} {a c : List Tok} {ts : Nodes} → Reads p e a c ts → Starting p e a
starting closed_number = tt
starting closed_text = tt
starting closed_constant = tt
starting closed_plain = tt
starting closed_variable = tt
starting (closed_local m) = m
starting (closed_list d) = tt
starting (closed_block d f) = tt
starting (paren d) = tt
starting (paren_many d) = tt
starting (paren_minus d) = tt
starting (chain_closed d) = starting d
starting (chain_with d f) = starting d
starting (chain_near d f) = starting d
starting (call_prefix d f) = tt
starting (call_many d) = tt
starting (item_chain d) = starting d
starting (item_call d) = starting d
starting (item_near d f) = starting d
starting (item_of (arg_reporter d) f) = tt
starting (level_up d) = starting d
starting (level_binary d f) = starting d
starting d = tt

pub starts : {l : ℕ} {e : List (List ℕ)} {a c : List Tok} {ts : Nodes} → Reads (Level l) e a c ts → Starts e a
starts d = starting d

-- where there is no head, the content begins right behind the bracket

pub begins_content : (n : ℕ) (s : Span) (e : List (List ℕ)) (K : List Frame) (tok : Tok) (c : List Tok) → Starts e (tok ∷ c) → feed (st (Heading contents.Reporter n s) e K) tok ≡ feed (st Begin e (InNoHead s n ∷ K)) tok
begins_content n s e K (word w Arrow r) c h = absurd h
begins_content n s e K (word w Unknown r) c h = ap (λ b. feed_first b n s w r e K) h ∙ sym (ap (λ b. feed_local b w r e (InNoHead s n ∷ K)) h)
begins_content n s e K tok c h = refl

pub states_content : (n : ℕ) (s : Span) (K : List Frame) {e : List (List ℕ)} {tok : Tok} {a c : List Tok} {ts : Nodes} → Reads (Statements AtBracket) e (tok ∷ a) c ts → feed (st (Heading contents.Commands n s) e K) tok ≡ feed (st Stating e (InArrowCommands s e [] none ∷ K)) tok
states_content n s K at_bracket = refl
states_content n s K (statements (command d) f) = refl
states_content n s K (statements (make m d) f) = refl
states_content n s K (statements (statement_paren d) f) = refl

-- a name of a head

untrue : (b : Bool) → IsTrue (not b) → b ≡ false
untrue true h = cc h
untrue false h = refl

pub lone_name : (k : Content) (n : ℕ) (s : Span) (w : List ℕ) (r : Span) (e : List (List ℕ)) (K : List Frame) → IsTrue (not (among w e)) → feed (st (Heading k (suc n) s) e K) (word w Unknown r) ≡ go (st (Behind k s e (w ∷ [])) (w ∷ e) K)
lone_name contents.Commands n s w r e K h = ap (λ b. feed_lone_name b contents.Commands (suc n) s w e K) h
lone_name contents.Reporter n s w r e K h = ap (λ b. feed_first b (suc n) s w r e K) (untrue (among w e) h)

pub first_name : (n : ℕ) (s q : Span) (w : List ℕ) (r : Span) (e : List (List ℕ)) (K : List Frame) → IsTrue (not (among w e)) → feed (st Begin e (InBracket q ∷ InNoHead s (suc n) ∷ K)) (word w Unknown r) ≡ go (st (InHead contents.Reporter n s e (w ∷ [])) (w ∷ e) K)
first_name n s q w r e K h = ap (λ b. feed_local b w r e (InBracket q ∷ InNoHead s (suc n) ∷ K)) (untrue (among w e) h)

pub next_one : (k : Content) (n : ℕ) (s : Span) (before ns : List (List ℕ)) (w : List ℕ) (r : Span) (e : List (List ℕ)) (K : List Frame) → IsTrue (not (among w e)) → feed (st (InHead k (suc n) s before ns) e K) (word w Unknown r) ≡ go (st (InHead k n s before (ns ++ w ∷ [])) (w ∷ e) K)
next_one k n s before ns w r e K h = ap (λ b. feed_head_name b k (suc n) s before ns w e K) h

-- a bracket closes an arrow block without a head, whatever expression is in it
pub shut_no_head : (t : Node) (s : Span) (e : List (List ℕ)) (K : List Frame) (r : Span) → feed_no_head t s e K (close_bracket r) ≡ go (supply (node (label.Arrow []) s (one t)) e K)
shut_no_head (node label.List q none) s e K r = refl
shut_no_head t s e K r = refl
