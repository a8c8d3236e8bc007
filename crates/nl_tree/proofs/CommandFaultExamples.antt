-- The faults of two texts of commands, with the tokens marked by the whole word table of a model that declares nothing.
use Rattle.std.proofs.Common.{◌≡◌, ℕ, zero, suc, ◌+◌, ◌<◌, Bool, true, false, List, [], ◌∷◌, take, length, All, refl, ap, ◌∙◌, sym, subst, arith, ℤ, codes}
use Rattle.std.proofs.lemmas.Bool.{ne_eqb, false≢true}
use Rattle.std.proofs.lemmas.List.{length-map}
use Rattle.nl_fixed.specs.declared.span.Span.{Span}
use Rattle.nl_words.specs.Rows.{rows}
use Rattle.nl_tree.specs.declared.tree.Label.TheVariants as label
use Rattle.nl_tree.specs.declared.declared.Form.TheVariants as form
use Rattle.nl_tree.specs.Tree.{node, Nodes, none}
use Rattle.nl_tree.specs.Vocabulary.{among, terms}
use Rattle.nl_tree.specs.Tokens.{Open, Close, End, Token, IsToken, Tok, number, word, open_bracket, end, marked, Unknown, Constant, Command}
use Rattle.nl_tree.specs.declared.needs.Need.TheVariants.{Whole, Maybe, Within}
use Rattle.nl_tree.specs.declared.needs.Block.TheVariants as blocks
use Rattle.nl_tree.specs.Grammar.{one, two, leaf, Part, Args, Statement, Statements, Reads, IsText, knows, closed_number, closed_text, closed_constant, closed_plain, closed_variable, closed_local, closed_list, closed_block, paren, paren_many, paren_minus, chain_closed, chain_with, chain_near, call_prefix, call_many, item_chain, item_call, item_near, item_of, level_up, level_binary, arg_whole, arg_commands, arg_reporter, no_arg, arg, maybe_there, maybe_missing, command, make, statement_paren, at_bracket, at_end, statements}
use Rattle.nl_tree.specs.declared.needs.Ending.{Ending}
use Rattle.nl_tree.specs.declared.needs.Ending.TheVariants.{AtBracket}
use Rattle.nl_tree.specs.BodyFault.{BeginsGood, BeginsReadable, Knows, IsUnknown, IsTextFault}
use Rattle.nl_tree.specs.declared.faults.BodyKind.TheVariants.{UnknownName, Unexpected}
use Rattle.nl_tree.proofs.GrammarExamples.{bare, at, token, w, n, num, named, item, lifted}
use Rattle.nl_tree.proofs.BodyFaultExamples.{IsValue, word_there, all_one}
use Rattle.nl_tree.proofs.Outside.{neither, not_first, not_second, flat_behind, outside}
use Rattle.nl_tree.proofs.Suffix.{shorter, suffix}

-- ---- a statement takes a token

statement_takes : {f e : List (List ℕ)} {a c : List Tok} {ts : Nodes} → Reads (Statement f) e a c ts → length c < length a
statement_takes (command d) = omega (arith, shorter (suffix d))
statement_takes (make h d) = omega (arith, shorter (suffix d))
statement_takes (statement_paren d) = omega (arith, shorter (suffix d))

-- ---- before the first token of a text no name is known that wasn't given

-- nor at the first token of statements
first_inside : {f e : List (List ℕ)} {a c : List Tok} {ts : Nodes} (v : List ℕ) (d : Reads (Statement f) e a c ts) → knows v (length a) d ≡ false
first_inside v (command {b = b} d) = outside v _ d (flat_behind _ b (omega arith))
first_inside v (make {b = b} h d) = outside v _ d (flat_behind _ b (omega arith))
first_inside v (statement_paren {f = f} {b = b} {c = c} d) =
    neither (not_first (among v f) (ne_eqb (suc (length b)) (length c + 1) (λ same. omega (arith, same, shorter (suffix d))))) (outside v _ d (omega arith))

first_of_all : {k : Ending} {a c : List Tok} {ts : Nodes} (v : List ℕ) (d : Reads (Statements k) [] a c ts) → knows v (length a) d ≡ false
first_of_all v at_bracket = not_second _ refl
first_of_all v at_end = refl
first_of_all v (statements d f) = neither (neither (not_second _ refl) (first_inside v d)) (outside v _ f (statement_takes d))

-- ---- foo 1 has an unknown name at token 0

no_statement : {k : Ending} {e : List (List ℕ)} {a c : List Tok} {ts : Nodes} (v : List ℕ) (s : Span) (r : List Tok) → Reads (Statements k) e a c ts → a ≡ word v Unknown s ∷ r → ⊥
no_statement v s r at_bracket same = cc
no_statement v s r at_end same = cc
no_statement v s r (statements (command d) f) same = cc
no_statement v s r (statements (make h d) f) same = cc
no_statement v s r (statements (statement_paren d) f) same = cc

no_foo : BeginsReadable form.Commands [] (terms bare) (w "foo" 0 ∷ []) → ⊥
unfolding rows
no_foo (after, t, (tokens, (ts, same, d))) = no_statement (codes "foo") (at 0) _ d refl

foo_is_not_known : Knows form.Commands [] (terms bare) (w "foo" 0 ∷ n 1 1 ∷ token End 2 ∷ []) 0 (codes "foo") → ⊥
foo_is_not_known (after, t, (ts, same, d), (tokens, known)) =
    let left : knows (codes "foo") (length after) d ≡ false = subst (λ l. knows (codes "foo") l d ≡ false) (length-map after _) (first_of_all (codes "foo") d) in
    false≢true (sym left ∙ known)

foo_is_unknown : IsUnknown form.Commands [] (terms bare) (w "foo" 0 ∷ n 1 1 ∷ token End 2 ∷ []) 0
unfolding rows
foo_is_unknown = (codes "foo", at 0, (refl, refl, foo_is_not_known))

command_is_unknown : IsTextFault form.Commands [] (terms bare) (w "foo" 0 ∷ n 1 1 ∷ token End 2 ∷ []) 0 UnknownName
command_is_unknown =
    ((omega arith, (λ j low. absurd (omega (arith, low))), (λ good. no_foo (good.0, good.1, (good.2.0, good.2.1.0)))), (no_foo, foo_is_unknown))

-- ---- if true [ cro 1 is unexpected at the end

abbrev is_leaf : Tok → Bool
is_leaf (number m s) = true
is_leaf (word v Constant s) = true
is_leaf t = false

-- With these no value goes on.
abbrev Stops : List Tok → Type 0
Stops (open_bracket s ∷ r) = Unit {0}
Stops (end s ∷ r) = Unit {0}
Stops r = ⊥

no_leaf : (y x : Tok) (b r : List Tok) → is_leaf y ≡ false → y ∷ b ≡ x ∷ r → is_leaf x ≡ true → ⊥
no_leaf y x b r plain same leaf =
    let here : y ≡ x = cc in
    let both : true ≡ false = sym leaf ∙ subst (λ z. is_leaf z ≡ false) here plain in
    cc

-- a value that begins with a number or a constant ends there, before what stops it
after_leaf : {p : Part} {e : List (List ℕ)} {a c : List Tok} {ts : Nodes} → Reads p e a c ts → IsValue p → (x : Tok) (r : List Tok) → is_leaf x ≡ true → a ≡ x ∷ r → Stops r → c ≡ r
after_leaf closed_number v x r leaf same stops = cc
after_leaf closed_text v x r leaf same stops = cc
after_leaf closed_constant v x r leaf same stops = cc
after_leaf closed_plain v x r leaf same stops = cc
after_leaf closed_variable v x r leaf same stops = cc
after_leaf (closed_local known) v x r leaf same stops = cc
after_leaf (closed_list d) v x r leaf same stops = absurd (no_leaf _ x _ r refl same leaf)
after_leaf (closed_block d f) v x r leaf same stops = absurd (no_leaf _ x _ r refl same leaf)
after_leaf (paren d) v x r leaf same stops = absurd (no_leaf _ x _ r refl same leaf)
after_leaf (paren_many d) v x r leaf same stops = absurd (no_leaf _ x _ r refl same leaf)
after_leaf (paren_minus d) v x r leaf same stops = absurd (no_leaf _ x _ r refl same leaf)
after_leaf (chain_closed d) v x r leaf same stops = after_leaf d tt x r leaf same stops
after_leaf (chain_with d f) v x r leaf same stops = absurd (subst Stops (sym (after_leaf d tt x r leaf same stops)) stops)
after_leaf (chain_near d f) v x r leaf same stops = absurd (subst Stops (sym (after_leaf d tt x r leaf same stops)) stops)
after_leaf (call_prefix d f) v x r leaf same stops = absurd (no_leaf _ x _ r refl same leaf)
after_leaf (call_many d) v x r leaf same stops = absurd (no_leaf _ x _ r refl same leaf)
after_leaf (item_chain d) v x r leaf same stops = after_leaf d tt x r leaf same stops
after_leaf (item_call d) v x r leaf same stops = after_leaf d tt x r leaf same stops
after_leaf (item_near d f) v x r leaf same stops = absurd (subst Stops (sym (after_leaf d tt x r leaf same stops)) stops)
after_leaf (item_of (arg_reporter d) f) v x r leaf same stops = absurd (no_leaf _ x _ r refl same leaf)
after_leaf (level_up d) v x r leaf same stops = after_leaf d tt x r leaf same stops
after_leaf (level_binary d f) v x r leaf same stops = absurd (subst Stops (sym (after_leaf d tt x r leaf same stops)) stops)
after_leaf d v x r leaf same stops = absurd v

-- a block doesn't go on at the end of the text
no_block_at_end : {e : List (List ℕ)} {a c : List Tok} {ts : Nodes} (s : Span) (r : List Tok) → Reads (Statements AtBracket) e a c ts → a ≡ end s ∷ r → ⊥
no_block_at_end s r at_bracket same = cc
no_block_at_end s r (statements (command d) f) same = cc
no_block_at_end s r (statements (make h d) f) same = cc
no_block_at_end s r (statements (statement_paren d) f) same = cc

missing_at_end : {e : List (List ℕ)} {a c : List Tok} {ts : Nodes} (s : Span) (r : List Tok) → Reads (Args (Maybe ∷ [])) e a c ts → a ≡ end s ∷ r → c ≡ end s ∷ r
missing_at_end s r (maybe_there (arg_commands d) no_arg) same = cc
missing_at_end s r (maybe_missing shut no_arg) same = same
missing_at_end s r (arg d f) same = elim d [ ]

-- a command of a value and perhaps a block, with a number and the end of the text behind it
after_birth : {e : List (List ℕ)} {a c : List Tok} {ts : Nodes} (m : ℤ) (q s : Span) (r : List Tok) → Reads (Args (Whole ∷ Maybe ∷ [])) e a c ts → a ≡ number m q ∷ end s ∷ r → c ≡ end s ∷ r
after_birth m q s r (arg (arg_whole d) f) same = missing_at_end s r f (after_leaf d tt (number m q) (end s ∷ r) refl same tt)

no_open_block : {e : List (List ℕ)} {a c : List Tok} {ts : Nodes} (v : List ℕ) (m : ℤ) (p q s : Span) (r : List Tok) → Reads (Statements AtBracket) e a c ts → a ≡ word v (Command (Whole ∷ Maybe ∷ [])) p ∷ number m q ∷ end s ∷ r → ⊥
no_open_block v m p q s r at_bracket same = cc
no_open_block v m p q s r (statements (command {e = e} {is = is} {b = b} {c = c} {ts = ts} d) f) same =
    let needs : is ≡ Whole ∷ Maybe ∷ [] = cc in
    let rest : b ≡ number m q ∷ end s ∷ r = cc in
    no_block_at_end s r f (after_birth m q s r (subst (λ these. Reads (Args these) e b c ts) needs d) rest)
no_open_block v m p q s r (statements (make h d) f) same = cc
no_open_block v m p q s r (statements (statement_paren d) f) same = cc

-- the inputs of if: a value, and a block that isn't closed
no_condition : {e : List (List ℕ)} {a c : List Tok} {ts : Nodes} (u v : List ℕ) (m : ℤ) (i o p q s : Span) (r : List Tok) → Reads (Args (Whole ∷ Within blocks.Commands ∷ [])) e a c ts → a ≡ word u Constant i ∷ open_bracket o ∷ word v (Command (Whole ∷ Maybe ∷ [])) p ∷ number m q ∷ end s ∷ r → ⊥
no_condition u v m i o p q s r (arg (arg_whole d) (arg (arg_commands {b = b} body) no_arg)) same =
    let open_there = after_leaf d tt (word u Constant i) (open_bracket o ∷ word v (Command (Whole ∷ Maybe ∷ [])) p ∷ number m q ∷ end s ∷ r) refl same tt in
    let inside : b ≡ word v (Command (Whole ∷ Maybe ∷ [])) p ∷ number m q ∷ end s ∷ r = cc in
    no_open_block v m p q s r body inside

no_open_text : {k : Ending} {e : List (List ℕ)} {a c : List Tok} {ts : Nodes} (t u v : List ℕ) (m : ℤ) (h i o p q s : Span) (r : List Tok) → Reads (Statements k) e a c ts → a ≡ word t (Command (Whole ∷ Within blocks.Commands ∷ [])) h ∷ word u Constant i ∷ open_bracket o ∷ word v (Command (Whole ∷ Maybe ∷ [])) p ∷ number m q ∷ end s ∷ r → ⊥
no_open_text t u v m h i o p q s r at_bracket same = cc
no_open_text t u v m h i o p q s r at_end same = cc
no_open_text t u v m h i o p q s r (statements (command {e = e} {is = is} {b = b} {c = c} {ts = ts} d) f) same =
    let needs : is ≡ Whole ∷ Within blocks.Commands ∷ [] = cc in
    let rest : b ≡ word u Constant i ∷ open_bracket o ∷ word v (Command (Whole ∷ Maybe ∷ [])) p ∷ number m q ∷ end s ∷ r = cc in
    no_condition u v m i o p q s r (subst (λ these. Reads (Args these) e b c ts) needs d) rest
no_open_text t u v m h i o p q s r (statements (make known d) f) same = cc
no_open_text t u v m h i o p q s r (statements (statement_paren d) f) same = cc

abbrev open_text : List Token
open_text = w "if" 0 ∷ w "true" 1 ∷ token Open 2 ∷ w "cro" 3 ∷ n 1 4 ∷ token End 5 ∷ []

no_closed_block : BeginsReadable form.Commands [] (terms bare) open_text → ⊥
unfolding rows
no_closed_block (after, t, (tokens, (ts, same, d))) = no_open_text (codes "if") (codes "true") (codes "cro") _ (at 0) (at 1) (at 2) (at 3) (at 4) (at 5) _ d refl

and_more : (t : Token) (ts : List Token) → IsToken t → All IsToken ts → All IsToken (t ∷ ts)
and_more t ts here rest zero d l = here
and_more t ts here rest (suc k) d l = rest k d (omega (arith, l))

abbrev end_of_all : List Token
end_of_all = token End 6 ∷ []

abbrev close_and_end : List Token
close_and_end = token Close 5 ∷ end_of_all

closed : All IsToken close_and_end
closed = and_more (token Close 5) end_of_all tt (all_one (token End 6) tt)

-- what begins like it: if true [ ], and if true [ cro 1 ]
abbrev empty_if : Nodes
empty_if = one (named "if" 0 (two (named "true" 1 none) (node label.Commands (at 2) none)))

abbrev full_if : Nodes
full_if = one (named "if" 0 (two (named "true" 1 none) (node label.Commands (at 2) (one (named "cro" 3 (one (num 1 4)))))))

empty_reads : IsText form.Commands [] (marked (terms bare) (w "if" 0 ∷ w "true" 1 ∷ token Open 2 ∷ token Close 5 ∷ token End 6 ∷ [])) (node label.Commands (at 0) empty_if)
unfolding rows
empty_reads = (empty_if, refl, statements (command (arg (arg_whole (lifted 6 (item closed_constant))) (arg (arg_commands at_bracket) no_arg))) at_end)

full_reads : IsText form.Commands [] (marked (terms bare) (w "if" 0 ∷ w "true" 1 ∷ token Open 2 ∷ w "cro" 3 ∷ n 1 4 ∷ token Close 5 ∷ token End 6 ∷ [])) (node label.Commands (at 0) full_if)
unfolding rows
full_reads = (
  full_if,
  refl,
  statements (command (arg (arg_whole (lifted 6 (item closed_constant))) (arg (arg_commands (statements (command (arg (arg_whole (lifted 6 (item closed_number))) (maybe_missing refl no_arg))) at_bracket)) no_arg))) at_end,
)

if_begins : BeginsGood form.Commands [] (terms bare) (w "if" 0 ∷ [])
if_begins = (w "true" 1 ∷ token Open 2 ∷ token Close 5 ∷ token End 6 ∷ [], _, (and_more (w "true" 1) (token Open 2 ∷ close_and_end) refl (and_more (token Open 2) close_and_end tt closed), (empty_reads, omega arith)))

condition_begins : BeginsGood form.Commands [] (terms bare) (w "if" 0 ∷ w "true" 1 ∷ [])
condition_begins = (token Open 2 ∷ token Close 5 ∷ token End 6 ∷ [], _, (and_more (token Open 2) close_and_end tt closed, (empty_reads, omega arith)))

block_begins : BeginsGood form.Commands [] (terms bare) (w "if" 0 ∷ w "true" 1 ∷ token Open 2 ∷ [])
block_begins = (token Close 5 ∷ token End 6 ∷ [], _, (closed, (empty_reads, omega arith)))

birth_begins : BeginsGood form.Commands [] (terms bare) (w "if" 0 ∷ w "true" 1 ∷ token Open 2 ∷ w "cro" 3 ∷ [])
birth_begins = (n 1 4 ∷ token Close 5 ∷ token End 6 ∷ [], _, (and_more (n 1 4) close_and_end tt closed, (full_reads, omega arith)))

number_begins : BeginsGood form.Commands [] (terms bare) (w "if" 0 ∷ w "true" 1 ∷ token Open 2 ∷ w "cro" 3 ∷ n 1 4 ∷ [])
number_begins = (token Close 5 ∷ token End 6 ∷ [], _, (closed, (full_reads, omega arith)))

each_begins : (j : ℕ) → j < 5 → BeginsGood form.Commands [] (terms bare) (take (j + 1) open_text)
each_begins zero low = if_begins
each_begins (suc zero) low = condition_begins
each_begins (suc (suc zero)) low = block_begins
each_begins (suc (suc (suc zero))) low = birth_begins
each_begins (suc (suc (suc (suc zero)))) low = number_begins
each_begins (suc (suc (suc (suc (suc j))))) low = absurd (omega (arith, low))

end_is_no_word : IsUnknown form.Commands [] (terms bare) open_text 5 → ⊥
end_is_no_word unknown = let both : false ≡ true = ap word_there unknown.2.0 in cc

end_is_unexpected : IsTextFault form.Commands [] (terms bare) open_text 5 Unexpected
end_is_unexpected = ((omega arith, each_begins, (λ good. no_closed_block (good.0, good.1, (good.2.0, good.2.1.0)))), (no_closed_block, end_is_no_word))
