-- The faults of some texts, with the tokens marked by the whole word table of a model that declares nothing.
use Rattle.std.proofs.Common.{◌≡◌, ℕ, zero, suc, ◌+◌, ◌<◌, ◌≤◌, Bool, true, false, not, List, [], ◌∷◌, Option, Some, None, take, length, All, refl, ap, ◌∙◌, sym, subst, arith, ℤ, codes}
use Rattle.std.proofs.lemmas.Bool.{false≢true}
use Rattle.std.proofs.lemmas.List.{length-map}
use Rattle.nl_fixed.specs.declared.span.Span.{Span}
use Rattle.nl_words.specs.Rows.{rows}
use Rattle.nl_tree.specs.declared.declared.Form.TheVariants as form
use Rattle.nl_tree.specs.Tree.{Node, Nodes}
use Rattle.nl_tree.specs.Vocabulary.{among, terms}
use Rattle.nl_tree.specs.Tokens.{Lexeme, Word, End, Token, IsToken, Tok, number, word, end, Unknown, Binary, mark, marked}
use Rattle.nl_tree.specs.Grammar.{two, Part, Closed, Chain, Sides, Call, LastCall, Items, AnyItems, Level, Literals, Arg, Args, Head, HeadNames, Statement, Statements, Reads, closed_number, closed_text, closed_constant, closed_plain, closed_variable, closed_local, closed_list, closed_block, paren, paren_many, paren_minus, chain_closed, chain_with, chain_near, call_prefix, call_many, item_chain, item_call, item_near, item_of, level_up, level_binary, arg_reporter, IsText, knows}
use Rattle.nl_tree.specs.BodyFault.{BeginsGood, BeginsReadable, Knows, IsUnknown, IsTextFault}
use Rattle.nl_tree.specs.declared.faults.BodyKind.TheVariants.{UnknownName, Unexpected}
use Rattle.nl_tree.proofs.GrammarExamples.{bare, at, token, w, n, num, named, item, lifted}
use Rattle.nl_tree.proofs.Outside.{flat_behind, outside}

-- A part of one value that begins here.
abbrev pub IsValue : Part → Type 0
IsValue Closed = Unit {0}
IsValue Chain = Unit {0}
IsValue (Level l) = Unit {0}
IsValue Call = Unit {0}
IsValue (Sides k) = ⊥
IsValue (LastCall k) = ⊥
IsValue (Items k) = ⊥
IsValue AnyItems = ⊥
IsValue Literals = ⊥
IsValue (Arg i) = ⊥
IsValue (Args is) = ⊥
IsValue (Head n ns f) = ⊥
IsValue (HeadNames n ns f) = ⊥
IsValue (Statement f) = ⊥
IsValue (Statements k) = ⊥

-- No value begins with what ends a text, or with a word that has no row and isn't known.
abbrev is_bad : List (List ℕ) → Tok → Bool
is_bad e (end s) = true
is_bad e (word v Unknown s) = not (among v e)
is_bad e t = false

good_local : (b : Bool) → b ≡ true → not b ≡ true → ⊥
good_local true h k = cc
good_local false h k = cc

clash : (e : List (List ℕ)) (y x : Tok) (b r : List Tok) → is_bad e y ≡ false → y ∷ b ≡ x ∷ r → is_bad e x ≡ true → ⊥
clash e y x b r good same bad =
    let here : y ≡ x = cc in
    let both : true ≡ false = sym bad ∙ subst (λ z. is_bad e z ≡ false) here good in
    cc

no_start : {p : Part} {e : List (List ℕ)} {a c : List Tok} {ts : Nodes} → Reads p e a c ts → IsValue p → (x : Tok) (r : List Tok) → a ≡ x ∷ r → is_bad e x ≡ true → ⊥
no_start closed_number v x r same bad = clash _ _ x _ r refl same bad
no_start closed_text v x r same bad = clash _ _ x _ r refl same bad
no_start closed_constant v x r same bad = clash _ _ x _ r refl same bad
no_start closed_plain v x r same bad = clash _ _ x _ r refl same bad
no_start closed_variable v x r same bad = clash _ _ x _ r refl same bad
no_start (closed_local known) v x r same bad = clash _ _ x _ r (ap not known) same bad
no_start (closed_list d) v x r same bad = clash _ _ x _ r refl same bad
no_start (closed_block d f) v x r same bad = clash _ _ x _ r refl same bad
no_start (paren d) v x r same bad = clash _ _ x _ r refl same bad
no_start (paren_many d) v x r same bad = clash _ _ x _ r refl same bad
no_start (paren_minus d) v x r same bad = clash _ _ x _ r refl same bad
no_start (chain_closed d) v x r same bad = no_start d tt x r same bad
no_start (chain_with d f) v x r same bad = no_start d tt x r same bad
no_start (chain_near d f) v x r same bad = no_start d tt x r same bad
no_start (call_prefix d f) v x r same bad = clash _ _ x _ r refl same bad
no_start (call_many d) v x r same bad = clash _ _ x _ r refl same bad
no_start (item_chain d) v x r same bad = no_start d tt x r same bad
no_start (item_call d) v x r same bad = no_start d tt x r same bad
no_start (item_near d f) v x r same bad = no_start d tt x r same bad
no_start (item_of (arg_reporter d) f) v x r same bad = clash _ _ x _ r refl same bad
no_start (level_up d) v x r same bad = no_start d tt x r same bad
no_start (level_binary d f) v x r same bad = no_start d tt x r same bad
no_start d v x r same bad = absurd v

-- After a number a value can't go on with another number, nor with an operator and a token with which no value begins.
abbrev Stops : List (List ℕ) → List Tok → Type 0
Stops e (number m s ∷ r) = Unit {0}
Stops e (word v (Binary l b) s ∷ x ∷ r) = is_bad e x ≡ true
Stops e r = ⊥

side_stops : {l : ℕ} {e : List (List ℕ)} {c : List Tok} {ts : Nodes} (v : List ℕ) (k : ℕ) (m : Bool) (s : Span) (b : List Tok) → Reads (Level l) e b c ts → Stops e (word v (Binary k m) s ∷ b) → ⊥
side_stops v k m s [] d stops = absurd stops
side_stops v k m s (x ∷ r) d stops = no_start d tt x r refl stops

after_number : {p : Part} {e : List (List ℕ)} {a c : List Tok} {ts : Nodes} → Reads p e a c ts → IsValue p → (m : ℤ) (s : Span) (r : List Tok) → a ≡ number m s ∷ r → Stops e r → c ≡ r
after_number closed_number v m s r same stops = cc
after_number closed_text v m s r same stops = cc
after_number closed_constant v m s r same stops = cc
after_number closed_plain v m s r same stops = cc
after_number closed_variable v m s r same stops = cc
after_number (closed_local known) v m s r same stops = cc
after_number (closed_list d) v m s r same stops = cc
after_number (closed_block d f) v m s r same stops = cc
after_number (paren d) v m s r same stops = cc
after_number (paren_many d) v m s r same stops = cc
after_number (paren_minus d) v m s r same stops = cc
after_number (chain_closed d) v m s r same stops = after_number d tt m s r same stops
after_number (chain_with {e = e} d f) v m s r same stops = absurd (subst (Stops e) (sym (after_number d tt m s r same stops)) stops)
after_number (chain_near {e = e} d f) v m s r same stops = absurd (subst (Stops e) (sym (after_number d tt m s r same stops)) stops)
after_number (call_prefix d f) v m s r same stops = cc
after_number (call_many d) v m s r same stops = cc
after_number (item_chain d) v m s r same stops = after_number d tt m s r same stops
after_number (item_call d) v m s r same stops = after_number d tt m s r same stops
after_number (item_near {e = e} d f) v m s r same stops = absurd (subst (Stops e) (sym (after_number d tt m s r same stops)) stops)
after_number (item_of (arg_reporter d) f) v m s r same stops = cc
after_number (level_up d) v m s r same stops = after_number d tt m s r same stops
after_number (level_binary {e = e} {w = x} {l = l} {m = g} {s = q} {b = b} d f) v m s r same stops = absurd (side_stops x l g q b f (subst (Stops e) (sym (after_number d tt m s r same stops)) stops))
after_number d v m s r same stops = absurd v

refused : (m : ℤ) (s : Span) (r : List Tok) (t : Node) → Stops [] r → IsText form.Reporter [] (number m s ∷ r) t → ⊥
refused m s r t stops (q, d) = absurd (subst (Stops []) (sym (after_number d tt m s r refl stops)) stops)

pub all_one : (t : Token) → IsToken t → All IsToken (t ∷ [])
all_one t h zero d l = h
all_one t h (suc k) d l = absurd (omega (arith, l))

all_two : (t u : Token) → IsToken t → IsToken u → All IsToken (t ∷ u ∷ [])
all_two t u h g zero d l = h
all_two t u h g (suc zero) d l = g
all_two t u h g (suc (suc k)) d l = absurd (omega (arith, l))

-- 1 begins a good text, and so does 1 +
number_begins : BeginsGood form.Reporter [] (terms bare) (n 1 0 ∷ [])
unfolding rows
number_begins = (token End 1 ∷ [], num 1 0, (all_one (token End 1) tt, ((at 1, lifted 6 (item closed_number)), omega arith)))

sum_begins : BeginsGood form.Reporter [] (terms bare) (n 1 0 ∷ w "+" 1 ∷ [])
unfolding rows
sum_begins = (
  n 1 2 ∷ token End 3 ∷ [],
  named "+" 1 (two (num 1 0) (num 1 2)),
  (all_two (n 1 2) (token End 3) tt tt, ((at 3, level_up (level_up (level_up (level_binary (lifted 3 (item closed_number)) (lifted 2 (item closed_number)))))), omega arith)),
)

one_before : (j : ℕ) → j < 1 → BeginsGood form.Reporter [] (terms bare) (take (j + 1) (n 1 0 ∷ n 2 1 ∷ token End 2 ∷ []))
one_before zero h = number_begins
one_before (suc j) h = absurd (omega (arith, h))

two_before : (last : Token) (j : ℕ) → j < 2 → BeginsGood form.Reporter [] (terms bare) (take (j + 1) (n 1 0 ∷ w "+" 1 ∷ last ∷ []))
two_before last zero h = number_begins
two_before last (suc zero) h = sum_begins
two_before last (suc (suc j)) h = absurd (omega (arith, h))

two_before_more : (next last : Token) (j : ℕ) → j < 2 → BeginsGood form.Reporter [] (terms bare) (take (j + 1) (n 1 0 ∷ w "+" 1 ∷ next ∷ last ∷ []))
two_before_more next last zero h = number_begins
two_before_more next last (suc zero) h = sum_begins
two_before_more next last (suc (suc j)) h = absurd (omega (arith, h))

abbrev pub is_word : Lexeme → Bool
is_word (Word name) = true
is_word l = false

abbrev pub word_there : Option Token → Bool
word_there None = false
word_there (Some t) = is_word t.lexeme

not_a_word : IsUnknown form.Reporter [] (terms bare) (n 1 0 ∷ n 2 1 ∷ token End 2 ∷ []) 1 → ⊥
not_a_word unknown = let both : false ≡ true = ap word_there unknown.2.0 in cc

end_is_no_word : IsUnknown form.Reporter [] (terms bare) (n 1 0 ∷ w "+" 1 ∷ token End 2 ∷ []) 2 → ⊥
end_is_no_word unknown = let both : false ≡ true = ap word_there unknown.2.0 in cc

-- 1 2 is unexpected at token 1
two_numbers : BeginsReadable form.Reporter [] (terms bare) (n 1 0 ∷ n 2 1 ∷ []) → ⊥
unfolding rows
two_numbers (after, t, (tokens, d)) = refused _ (at 0) _ t tt d

second_number_is_unexpected : IsTextFault form.Reporter [] (terms bare) (n 1 0 ∷ n 2 1 ∷ token End 2 ∷ []) 1 Unexpected
second_number_is_unexpected =
    ((omega arith, one_before, (λ good. two_numbers (good.0, good.1, (good.2.0, good.2.1.0)))), (two_numbers, not_a_word))

-- 1 + is unexpected at the end
no_right_side : BeginsReadable form.Reporter [] (terms bare) (n 1 0 ∷ w "+" 1 ∷ token End 2 ∷ []) → ⊥
unfolding rows
no_right_side (after, t, (tokens, d)) = refused _ (at 0) _ t refl d

end_is_unexpected : IsTextFault form.Reporter [] (terms bare) (n 1 0 ∷ w "+" 1 ∷ token End 2 ∷ []) 2 Unexpected
end_is_unexpected =
    ((omega arith, two_before (token End 2), (λ good. no_right_side (good.0, good.1, (good.2.0, good.2.1.0)))), (no_right_side, end_is_no_word))

-- 1 + foo has an unknown name at token 2
no_such_name : BeginsReadable form.Reporter [] (terms bare) (n 1 0 ∷ w "+" 1 ∷ w "foo" 2 ∷ []) → ⊥
unfolding rows
no_such_name (after, t, (tokens, d)) = refused _ (at 0) _ t refl d

-- in `1 + after` no bracket opens before what follows, so nothing is known there
foo_is_not_known : Knows form.Reporter [] (terms bare) (n 1 0 ∷ w "+" 1 ∷ w "foo" 2 ∷ token End 3 ∷ []) 2 (codes "foo") → ⊥
foo_is_not_known (after, t, (s, d), (tokens, known)) =
    let behind : length (marked (terms bare) after) ≤ length after = omega (arith, length-map after (mark (terms bare))) in
    let left : knows (codes "foo") (length after) d ≡ false = outside (codes "foo") (length after) d ((λ low. refl), ((λ low. refl), flat_behind (length after) (marked (terms bare) after) behind)) in
    false≢true (sym left ∙ known)

foo_is_unknown : IsUnknown form.Reporter [] (terms bare) (n 1 0 ∷ w "+" 1 ∷ w "foo" 2 ∷ token End 3 ∷ []) 2
unfolding rows
foo_is_unknown = (codes "foo", at 2, (refl, refl, foo_is_not_known))

name_is_unknown : IsTextFault form.Reporter [] (terms bare) (n 1 0 ∷ w "+" 1 ∷ w "foo" 2 ∷ token End 3 ∷ []) 2 UnknownName
name_is_unknown =
    ((omega arith, two_before_more (w "foo" 2) (token End 3), (λ good. no_such_name (good.0, good.1, (good.2.0, good.2.1.0)))), (no_such_name, foo_is_unknown))
