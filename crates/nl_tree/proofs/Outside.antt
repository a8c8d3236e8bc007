-- Where a reading knows no names.
use Rattle.std.proofs.Common.{◌≡◌, ℕ, ◌+◌, ◌<◌, ◌≤◌, Bool, true, false, ◌&&◌, ◌||◌, List, [], ◌∷◌, length, refl, arith, nat_lt}
use Rattle.std.proofs.lemmas.Bool.{ne_eqb, lt-leb, ltb-true, ltb-false}
use Rattle.nl_tree.specs.Tree.{Nodes}
use Rattle.nl_tree.specs.Vocabulary.{among}
use Rattle.nl_tree.specs.Tokens.{Tok}
use Rattle.nl_tree.specs.Grammar.{opens, Part, Head, HeadNames, Statement, Statements, Reads, knows, closed_number, closed_text, closed_constant, closed_plain, closed_variable, closed_local, closed_list, closed_block, paren, paren_many, paren_minus, chain_closed, chain_with, chain_near, one_side, more_sides, call_prefix, call_many, one_item, more_items, no_item, any_item, last_call, more_last, item_chain, item_call, item_near, item_of, level_up, level_binary, literal_end, literal_number, literal_text, literal_constant, literal_list, arg_item, arg_whole, arg_commands, arg_reporter, arg_arrow_commands, arg_arrow_reporter, no_head, head_arrow, head_name, head_names, names_end, next_name, arg_variable, arg_local, no_arg, arg, maybe_there, maybe_missing, command, make, statement_paren, at_bracket, at_end, statements}
use Rattle.nl_tree.proofs.Suffix.{Suffix, same, longer, shorter, suffix}

pub neither : {a b : Bool} → a ≡ false → b ≡ false → (a || b) ≡ false
neither h k = rw h k

pub not_first : {a : Bool} (b : Bool) → a ≡ false → (a && b) ≡ false
not_first b h = rw h refl

pub not_second : (a : Bool) {b : Bool} → b ≡ false → (a && b) ≡ false
not_second true h = h
not_second false h = refl

-- No bracket opens among these tokens before the place.
abbrev pub Flat : ℕ → List Tok → Type 0
Flat left [] = Unit {0}
Flat left (t ∷ r) = (left ≤ length r → opens (t ∷ r) ≡ false) × Flat left r

pub flat_behind : (left : ℕ) (a : List Tok) → length a ≤ left → Flat left a
flat_behind left [] h = tt
flat_behind left (t ∷ r) h = ((λ low. absurd (omega (arith, h, low))), flat_behind left r (omega (arith, h)))

flat_rest : (left : ℕ) {c a : List Tok} → Suffix c a → Flat left a → Flat left c
flat_rest left same h = h
flat_rest left (longer s) h = flat_rest left s h.1

bracket_behind : (left m : ℕ) → (left ≤ m → true ≡ false) → m < left
bracket_behind left m h = at (nat_lt m left) refl
  where
    at : (b : Bool) → nat_lt m left ≡ b → m < left
    at true q = ltb-true m left q
    at false q = absurd (let both : true ≡ false = h (ltb-false m left q) in cc)

-- The place is before these tokens, or no bracket opens before it and these are no statements.
abbrev pub IsOutside : Part → ℕ → List Tok → Type 0
IsOutside (Statement f) left a = length a < left
IsOutside (Statements k) left a = length a < left
IsOutside (Head n ns f) left a = length a < left
IsOutside (HeadNames n ns f) left a = length a < left
IsOutside p left a = Flat left a

-- No name is known there.
pub outside : {p : Part} {e : List (List ℕ)} {a c : List Tok} {ts : Nodes} (v : List ℕ) (left : ℕ) (d : Reads p e a c ts) → IsOutside p left a → knows v left d ≡ false
outside v left closed_number h = refl
outside v left closed_text h = refl
outside v left closed_constant h = refl
outside v left closed_plain h = refl
outside v left closed_variable h = refl
outside v left (closed_local known) h = refl
outside v left (closed_list d) h = outside v left d h.1
outside v left (closed_block d f) h = neither (outside v left d h.1) (outside v left f (flat_rest left (suffix d) h.1))
outside v left (paren d) h = outside v left d h.1
outside v left (paren_many d) h = outside v left d h.1.1
outside v left (paren_minus d) h = outside v left d h.1.1
outside v left (chain_closed d) h = outside v left d h
outside v left (chain_with d f) h = neither (outside v left d h) (outside v left f (flat_rest left (suffix d) h).1)
outside v left (chain_near d f) h = neither (outside v left d h) (outside v left f (flat_rest left (suffix d) h).1)
outside v left (one_side d) h = outside v left d h
outside v left (more_sides d f) h = neither (outside v left d h) (outside v left f (flat_rest left (suffix d) h))
outside v left (call_prefix d f) h = neither (outside v left d h.1) (outside v left f (flat_rest left (suffix d) h.1))
outside v left (call_many d) h = outside v left d h.1
outside v left (one_item d) h = outside v left d h
outside v left (more_items d f) h = neither (outside v left d h) (outside v left f (flat_rest left (suffix d) h))
outside v left no_item h = refl
outside v left (any_item d f) h = neither (outside v left d h) (outside v left f (flat_rest left (suffix d) h))
outside v left (last_call d) h = outside v left d h
outside v left (more_last d f) h = neither (outside v left d h) (outside v left f (flat_rest left (suffix d) h))
outside v left (item_chain d) h = outside v left d h
outside v left (item_call d) h = outside v left d h
outside v left (item_near d f) h = neither (outside v left d h) (outside v left f (flat_rest left (suffix d) h).1)
outside v left (item_of d f) h = neither (outside v left d h) (outside v left f (flat_rest left (suffix d) h).1)
outside v left (level_up d) h = outside v left d h
outside v left (level_binary d f) h = neither (outside v left d h) (outside v left f (flat_rest left (suffix d) h).1)
outside v left literal_end h = refl
outside v left (literal_number d) h = outside v left d h.1
outside v left (literal_text d) h = outside v left d h.1
outside v left (literal_constant d) h = outside v left d h.1
outside v left (literal_list d f) h = neither (outside v left d h.1) (outside v left f (flat_rest left (suffix d) h.1))
outside v left (arg_item d) h = outside v left d h
outside v left (arg_whole d) h = outside v left d h
outside v left (arg_commands {b = b} d) h = outside v left d (bracket_behind left (length b) h.0)
outside v left (arg_reporter d) h = outside v left d h.1
outside v left (arg_arrow_commands {b = b} d f) h =
    let behind = bracket_behind left (length b) h.0 in
    neither (outside v left d behind) (outside v left f (omega (arith, behind, shorter (suffix d))))
outside v left (arg_arrow_reporter {f = f} {b = b} {c = c} {d = d} g k) h =
    let behind = bracket_behind left (length b) h.0 in
    let content : length c < left = omega (arith, behind, shorter (suffix g)) in
    neither (neither (outside v left g behind) (not_first (among v f) (not_second (nat_lt (length d) left) (lt-leb left (length c) content)))) (outside v left k (flat_behind left c (omega (arith, content))))
outside v left arg_variable h = refl
outside v left (arg_local known) h = refl
outside v left no_head h = refl
outside v left head_arrow h = refl
outside v left (head_name {e = e} {w = w} {c = c} fresh) h = not_first (among v (w ∷ e)) (ne_eqb left (length c + 1) (λ here. omega (arith, h, here)))
outside v left (head_names {f = f} {c = c} d) h =
    neither (not_first (among v f) (ne_eqb left (length c + 1) (λ here. omega (arith, h, here, shorter (suffix d))))) (outside v left d (omega (arith, h)))
outside v left (names_end {e = e} {c = c}) h = not_first (among v e) (ne_eqb left (length c + 1) (λ here. omega (arith, h, here)))
outside v left (next_name {e = e} {b = b} fresh d) h = neither (not_first (among v e) (ne_eqb left (length b + 1) (λ here. omega (arith, h, here)))) (outside v left d (omega (arith, h)))
outside v left no_arg h = refl
outside v left (arg d f) h = neither (outside v left d h) (outside v left f (flat_rest left (suffix d) h))
outside v left (maybe_there d f) h = neither (outside v left d h) (outside v left f (flat_rest left (suffix d) h))
outside v left (maybe_missing shut d) h = outside v left d h
outside v left (command {b = b} d) h = outside v left d (flat_behind left b (omega (arith, h)))
outside v left (make {b = b} fresh d) h = outside v left d (flat_behind left b (omega (arith, h)))
outside v left (statement_paren {f = f} {c = c} d) h =
    neither (not_first (among v f) (ne_eqb left (length c + 1) (λ here. omega (arith, h, here, shorter (suffix d))))) (outside v left d (omega (arith, h)))
outside v left (at_bracket {e = e} {c = c}) h = not_first (among v e) (ne_eqb left (length c + 1) (λ here. omega (arith, h, here)))
outside v left (at_end {e = e}) h = not_first (among v e) (ne_eqb left 1 (λ here. omega (arith, h, here)))
outside v left (statements {e = e} {a = a} {b = b} d f) h =
    neither (neither (not_first (among v e) (not_second (nat_lt (length b) left) (lt-leb left (length a) h))) (outside v left d h)) (outside v left f (omega (arith, h, shorter (suffix d))))
