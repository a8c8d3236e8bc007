-- The input of agents among the parts of a word's node.
use Rattle.std.proofs.Common.{◌≡◌, ℕ, zero, suc, ◌+◌, ◌<◌, ◌≤◌, Bool, true, false, cond, subst, List, [], ◌∷◌, ◌++◌, drop, length, Option, Some, None, refl, sym, ap, ◌∙◌, add-one, arith}
use Rattle.std.specs.Prelude.{slice_get}
use Rattle.nl_words.specs.declared.entry.Kinds.{Kinds}
use Rattle.nl_words.specs.declared.entry.Input.{Input}
use Rattle.nl_words.specs.declared.entry.Input.TheVariants as input
use Rattle.nl_tree.specs.Tokens.{repeated}
use Rattle.nl_tree.specs.Context.{last_value, given, givens}
use Rattle.nl_tree.specs.Tree.{Node, nodes}
use Rattle.nl_tree.specs.Term.{Term}
use Rattle.nl_check.specs.inner.Given.{given_by, is_value}

pub in_row : (is : List Input) (n at : ℕ) (x : Input) → at < length is → slice_get is at ≡ Some x → slice_get (is ++ repeated n) at ≡ Some x
in_row [] n at x within here = absurd (omega (arith, within))
in_row (i ∷ is) n zero x within here = here
in_row (i ∷ is) n (suc at) x within here = in_row is n at x (omega (arith, within)) here

repeated_at : (n at : ℕ) → at < n → slice_get (repeated n) at ≡ Some input.Value
repeated_at zero at within = absurd (omega (arith, within))
repeated_at (suc n) zero within = refl
repeated_at (suc n) (suc at) within = repeated_at n at (omega (arith, within))

repeated_past : (n at : ℕ) → n ≤ at → slice_get (repeated n) at ≡ None
repeated_past zero at past = refl
repeated_past (suc n) zero past = absurd (omega (arith, past))
repeated_past (suc n) (suc at) past = repeated_past n at (omega (arith, past))

pub further_value : (is : List Input) (n at : ℕ) → length is ≤ at → at < length is + n → slice_get (is ++ repeated n) at ≡ Some input.Value
further_value [] n at past within = repeated_at n at (omega (arith, within))
further_value (i ∷ is) n zero past within = absurd (omega (arith, past))
further_value (i ∷ is) n (suc at) past within = further_value is n at (omega (arith, past)) (omega (arith, within))

pub past_inputs : (is : List Input) (n at : ℕ) → length is + n ≤ at → slice_get (is ++ repeated n) at ≡ None
past_inputs [] n at past = repeated_past n at (omega (arith, past))
past_inputs (i ∷ is) n zero past = absurd (omega (arith, past))
past_inputs (i ∷ is) n (suc at) past = past_inputs is n at (omega (arith, past))

drop_one : {A : Type 0} (x : A) (xs : List A) (n : ℕ) → drop (suc n + 1) (x ∷ xs) ≡ drop (n + 1) xs
drop_one x xs n = rw (add-one) (rw (add-one) refl)

nothing : (found : Kinds) (is : List Input) → last_value found is [] ≡ found
nothing found [] = refl
nothing found (i ∷ is) = refl

-- the last value, one part further
pub value_step : (found k : Kinds) (ks : List Kinds) (is : List Input) (at : ℕ) → last_value found (drop at is) (k ∷ ks) ≡ last_value (cond (is_value (slice_get is at)) k found) (drop (at + 1) is) ks
value_step found k ks [] zero = refl
value_step found k ks [] (suc at) = rw add-one refl
value_step found k ks (input.Value ∷ is) zero = refl
value_step found k ks (input.Expression ∷ is) zero = refl
value_step found k ks (input.Commands ∷ is) zero = refl
value_step found k ks (input.MaybeCommands ∷ is) zero = refl
value_step found k ks (input.Reporter ∷ is) zero = refl
value_step found k ks (input.Variable ∷ is) zero = refl
value_step found k ks (input.Fresh ∷ is) zero = refl
value_step found k ks (input.ArrowCommands ∷ is) zero = refl
value_step found k ks (input.ArrowReporter ∷ is) zero = refl
value_step found k ks (input.Cases ∷ is) zero = refl
value_step found k ks (i ∷ is) (suc at) = rw (drop_one i is at) (value_step found k ks is at)

chosen_gives : (table : List Term) (b : Bool) (found chosen : Option Node) (part : Node) → chosen ≡ cond b (Some part) found → given_by table chosen ≡ cond b (given table part) (given_by table found)
chosen_gives table true found chosen part is = ap (given_by table) is
chosen_gives table false found chosen part is = ap (given_by table) is

-- the part that has been found so far gives what the last value does
pub agents_step : (table : List Term) (is : List Input) (at : ℕ) (parts : List Node) (part : Node) (found chosen : Option Node) (all : Kinds)
    → drop at parts ≡ part ∷ drop (at + 1) parts → chosen ≡ cond (is_value (slice_get is at)) (Some part) found
    → last_value (given_by table found) (drop at is) (givens table (nodes (drop at parts))) ≡ all
    → last_value (given_by table chosen) (drop (at + 1) is) (givens table (nodes (drop (at + 1) parts))) ≡ all
agents_step table is at parts part found chosen all here chose before =
    let now = subst (λ xs. last_value (given_by table found) (drop at is) (givens table (nodes xs)) ≡ all) here before in
    rw (chosen_gives table (is_value (slice_get is at)) found chosen part chose) (sym (value_step (given_by table found) (given table part) (givens table (nodes (drop (at + 1) parts))) is at) ∙ now)

pub agents_end : (table : List Term) (is : List Input) (at : ℕ) (parts : List Node) (found : Kinds) (all : Kinds) → drop at parts ≡ []
    → last_value found (drop at is) (givens table (nodes (drop at parts))) ≡ all → found ≡ all
agents_end table is at parts found all done before = sym (nothing found (drop at is)) ∙ subst (λ xs. last_value found (drop at is) (givens table (nodes xs)) ≡ all) done before
