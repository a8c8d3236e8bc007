-- The one value that a word takes.
use Rattle.std.proofs.Common.{◌≡◌, ℕ, zero, suc, ◌+◌, ◌<◌, ◌==◌, Bool, true, false, List, [], ◌∷◌, Option, Some, None, length, slice_get, refl, ap, ◌∙◌, sym, arith}
use Rattle.std.specs.List.{list_all}
use Rattle.nl_fixed.specs.declared.span.Span.{Span}
use Rattle.nl_value.specs.Plain.{Plain, PlainNumber, PlainTruth, PlainWords, PlainItems, PlainTurtle, PlainPatch, PlainLink, PlainNobody, PlainSet}
use Rattle.nl_exec_acts.specs.declared.fail.ErrorKind.TheVariants.{WrongType, OutOfList}
use Rattle.nl_exec_meaning.specs.State.{State, Outcome, choose, fails, found}
use Rattle.nl_exec_meaning.specs.Arrows.{are_as_long, first_list, first_length, list_in, lists_in, with_lists}
use Rattle.nl_exec_meaning.specs.Rounds.{first_of, listed, lists_of}
use Rattle.nl_exec_arrows.specs.Lists.{is_list}

-- how many items the first value has
pub first_long : (vs : List Plain) → first_length (lists_of vs) ≡ length (listed (first_of vs))
first_long [] = refl
first_long (v ∷ vs) = refl

-- ---- lists side by side

-- all values are lists, or one isn't
lists_by : (xs : List Plain) (b : Bool) → list_all is_list xs ≡ b → b ≡ true → lists_in xs ≡ Some (lists_of xs)
lists_by [] b is so = refl
lists_by (PlainItems items ∷ xs) b is so = ap (first_list (list_in (PlainItems items))) (lists_by xs b is so)
lists_by (PlainNumber count ∷ xs) b is so = absurd (cc)
lists_by (PlainTruth truth ∷ xs) b is so = absurd (cc)
lists_by (PlainWords bytes ∷ xs) b is so = absurd (cc)
lists_by (PlainTurtle turtle ∷ xs) b is so = absurd (cc)
lists_by (PlainPatch patch ∷ xs) b is so = absurd (cc)
lists_by (PlainLink link ∷ xs) b is so = absurd (cc)
lists_by (PlainNobody ∷ xs) b is so = absurd (cc)
lists_by (PlainSet set ∷ xs) b is so = absurd (cc)

no_lists_by : (xs : List Plain) (b : Bool) → list_all is_list xs ≡ b → b ≡ false → lists_in xs ≡ None
no_lists_by [] b is isnt = absurd (cc)
no_lists_by (PlainItems items ∷ xs) b is isnt = ap (first_list (list_in (PlainItems items))) (no_lists_by xs b is isnt)
no_lists_by (PlainNumber count ∷ xs) b is isnt = refl
no_lists_by (PlainTruth truth ∷ xs) b is isnt = refl
no_lists_by (PlainWords bytes ∷ xs) b is isnt = refl
no_lists_by (PlainTurtle turtle ∷ xs) b is isnt = refl
no_lists_by (PlainPatch patch ∷ xs) b is isnt = refl
no_lists_by (PlainLink link ∷ xs) b is isnt = refl
no_lists_by (PlainNobody ∷ xs) b is isnt = refl
no_lists_by (PlainSet set ∷ xs) b is isnt = refl

module _ (xs : List Plain) (place : Span) (s : State) (next : List (List Plain) → Outcome) where
  pub one_is_none : list_all is_list xs ≡ false → with_lists xs place s next ≡ fails WrongType place s
  one_is_none isnt = ap (λ (o : Option (List (List Plain))). found o WrongType place s (λ lists. choose (are_as_long lists) (next lists) (fails OutOfList place s))) (no_lists_by xs false isnt refl)

  pub all_lists : list_all is_list xs ≡ true → (b : Bool) → are_as_long (lists_of xs) ≡ b → with_lists xs place s next ≡ choose b (next (lists_of xs)) (fails OutOfList place s)
  all_lists so b long =
      ap (λ (o : Option (List (List Plain))). found o WrongType place s (λ lists. choose (are_as_long lists) (next lists) (fails OutOfList place s))) (lists_by xs true so refl)
      ∙ ap (λ (c : Bool). choose c (next (lists_of xs)) (fails OutOfList place s)) long
