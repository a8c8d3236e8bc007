-- What `map` gives is as long as its list.
use Rattle.std.proofs.Common.{◌≡◌, ℕ, zero, suc, ◌+◌, List, [], ◌∷◌, ◌++◌, Option, Some, None, Bool, true, false, drop, length, refl, ap, ◌∙◌, sym, subst, arith, if◌then◌else◌}
use Rattle.std.proofs.lemmas.List.{length_push}
use Rattle.nl_fixed.specs.declared.span.Span.{Span}
use Rattle.nl_value.specs.Plain.{Plain, PlainItems, plains, items_of}
use Rattle.nl_value.specs.Limits.{within_limits}
use Rattle.nl_value.proofs.Lists.{items_of-plains}
use Rattle.nl_tree.specs.Tree.{Node, span}
use Rattle.nl_exec_acts.specs.declared.fail.ErrorKind.TheVariants.{OutOfList}
use Rattle.nl_exec_meaning.specs.State.{State, Outcome, Eval, fails, ◌>>=◌}
use Rattle.nl_exec_meaning.specs.Blocks.{values}
use Rattle.nl_exec_meaning.specs.Arrows.{all_turns, are_as_long, column, first_length, gives_kept, keep, kept_with, map_case, places, with_lists}
use Rattle.nl_exec_arrows.specs.Laws.{HasItems, MapsAreAsLong}
use Rattle.nl_exec_arrows.proofs.Folding.{EndsWith, choose_ends, turns_end}

places_long : (at left : ℕ) → length (places at left) ≡ left
places_long at zero = refl
places_long at (suc left) = ap (λ (n : ℕ). suc n) (places_long (at + 1) left)

-- a list that is kept with one value more is longer by one
kept_by : (b : Bool) (xs made : List Plain) → (if b then Some xs else None) ≡ Some made → made ≡ xs
kept_by true xs made is = cc
kept_by false xs made is = absurd (cc)

grown : (more : Option (List Plain)) (value : Plain) (made : List Plain) → kept_with more value ≡ Some made → (kept : List Plain) × (more ≡ Some kept) × (length made ≡ length kept + 1)
grown None value made is = absurd (cc)
grown (Some kept) value made is =
    let same = kept_by (within_limits (PlainItems (plains (kept ++ value ∷ [])))) (kept ++ value ∷ []) made is in
    (kept, refl, ap (λ (xs : List Plain). length xs) same ∙ length_push kept value)

module _ (prev : Eval) (t : Node) (items : List Plain) where
  -- a list as long as the items
  abbrev IsAsLong : Plain → State → Type 0
  IsAsLong value s = (made : List Plain) × (value ≡ PlainItems (plains made)) × (length made ≡ length items)

  -- so many are made that with those that are left they are as many
  abbrev GoesOn : List ℕ → Option (List Plain) → Type 0
  GoesOn left more = (made : List Plain) → more ≡ Some made → length made + length left ≡ length items

  step : (at : ℕ) (left : List ℕ) (more next : Option (List Plain)) (value : Plain) → keep more at value ≡ Some next → GoesOn (at ∷ left) more → GoesOn left next
  step at left more next value is so made has =
      let now : kept_with more value ≡ Some made = cc in
      let one = grown more value made now in
      let before = so one.0 one.1 in
      let longer_by_one = one.2 in
      omega (arith, before, longer_by_one)

  last : (place : Span) (more : Option (List Plain)) (s : State) → GoesOn [] more → EndsWith IsAsLong (gives_kept more place s)
  last place None s so = λ value is. absurd (cc)
  last place (Some made) s so = λ value is.
      let same : value ≡ PlainItems (plains made) = cc in
      let full = so made refl in
      (made, same, omega (arith, full))

  -- what follows the lists
  abbrev turns : List Plain → State → Outcome
  turns made s1 = with_lists made (span t) s1 (λ lists.
      all_turns prev t 0 (λ more at. column lists at) keep (places 0 (first_length lists)) (Some []) s1 (λ more s2. gives_kept more (span t) s2))

  as_long : (s1 : State) → EndsWith IsAsLong (turns (PlainItems (plains items) ∷ []) s1)
  as_long s1 =
      let xs = items_of (plains items) in
      let begins : GoesOn (places 0 (length xs)) (Some []) = λ made is. begin made is in
      choose_ends IsAsLong (are_as_long (xs ∷ [])) _ (fails OutOfList (span t) s1)
      (turns_end IsAsLong prev t 0 (λ more at. column (xs ∷ []) at) keep GoesOn
      (λ at left more next value had is so. step at left more next value is so)
      (λ more s2. gives_kept more (span t) s2) (λ more s2 so. last (span t) more s2 so)
      (places 0 (length xs)) (Some []) s1 begins)
      (λ value is. absurd (cc))
    where
      begin : (made : List Plain) → Some [] ≡ Some made → length made + length (places 0 (length (items_of (plains items)))) ≡ length items
      begin made is =
          let none : made ≡ [] = cc in
          let long = ap (λ (xs : List Plain). length xs) none in
          let full = places_long 0 (length (items_of (plains items))) in
          let same = ap (λ (xs : List Plain). length xs) (items_of-plains items) in
          omega (arith, long, full, same)

  map_ends : (s : State) → HasItems prev t s items → EndsWith IsAsLong (map_case prev t s)
  map_ends s has =
      let is : map_case prev t s ≡ turns (PlainItems (plains items) ∷ []) has.2 =
      ap (λ (ts : List Node). values prev (drop 1 ts) [] s turns) has.3 ∙ ap (λ (o : Outcome). o >>= λ value s1. turns (value ∷ []) s1) has.4 in
      subst (EndsWith IsAsLong) (sym is) (as_long has.2)

pub maps_are_as_long : MapsAreAsLong
maps_are_as_long prev t s items has = map_ends prev t items s has
