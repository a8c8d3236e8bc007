-- What `filter` gives are some of its items, in their order.
use Rattle.std.proofs.Common.{◌≡◌, true, false, List, [], ◌∷◌, ◌++◌, Some, slice_get, append-nil, append_assoc, ap, ◌∙◌, sym, subst}
use Rattle.nl_value.specs.Plain.{Plain, PlainItems, PlainTruth, plains, items_of}
use Rattle.nl_value.proofs.Lists.{items_of-plains}
use Rattle.nl_tree.specs.Tree.{Node, span}
use Rattle.nl_exec_acts.specs.declared.fail.ErrorKind.TheVariants.{WrongType}
use Rattle.nl_exec_meaning.specs.State.{State, Outcome, Eval, found, ◌>>=◌}
use Rattle.nl_exec_meaning.specs.Arrows.{all_turns, filter_case, gives_list, keep_true, list_in, second_value}
use Rattle.nl_exec_arrows.specs.Laws.{FiltersSelect, HasItems, SomeOf, none_of, passed, taken}
use Rattle.nl_exec_arrows.proofs.Folding.{EndsWith, turns_end}

-- the value of the list
pub second_is : (prev : Eval) (t : Node) (s : State) (items : List Plain) (next : Plain → State → Outcome) → (has : HasItems prev t s items) →
    second_value prev t s next ≡ next (PlainItems (plains items)) has.2
second_is prev t s items next has =
    ap (λ (ts : List Node). found (slice_get ts 1) WrongType (span t) s (λ part. prev part s >>= next)) has.3 ∙ ap (λ (o : Outcome). o >>= next) has.4

one_taken : (xs ys : List Plain) (x : Plain) → SomeOf xs ys → SomeOf (xs ++ x ∷ []) (ys ++ x ∷ [])
one_taken [] [] x none_of = taken none_of
one_taken (y ∷ xs) [] x some = elim some [ ]
one_taken (y ∷ xs) (y1 ∷ ys) x (taken some) = taken (one_taken xs ys x some)
one_taken xs (y ∷ ys) x (passed some) = passed (one_taken xs ys x some)

one_passed : (xs ys : List Plain) (x : Plain) → SomeOf xs ys → SomeOf xs (ys ++ x ∷ [])
one_passed [] [] x none_of = passed none_of
one_passed (y ∷ xs) [] x some = elim some [ ]
one_passed (y ∷ xs) (y1 ∷ ys) x (taken some) = taken (one_passed xs ys x some)
one_passed xs (y ∷ ys) x (passed some) = passed (one_passed xs ys x some)

module _ (items : List Plain) where
  -- some of the items
  abbrev IsSome : Plain → State → Type 0
  IsSome value s = (made : List Plain) × (value ≡ PlainItems (plains made)) × SomeOf made items

  -- some of those that are done were kept
  pub record Kept (left made : List Plain) : Type 0 where
    pub done : List Plain
    pub is : items ≡ done ++ left
    pub some : SomeOf made done

  behind : (item : Plain) (left done : List Plain) → items ≡ done ++ item ∷ left → items ≡ (done ++ item ∷ []) ++ left
  behind item left done is = is ∙ sym (append_assoc done (item ∷ []) left)

  step : (item : Plain) (left made more : List Plain) (value : Plain) → keep_true made item value ≡ Some more → Kept (item ∷ left) made → Kept left more
  step item left made more (PlainTruth true) is kept =
      let same : made ++ item ∷ [] ≡ more = cc in
      record {
        done = kept.done ++ item ∷ [];
        is = behind item left kept.done kept.is;
        some = subst (λ (xs : List Plain). SomeOf xs (kept.done ++ item ∷ [])) same (one_taken made kept.done item kept.some);
      }
  step item left made more (PlainTruth false) is kept =
      let same : made ≡ more = cc in
      record {
        done = kept.done ++ item ∷ [];
        is = behind item left kept.done kept.is;
        some = subst (λ (xs : List Plain). SomeOf xs (kept.done ++ item ∷ [])) same (one_passed made kept.done item kept.some);
      }
  step item left made more value is kept = absurd (cc)

  last : (made : List Plain) (s : State) → Kept [] made → EndsWith IsSome (gives_list made s)
  last made s kept = λ value is.
      let same : value ≡ PlainItems (plains made) = cc in
      let all = append-nil kept.done in
      (made, same, subst (λ (xs : List Plain). SomeOf made xs) (sym (kept.is ∙ all)) kept.some)

module _ (prev : Eval) (t : Node) where
  -- what follows the list
  abbrev turns : Plain → State → Outcome
  turns value s1 = found (list_in value) WrongType (span t) s1 (λ items.
      all_turns prev t 0 (λ made item. item ∷ []) keep_true items [] s1 (λ made s2. gives_list made s2))

  filter_ends : (s : State) (items : List Plain) → HasItems prev t s items → EndsWith (IsSome items) (filter_case prev t s)
  filter_ends s items has = subst (EndsWith (IsSome items)) (sym (second_is prev t s items turns has))
      (turns_end (IsSome items) prev t 0 (λ made item. item ∷ []) keep_true (Kept items)
      (λ item left made more value had is kept. step items item left made more value is kept)
      (λ made s2. gives_list made s2) (λ made s2 kept. last items made s2 kept)
      (items_of (plains items)) [] has.2 (record { done = []; is = sym (items_of-plains items); some = none_of }))

pub filters_select : FiltersSelect
filters_select prev t s items has = filter_ends prev t s items has
