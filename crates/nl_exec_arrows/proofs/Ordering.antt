-- What `sort-by` gives are just its items, in the order that its turns tell.
use Rattle.std.proofs.Common.{◌≡◌, ℕ, Bool, true, false, List, [], ◌∷◌, Some, length, map, nat_lt, slice_get, refl, ap, ◌∙◌, sym, subst, if◌then◌else◌}
use Rattle.std.specs.List.Sorted.{IsPermutation}
use Rattle.std.proofs.lemmas.List.{length-map}
use Rattle.nl_value.specs.Plain.{Plain, PlainItems, PlainTruth, plains}
use Rattle.nl_value.specs.Sorting.{sorted_by}
use Rattle.nl_value.proofs.Lists.{items_of-plains}
use Rattle.nl_tree.specs.Tree.{Node, span}
use Rattle.nl_exec_acts.specs.declared.fail.ErrorKind.TheVariants.{WrongType}
use Rattle.nl_exec_meaning.specs.State.{State, Outcome, Eval, found, rest_of}
use Rattle.nl_exec_meaning.specs.Arrows.{Pair, Ranked, all_turns, by_rank, gives_list, in_order, pairs, raise_true, raised, ranked, sort_by_case}
use Rattle.nl_exec_arrows.specs.Laws.{HasItems, IsOrder, SortsFollowAnOrder, SortsPermute, TurnsSay}
use Rattle.nl_exec_arrows.proofs.Folding.{EndsWith, HadValue, turns_end}
use Rattle.nl_exec_arrows.proofs.Ranking.{all_raised, length_raised, ranked_values, ranks_follow}
use Rattle.nl_exec_arrows.proofs.Selecting.{second_is}
use Rattle.nl_exec_arrows.proofs.Sorting.{sort_permutes}

-- a turn that has a value tells by a truth whether the rank is raised
told : (ranks more : List ℕ) (pair : Pair) (value : Plain) → raise_true ranks pair value ≡ Some more →
    (b : Bool) × (value ≡ PlainTruth b) × (more ≡ (if b then raised pair.place ranks else ranks))
told ranks more pair (PlainTruth true) is = let same : more ≡ raised pair.place ranks = cc in (true, refl, same)
told ranks more pair (PlainTruth false) is = let same : more ≡ ranks = cc in (false, refl, same)
told ranks more pair value is = absurd (cc)

module _ (prev : Eval) (t : Node) (items : List Plain) (P : List Pair → List ℕ → Type 0) (Q : List Plain → Type 0) where
  -- a list of this kind
  abbrev IsMade : Plain → State → Type 0
  IsMade value s = (made : List Plain) × (value ≡ PlainItems (plains made)) × Q made

  -- what follows the list
  abbrev turns : Plain → State → Outcome
  turns value s1 = found (in_order (rest_of s1) value) WrongType (span t) s1 (λ items.
      all_turns prev t 0 (λ ranks pair. pair.first ∷ pair.second ∷ []) raise_true (pairs items) (map (λ item. 0) items) s1
      (λ ranks s2. gives_list (by_rank items ranks) s2))

  last : (xs : List Plain) (ranks : List ℕ) (s : State) → Q (by_rank xs ranks) → EndsWith IsMade (gives_list (by_rank xs ranks) s)
  last xs ranks s made = λ value is.
      let same : value ≡ PlainItems (plains (by_rank xs ranks)) = cc in
      (by_rank xs ranks, same, made)

  -- what the turns keep, and what they leave
  sort_ends :
      ((pair : Pair) (left : List Pair) (ranks more : List ℕ) (value : Plain) → HadValue prev t 0 (pair.first ∷ pair.second ∷ []) value → raise_true ranks pair value ≡ Some more →
      P (pair ∷ left) ranks → P left more) →
      P (pairs items) (map (λ item. 0) items) → ((ranks : List ℕ) → P [] ranks → Q (by_rank items ranks)) →
      (s : State) → HasItems prev t s items → EndsWith IsMade (sort_by_case prev t s)
  sort_ends step begins ends s has = subst (EndsWith IsMade) (sym (second_is prev t s items turns has ∙ same)) sorts
    where
      over : List Plain → Outcome
      over = λ xs. all_turns prev t 0 (λ ranks pair. pair.first ∷ pair.second ∷ []) raise_true (pairs xs) (map (λ item. 0) xs) has.2 (λ ranks s2. gives_list (by_rank xs ranks) s2)

      same : turns (PlainItems (plains items)) has.2 ≡ over items
      same = ap over (items_of-plains items)

      sorts : EndsWith IsMade (over items)
      sorts =
          turns_end IsMade prev t 0 (λ ranks pair. pair.first ∷ pair.second ∷ []) raise_true P step (λ ranks s2. gives_list (by_rank items ranks) s2)
          (λ ranks s2 so. last items ranks s2 (ends ranks so)) (pairs items) (map (λ item. 0) items) has.2 begins

-- ---- just its items

as_many : (items : List Plain) (pair : Pair) (ranks more : List ℕ) (value : Plain) → raise_true ranks pair value ≡ Some more → length ranks ≡ length items → length more ≡ length items
as_many items pair ranks more value is full =
    let it = told ranks more pair value is in
    ap (λ (ns : List ℕ). length ns) it.2 ∙ by_truth it.0 ∙ full
  where
    by_truth : (b : Bool) → length (if b then raised pair.place ranks else ranks) ≡ length ranks
    by_truth true = length_raised pair.place ranks
    by_truth false = refl

pub sorts_permute : SortsPermute
sorts_permute prev t s items has =
    sort_ends prev t items (λ left ranks. length ranks ≡ length items) (λ made. IsPermutation items made)
    (λ pair left ranks more value had is full. as_many items pair ranks more value is full)
    (length-map items (λ item. 0))
    (λ ranks full. subst (λ (xs : List Plain). IsPermutation xs (by_rank items ranks)) (ranked_values items ranks full)
    (sort_permutes (λ (a : Ranked). a.value) (λ (a b : Ranked). nat_lt a.rank b.rank) (ranked items ranks)))
    s has

-- ---- in the order that its turns tell

module _ (prev : Eval) (t : Node) (s : State) (items : List Plain) (before : Plain → Plain → Bool) (order : IsOrder before) (say : TurnsSay prev t before) (has : HasItems prev t s items) where
  said : (a b value : Plain) → HadValue prev t 0 (a ∷ b ∷ []) value → value ≡ PlainTruth (before a b)
  said a b value turn =
      let first : Some has.0 ≡ Some turn.block = sym (ap (λ (ts : List Node). slice_get ts 0) has.3) ∙ turn.there in
      let same : has.0 ≡ turn.block = cc in
      say turn.block has.1 a b value turn.begun (has.3 ∙ ap (λ (block : Node). block ∷ has.1 ∷ []) same) turn.had

  -- the ranks come to those of all pairs
  abbrev ComesTo : List Pair → List ℕ → Type 0
  ComesTo left ranks = all_raised before order left ranks ≡ all_raised before order (pairs items) (map (λ item. 0) items)

  goes_on : (pair : Pair) (left : List Pair) (ranks more : List ℕ) (value : Plain) → HadValue prev t 0 (pair.first ∷ pair.second ∷ []) value → raise_true ranks pair value ≡ Some more →
      ComesTo (pair ∷ left) ranks → ComesTo left more
  goes_on pair left ranks more value turn is so =
      let it = told ranks more pair value is in
      let tells = said pair.first pair.second value turn in
      let both : PlainTruth it.0 ≡ PlainTruth (before pair.first pair.second) = sym it.1 ∙ tells in
      let same : it.0 ≡ before pair.first pair.second = cc in
      ap (all_raised before order left) (it.2 ∙ ap (λ (b : Bool). if b then raised pair.place ranks else ranks) same) ∙ so

  in_order_of : (ranks : List ℕ) → ComesTo [] ranks → by_rank items ranks ≡ sorted_by before items
  in_order_of ranks so = ap (by_rank items) so ∙ ranks_follow before order items

pub sorts_follow_an_order : SortsFollowAnOrder
sorts_follow_an_order prev t s items before order say has =
    sort_ends prev t items (ComesTo prev t s items before order say has) (λ made. made ≡ sorted_by before items)
    (goes_on prev t s items before order say has) refl (in_order_of prev t s items before order say has) s has
