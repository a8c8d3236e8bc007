-- A turn comes, and then those that are left behind it.
use Rattle.std.proofs.Common.{◌≡◌, ℕ, zero, suc, ◌+◌, ◌-◌, ◌<◌, ◌≤◌, ◌==◌, nat_le, nat_lt, Bool, true, false, not, List, [], ◌∷◌, ◌++◌, Option, Some, None, drop, take, length, get_or, slice_get, refl, ap, ◌∙◌, sym, subst, arith, if◌then◌else◌}
use Rattle.std.proofs.lemmas.Bool.{leb-true, leb-false}
use Rattle.std.proofs.lemmas.Option.{slice_get-get_or}
use Rattle.nl_value.specs.Plain.{Plain, PlainNumber, PlainTruth, PlainWords, PlainItems, PlainTurtle, PlainPatch, PlainLink, PlainNobody, PlainSet}
use Rattle.nl_tree.specs.Tree.{Node, span, parts}
use Rattle.nl_exec_acts.specs.declared.fail.ErrorKind.TheVariants.{WrongType}
use Rattle.nl_exec_meaning.specs.declared.words.Arrow.{Arrow}
use Rattle.nl_exec_meaning.specs.declared.words.Arrow.TheVariants as arrow
use Rattle.nl_exec_meaning.specs.declared.rounds.Rounds.{Rounds}
use Rattle.nl_exec_meaning.specs.State.{State, Exit, Outcome, Eval, Gives, Stopped, Reported, Left, Budget, Error, found, gives, goes_on}
use Rattle.nl_exec_meaning.specs.Arrows.{Pair, after_turn_by, all_turns, by_rank, column, gives_kept, gives_list, keep, keep_true, kept_with, place_number, places, raise_true, raised, turn_with}
use Rattle.nl_exec_meaning.specs.Rounds.{RoundsStand, first_of, fits_behind, given, is_over, items_in, kept_if, kept_item, lists_of, made_on, other_than, pairs_left, past_on, ranked_on, settled_at, settled_place, so_far, told, turn_over, turns_left, unless_past}
use Rattle.nl_exec_meaning.proofs.Same.{found-same, spend-same}
use Rattle.nl_exec_arrows.proofs.Pairs.{drop_at, drop_past, no_pair_left, pair, pair_comes}

-- ---- what is the same

after-same : (e : Exit) (kept : ℕ) (s : State) (f g : Plain → State → Outcome) → ((value : Plain) (s1 : State) → f value s1 ≡ g value s1) →
    after_turn_by e kept s f ≡ after_turn_by e kept s g
after-same (Gives value) kept s f g same = same value _
after-same Stopped kept s f g same = refl
after-same (Reported value) kept s f g same = refl
after-same Left kept s f g same = refl
after-same Budget kept s f g same = refl
after-same (Error kind place body) kept s f g same = refl

kept_by : (b : Bool) (made : List Plain) (value : Plain) → unless_past (not b) (kept_if b made value) ≡ (if b then Some (made ++ value ∷ []) else None)
kept_by true made value = refl
kept_by false made value = refl

-- what is kept with one value more
kept_same : (b : Bool) (made : List Plain) (value : Plain) → unless_past (past_on b made value) (made_on b made value) ≡ kept_with (unless_past b made) value
kept_same true made value = refl
kept_same false made value = kept_by (fits_behind made value) made value

-- a place is left
one_left : (many at : ℕ) → nat_le many at ≡ false → many - at ≡ suc (many - (at + 1))
one_left many at more = let h = leb-false many at more in omega (arith, h)

none_left : (many at : ℕ) → nat_le many at ≡ true → many - at ≡ 0
none_left many at over = let h = leb-true many at over in omega (arith, h)

-- an item is left
item_left : (items : List Plain) (many at : ℕ) → many ≡ length items → at < many → slice_get items at ≡ Some (get_or items at PlainNobody)
item_left items many at full less = slice_get-get_or items at PlainNobody (omega (arith, full, less))

-- how a word ends once no turn is left
abbrev pub word_over : Node → Arrow → Rounds → State → Outcome
word_over t arrow.ForEach r s = goes_on s
word_over t arrow.Map r s = gives_kept (so_far r) (span t) s
word_over t arrow.Filter r s = gives_list r.made s
word_over t arrow.Reduce r s = gives (first_of r.made) s
word_over t arrow.SortBy r s = gives_list (by_rank (items_in r) r.ranks) s
word_over t arrow.NValues r s = gives_kept (so_far r) (span t) s

module _ (prev : Eval) (t : Node) (index : ℕ) where
  turn-same : (values : List Plain) (s : State) (f g : Plain → State → Outcome) → ((value : Plain) (s1 : State) → f value s1 ≡ g value s1) →
      turn_with prev t index values s f ≡ turn_with prev t index values s g
  turn-same values s f g same =
      found-same (slice_get (parts t) index) WrongType (span t) s _ _ (λ block. spend-same s.units s _ _ (λ left is. after-same _ _ _ f g same))

  -- ---- words that go over places

  abbrev over_lists : Rounds → List ℕ → Option (List Plain) → State → Outcome
  over_lists r left made s = all_turns prev t index (λ more at. column (lists_of r.over) at) keep left made s (λ more s1. gives_kept more (span t) s1)

  abbrev over_numbers : List ℕ → Option (List Plain) → State → Outcome
  over_numbers left made s = all_turns prev t index (λ more at. place_number at ∷ []) keep left made s (λ more s1. gives_kept more (span t) s1)

  -- ---- words that go over items

  abbrev over_kept : List Plain → List Plain → State → Outcome
  over_kept left made s = all_turns prev t index (λ kept item. item ∷ []) keep_true left made s (λ kept s1. gives_list kept s1)

  abbrev over_handed : List Plain → Plain → State → Outcome
  over_handed left made s = all_turns prev t index (λ made item. made ∷ item ∷ []) (λ made item value. Some value) left made s (λ made s1. gives made s1)

  abbrev over_pairs : List Plain → List Pair → List ℕ → State → Outcome
  over_pairs items left ranks s =
      all_turns prev t index (λ ranks pair. pair.first ∷ pair.second ∷ []) raise_true left ranks s (λ ranks s1. gives_list (by_rank items ranks) s1)

  filter_told : (r : Rounds) (item : Plain) (value : Plain) (s : State) → take 1 (drop r.at (items_in r)) ≡ item ∷ [] →
      found (keep_true r.made item value) WrongType (span t) s (λ more. over_kept (drop (r.at + 1) (items_in r)) more s) ≡ turn_over arrow.Filter prev t index r value s
  filter_told r item (PlainTruth true) s is = ap (λ (xs : List Plain). over_kept (drop (r.at + 1) (items_in r)) (r.made ++ xs) s) (sym is)
  filter_told r item (PlainTruth false) s is = refl
  filter_told r item (PlainNumber count) s is = refl
  filter_told r item (PlainWords bytes) s is = refl
  filter_told r item (PlainItems items) s is = refl
  filter_told r item (PlainTurtle turtle) s is = refl
  filter_told r item (PlainPatch patch) s is = refl
  filter_told r item (PlainLink link) s is = refl
  filter_told r item PlainNobody s is = refl
  filter_told r item (PlainSet set) s is = refl

  sort_told : (r : Rounds) (first second : Plain) (value : Plain) (s : State) →
      found (raise_true r.ranks (pair first second r.place) value) WrongType (span t) s
      (λ ranks. over_pairs (items_in r) (pairs_left (items_in r) (settled_place r.many r.place (other_than r.place (r.at + 1))) (settled_at r.many (other_than r.place (r.at + 1)))) ranks s)
      ≡ turn_over arrow.SortBy prev t index r value s
  sort_told r first second (PlainTruth true) s = refl
  sort_told r first second (PlainTruth false) s = refl
  sort_told r first second (PlainNumber count) s = refl
  sort_told r first second (PlainWords bytes) s = refl
  sort_told r first second (PlainItems items) s = refl
  sort_told r first second (PlainTurtle turtle) s = refl
  sort_told r first second (PlainPatch patch) s = refl
  sort_told r first second (PlainLink link) s = refl
  sort_told r first second PlainNobody s = refl
  sort_told r first second (PlainSet set) s = refl

  -- ---- the next turn

  pub turn_comes : (word : Arrow) (r : Rounds) (s : State) → RoundsStand word r → is_over word r ≡ false →
      turns_left word prev t index r s ≡ turn_with prev t index (given word r) s (λ value s1. turn_over word prev t index r value s1)
  turn_comes arrow.ForEach r s stand more =
      ap (λ (n : ℕ). all_turns prev t index (λ none at. column (lists_of r.over) at) (λ none at value. Some none) (places r.at n) PlainNobody s (λ none s1. goes_on s1)) (one_left r.many r.at more)
  turn_comes arrow.Map r s stand more =
      ap (λ (n : ℕ). over_lists r (places r.at n) (so_far r) s) (one_left r.many r.at more)
      ∙ turn-same (given arrow.Map r) s _ (λ value s1. turn_over arrow.Map prev t index r value s1)
      (λ value s1. ap (λ (made : Option (List Plain)). over_lists r (places (r.at + 1) (r.many - (r.at + 1))) made s1) (sym (kept_same r.past r.made value)))
  turn_comes arrow.NValues r s stand more =
      ap (λ (n : ℕ). over_numbers (places r.at n) (so_far r) s) (one_left r.many r.at more)
      ∙ turn-same (given arrow.NValues r) s _ (λ value s1. turn_over arrow.NValues prev t index r value s1)
      (λ value s1. ap (λ (made : Option (List Plain)). over_numbers (places (r.at + 1) (r.many - (r.at + 1))) made s1) (sym (kept_same r.past r.made value)))
  turn_comes arrow.Filter r s stand more =
      let items = items_in r in
      let item = get_or items r.at PlainNobody in
      let here = drop_at items r.at item (item_left items r.many r.at stand (leb-false r.many r.at more)) in
      ap (λ (xs : List Plain). over_kept xs r.made s) here
      ∙ ap (λ (values : List Plain). turn_with prev t index values s (λ value s1. found (keep_true r.made item value) WrongType (span t) s1 (λ kept. over_kept (drop (r.at + 1) items) kept s1))) (sym (ap (take 1) here))
      ∙ turn-same (given arrow.Filter r) s _ (λ value s1. turn_over arrow.Filter prev t index r value s1) (λ value s1. filter_told r item value s1 (ap (take 1) here))
  turn_comes arrow.Reduce r s stand more =
      let items = items_in r in
      let item = get_or items r.at PlainNobody in
      let here = drop_at items r.at item (item_left items r.many r.at stand (leb-false r.many r.at more)) in
      ap (λ (xs : List Plain). over_handed xs (first_of r.made) s) here
      ∙ ap (λ (values : List Plain). turn_with prev t index (first_of r.made ∷ values) s (λ value s1. over_handed (drop (r.at + 1) items) value s1)) (sym (ap (take 1) here))
  turn_comes arrow.SortBy r s stand more =
      let items = items_in r in
      let places = stand.1 (leb-false r.many r.place more) in
      let first = get_or items r.at PlainNobody in
      let second = get_or items r.place PlainNobody in
      let is = item_left items r.many r.at stand.0 places.0 in
      let beside = item_left items r.many r.place stand.0 (leb-false r.many r.place more) in
      let here = drop_at items r.at first is in
      let there = drop_at items r.place second beside in
      let both : take 1 (drop r.at items) ++ take 1 (drop r.place items) ≡ first ∷ second ∷ [] =
      ap (λ (xs : List Plain). take 1 xs ++ take 1 (drop r.place items)) here ∙ ap (λ (xs : List Plain). first ∷ take 1 xs) there in
      ap (λ (ps : List Pair). over_pairs items ps r.ranks s) (pair_comes items r.many r.place r.at first second stand.0 places.1 is beside)
      ∙ ap (λ (values : List Plain). turn_with prev t index values s (λ value s1. found (raise_true r.ranks (pair first second r.place) value) WrongType (span t) s1
      (λ ranks. over_pairs items (pairs_left items (settled_place r.many r.place (other_than r.place (r.at + 1))) (settled_at r.many (other_than r.place (r.at + 1)))) ranks s1))) (sym both)
      ∙ turn-same (given arrow.SortBy r) s _ (λ value s1. turn_over arrow.SortBy prev t index r value s1) (λ value s1. sort_told r first second value s1)

  -- ---- no turn is left

  pub none_comes : (word : Arrow) (r : Rounds) (s : State) → RoundsStand word r → is_over word r ≡ true → turns_left word prev t index r s ≡ word_over t word r s
  none_comes arrow.ForEach r s stand over =
      ap (λ (n : ℕ). all_turns prev t index (λ none at. column (lists_of r.over) at) (λ none at value. Some none) (places r.at n) PlainNobody s (λ none s1. goes_on s1)) (none_left r.many r.at over)
  none_comes arrow.Map r s stand over = ap (λ (n : ℕ). over_lists r (places r.at n) (so_far r) s) (none_left r.many r.at over)
  none_comes arrow.NValues r s stand over = ap (λ (n : ℕ). over_numbers (places r.at n) (so_far r) s) (none_left r.many r.at over)
  none_comes arrow.Filter r s stand over =
      ap (λ (xs : List Plain). over_kept xs r.made s) (drop_past (items_in r) r.at (let h = leb-true r.many r.at over in omega (arith, h, stand)))
  none_comes arrow.Reduce r s stand over =
      ap (λ (xs : List Plain). over_handed xs (first_of r.made) s) (drop_past (items_in r) r.at (let h = leb-true r.many r.at over in omega (arith, h, stand)))
  none_comes arrow.SortBy r s stand over =
      ap (λ (ps : List Pair). over_pairs (items_in r) ps r.ranks s) (no_pair_left (items_in r) r.place r.at (let h = leb-true r.many r.place over in let full = stand.0 in omega (arith, h, full)))
