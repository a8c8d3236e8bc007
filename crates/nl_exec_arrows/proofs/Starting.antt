-- What a word makes of its inputs are turns over all that it has.
use Rattle.std.proofs.Common.{◌≡◌, ℕ, zero, suc, ◌+◌, ◌-◌, ◌<◌, ◌==◌, nat_lt, Bool, true, false, IsTrue, List, [], ◌∷◌, ◌++◌, Option, Some, None, map, drop, length, replicate, slice_get, refl, ap, ◌∙◌, sym, arith, if◌then◌else◌}
use Rattle.std.specs.List.{list_all}
use Rattle.std.proofs.lemmas.Bool.{lt-ltb}
use Rattle.nl_fixed.specs.declared.span.Span.{Span}
use Rattle.nl_value.specs.Plain.{Plain, PlainNobody}
use Rattle.nl_tree.specs.Tree.{Node, span, parts}
use Rattle.nl_exec_acts.specs.declared.fail.ErrorKind.TheVariants.{TooFew}
use Rattle.nl_exec_meaning.specs.declared.words.Arrow.{Arrow}
use Rattle.nl_exec_meaning.specs.declared.words.Arrow.TheVariants as arrow
use Rattle.nl_exec_meaning.specs.declared.rounds.Rounds.{Rounds}
use Rattle.nl_exec_meaning.specs.State.{State, Outcome, Eval, fails, gives, goes_on}
use Rattle.nl_exec_meaning.specs.Arrows.{Pair, all_turns, by_rank, column, first_length, gives_kept, gives_list, keep, pairs, pairs_of, pairs_from, places, raise_true, reduced, with_lists}
use Rattle.nl_exec_meaning.specs.Rounds.{RoundsStand, begun, first_of, listed, lists_of, other_than, pairs_left, settled_at, settled_place, turns_left}
use Rattle.nl_exec_arrows.specs.Lists.{IsOfLists, block_at}

-- turns over so many places, of which none has come yet
abbrev pub fresh : List Plain → ℕ → Rounds
fresh over many = record { over = over; at = 0; place = 0; many = many; made = []; past = false; ranks = [] }

-- ---- lists side by side

pub all_left : (many : ℕ) → many - 0 ≡ many
all_left many = omega arith

pub lists_stand : (word : Arrow) → IsOfLists word → (r : Rounds) → IsTrue (list_all (λ xs. length xs == r.many) (lists_of r.over)) → RoundsStand word r
lists_stand arrow.ForEach of r long = long
lists_stand arrow.Map of r long = long
lists_stand arrow.Filter of r long = absurd of
lists_stand arrow.Reduce of r long = absurd of
lists_stand arrow.SortBy of r long = absurd of
lists_stand arrow.NValues of r long = absurd of

module _ (prev : Eval) (t : Node) (s : State) where
  abbrev over_each : List Plain → ℕ → ℕ → Outcome
  over_each made index many =
      all_turns prev t index (λ none at. column (lists_of made) at) (λ none at value. Some none) (places 0 many) PlainNobody s (λ none s1. goes_on s1)

  abbrev over_kept : List Plain → ℕ → ℕ → Outcome
  over_kept made index many =
      all_turns prev t index (λ more at. column (lists_of made) at) keep (places 0 many) (Some []) s (λ more s1. gives_kept more (span t) s1)

  pub lists_begin : (word : Arrow) → IsOfLists word → (index many : ℕ) (made : List Plain) → index ≡ block_at word (length (parts t)) → many ≡ first_length (lists_of made) →
      ((place : Span) (s1 : State) (next : List (List Plain) → Outcome) → with_lists made place s1 next ≡ next (lists_of made)) →
      turns_left word prev t index (fresh made many) s ≡ begun word prev t made s
  lists_begin arrow.ForEach of index many made block first all =
      ap (λ (n : ℕ). over_each made index n) (all_left many) ∙ ap (λ (i : ℕ). over_each made i many) block ∙ ap (λ (n : ℕ). over_each made (length (parts t) - 1) n) first ∙ sym (all (span t) s _)
  lists_begin arrow.Map of index many made block first all =
      ap (λ (n : ℕ). over_kept made index n) (all_left many) ∙ ap (λ (i : ℕ). over_kept made i many) block ∙ ap (λ (n : ℕ). over_kept made 0 n) first ∙ sym (all (span t) s _)
  lists_begin arrow.Filter of index many made block first all = absurd of
  lists_begin arrow.Reduce of index many made block first all = absurd of
  lists_begin arrow.SortBy of index many made block first all = absurd of
  lists_begin arrow.NValues of index many made block first all = absurd of

  -- ---- a value that is handed on

  pub reduced_none : (items : List Plain) → slice_get items 0 ≡ None → reduced prev t items s ≡ fails TooFew (span t) s
  reduced_none [] none = refl
  reduced_none (item ∷ items) none = absurd (cc)

  pub reduced_some : (items : List Plain) (first : Plain) → slice_get items 0 ≡ Some first →
      all_turns prev t 0 (λ made item. made ∷ item ∷ []) (λ made item value. Some value) (drop 1 items) first s (λ made s1. gives made s1) ≡ reduced prev t items s
  reduced_some [] first is = absurd (cc)
  reduced_some (item ∷ items) first is =
      let same : item ≡ first = cc in
      ap (λ (x : Plain). all_turns prev t 0 (λ made item. made ∷ item ∷ []) (λ made item value. Some value) items x s (λ made s1. gives made s1)) (sym same)

-- ---- pairs

all_zero : (items : List Plain) → replicate {A = ℕ} (length items) 0 ≡ map (λ item. 0) items
all_zero [] = refl
all_zero (item ∷ items) = ap (λ (ns : List ℕ). 0 ∷ ns) (all_zero items)

first_pairs : (items : List Plain) → pairs_left items (settled_place (length items) 0 (other_than 0 0)) (settled_at (length items) (other_than 0 0)) ≡ pairs items
first_pairs [] = refl
first_pairs (item ∷ []) = refl
first_pairs (item ∷ other ∷ items) =
    let all = item ∷ other ∷ items in
    let more : nat_lt 1 (length all) ≡ true = lt-ltb 1 (length all) (omega arith) in
    ap (λ (b : Bool). pairs_left all (if b then 0 else 1) (if b then 1 else 0)) more

module _ (prev : Eval) (t : Node) (s : State) where
  abbrev pub over_pairs : List Plain → List Pair → List ℕ → Outcome
  over_pairs items left ranks =
      all_turns prev t 0 (λ ranks pair. pair.first ∷ pair.second ∷ []) raise_true left ranks s (λ ranks s1. gives_list (by_rank items ranks) s1)

  pub pairs_begin : (items : List Plain) (many : ℕ) → many ≡ length items →
      over_pairs items (pairs_left items (settled_place many 0 (other_than 0 0)) (settled_at many (other_than 0 0))) (replicate many 0) ≡ over_pairs items (pairs items) (map (λ item. 0) items)
  pairs_begin items many full =
      ap (λ (n : ℕ). over_pairs items (pairs_left items (settled_place n 0 (other_than 0 0)) (settled_at n (other_than 0 0))) (replicate n 0)) full
      ∙ ap (λ (ps : List Pair). over_pairs items ps (replicate (length items) 0)) (first_pairs items)
      ∙ ap (over_pairs items (pairs items)) (all_zero items)
