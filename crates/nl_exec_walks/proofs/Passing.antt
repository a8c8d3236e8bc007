-- One pass over answers of the code, as contracts see them.
use Rattle.std.proofs.Common.{◌≡◌, ◌+◌, ◌<◌, ℕ, ℤ, Bool, true, false, cond, List, [], ◌∷◌, ◌++◌, map, filter, length, take, get_or, Option, Some, refl, ap, sym, ◌∙◌, subst}
use Rattle.std.proofs.lemmas.List.{map-append, take_more}
use Rattle.std.proofs.lemmas.List.Elements.{filter-append}
use Rattle.nl_value.specs.Order.{count_of}
use Rattle.nl_value.specs.Views.{plain}
use Rattle.nl_exec_meaning.specs.Walks.{Answer}
use Rattle.nl_exec_meaning.specs.inner.Seen.{answered}
use Rattle.nl_exec_meaning.specs.declared.turns.Answered.{Answered}
use Rattle.nl_exec_walks.specs.Extremes.{IsBestOf}
use Rattle.nl_exec_walks.specs.inner.Passes.{better}
use Rattle.nl_exec_walks.proofs.Best.{best_more}

-- the answers up to the next one
pub one_more : (xs : List Answered) (i : ℕ) (x : Answered) → i < length xs → x ≡ get_or xs i x → map answered (take (i + 1) xs) ≡ map answered (take i xs) ++ answered x ∷ []
one_more xs i x inside here =
    ap (map answered) (take_more xs i x inside)
    ∙ map-append answered (take i xs) (get_or xs i x ∷ [])
    ∙ ap (λ y. map answered (take i xs) ++ answered y ∷ []) (sym here)

pub best_so_far : (up : Bool) (known : Option ℤ) (xs : List Answered) (i : ℕ) (x : Answered) (best : ℤ) → i < length xs → x ≡ get_or xs i x
    → IsBestOf up known (map answered (take i xs)) → best ≡ better up known (count_of (plain x.value)) → IsBestOf up (Some best) (map answered (take (i + 1) xs))
best_so_far up known xs i x best inside here is made =
    subst (λ ys. IsBestOf up (Some best) ys) (sym (one_more xs i x inside here))
    (subst (λ k. IsBestOf up (Some k) (map answered (take i xs) ++ answered x ∷ [])) (sym made)
    (best_more up known (map answered (take i xs)) (answered x) is))

-- what a test keeps of them, seen in some way
module _ {Y : Type 0} (seen : Answer → Y) (test : Answer → Bool) where
  last_by : (a : Answer) (b : Bool) → test a ≡ b → map seen (filter test (a ∷ [])) ≡ cond b (seen a ∷ []) []
  last_by a true is = rw is refl
  last_by a false is = rw is refl

  after : (xs : List Answered) (i : ℕ) (x : Answered) (b : Bool) → i < length xs → x ≡ get_or xs i x → test (answered x) ≡ b
      → map seen (filter test (map answered (take (i + 1) xs))) ≡ map seen (filter test (map answered (take i xs))) ++ cond b (seen (answered x) ∷ []) []
  after xs i x b inside here is =
      ap (λ ys. map seen (filter test ys)) (one_more xs i x inside here)
      ∙ ap (map seen) (filter-append test (map answered (take i xs)) (answered x ∷ []))
      ∙ map-append seen (filter test (map answered (take i xs))) (filter test (answered x ∷ []))
      ∙ ap (λ ys. map seen (filter test (map answered (take i xs))) ++ ys) (last_by (answered x) b is)

  nothing_more : (ys : List Y) → ys ++ [] ≡ ys
  nothing_more [] = refl
  nothing_more (y ∷ ys) = ap (λ zs. y ∷ zs) (nothing_more ys)

  pub kept_yes : (xs : List Answered) (i : ℕ) (x : Answered) (kept more : List Y) → i < length xs → x ≡ get_or xs i x → test (answered x) ≡ true
      → kept ≡ map seen (filter test (map answered (take i xs))) → more ≡ kept ++ seen (answered x) ∷ [] → more ≡ map seen (filter test (map answered (take (i + 1) xs)))
  kept_yes xs i x kept more inside here is before now =
      now ∙ ap (λ ys. ys ++ seen (answered x) ∷ []) before ∙ sym (after xs i x true inside here is)

  pub kept_no : (xs : List Answered) (i : ℕ) (x : Answered) (kept : List Y) → i < length xs → x ≡ get_or xs i x → test (answered x) ≡ false
      → kept ≡ map seen (filter test (map answered (take i xs))) → kept ≡ map seen (filter test (map answered (take (i + 1) xs)))
  kept_no xs i x kept inside here is before = before ∙ sym (nothing_more _) ∙ sym (after xs i x false inside here is)

-- all of them, seen in some way
pub told_more : {Y : Type 0} (seen : Answer → Y) (xs : List Answered) (i : ℕ) (x : Answered) (kept more : List Y) → i < length xs → x ≡ get_or xs i x
    → kept ≡ map seen (map answered (take i xs)) → more ≡ kept ++ seen (answered x) ∷ [] → more ≡ map seen (map answered (take (i + 1) xs))
told_more seen xs i x kept more inside here before now =
    now ∙ ap (λ ys. ys ++ seen (answered x) ∷ []) before
    ∙ sym (map-append seen (map answered (take i xs)) (answered x ∷ []))
    ∙ ap (map seen) (sym (one_more xs i x inside here))
