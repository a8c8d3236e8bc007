-- Items with their ranks, in the order of these.
use Rattle.std.proofs.Common.{◌≡◌, ◌==◌, ℕ, zero, suc, ◌+◌, nat_lt, Bool, true, false, List, [], ◌∷◌, ◌++◌, Some, None, map, take, slice_get, refl, ap, ◌∙◌, arith}
use Rattle.std.specs.Prelude.{cond}
use Rattle.std.specs.Ordering.{nat_cmp, is_lt}
use Rattle.std.specs.declared.cmp.Ordering.TheVariants.{Less, Equal, Greater}
use Rattle.std.specs.Cmp.{IsStrictWeakOrder}
use Rattle.std.proofs.lemmas.Cmp.{nat_cmp_total}
use Rattle.std.proofs.lemmas.List.Sorted.{ranks_by}
use Rattle.nl_value.specs.Plain.{Plain}
use Rattle.nl_value.specs.Sorting.{inserted, sorted_by}
use Rattle.nl_value.proofs.StableSorts.{sorted_by-map}
use Rattle.nl_exec_meaning.specs.Arrows as arrows
use Rattle.nl_exec_meaning.specs.Arrows.{ranked}
use Rattle.nl_exec_arrows.specs.Orders.{ranked_seen}
use Rattle.nl_exec_arrows.specs.declared.orders.Ranked.{Ranked}

-- ---- tests that agree sort alike

module _ {X : Type 0} (p q : X → X → Bool) (same : (a b : X) → p a b ≡ q a b) where
  inserted_same : (x : X) (ys : List X) → inserted p x ys ≡ inserted q x ys
  inserted_same x [] = refl
  inserted_same x (y ∷ ys) = rw (same y x, inserted_same x ys) refl

  sorted_same : (xs : List X) → sorted_by p xs ≡ sorted_by q xs
  sorted_same [] = refl
  sorted_same (x ∷ xs) = rw (sorted_same xs) (inserted_same x (sorted_by q xs))

-- ---- by ranks

less_by : (b e : Bool) → is_lt (cond b Less (cond e Equal Greater)) ≡ b
less_by true e = refl
less_by false true = refl
less_by false false = refl

nat_less : (x y : ℕ) → is_lt (nat_cmp x y) ≡ nat_lt x y
nat_less x y = less_by (nat_lt x y) (x == y)

abbrev pub fewer : Ranked → Ranked → Bool
fewer a b = is_lt (nat_cmp a.rank b.rank)

pub fewer_order : IsStrictWeakOrder fewer
fewer_order = ranks_by nat_cmp_total (λ (r : Ranked). r.rank)

pub fewer_is : (xs : List Ranked) → map ranked_seen (sorted_by fewer xs) ≡ sorted_by (λ (a b : arrows.Ranked). nat_lt a.rank b.rank) (map ranked_seen xs)
fewer_is xs =
    ap (map ranked_seen) (sorted_same fewer (λ a b. nat_lt a.rank b.rank) (λ a b. nat_less a.rank b.rank) xs)
    ∙ sorted_by-map ranked_seen (λ (a b : arrows.Ranked). nat_lt a.rank b.rank) xs

-- ---- with their ranks

abbrev pub with_rank : Plain → ℕ → arrows.Ranked
with_rank value rank = record { value = value; rank = rank }

pub ranked_next : (items : List Plain) (ranks : List ℕ) (k : ℕ) (item : Plain) (rank : ℕ) → slice_get items k ≡ Some item → slice_get ranks k ≡ Some rank →
    ranked (take (k + 1) items) ranks ≡ ranked (take k items) ranks ++ with_rank item rank ∷ []
ranked_next [] ranks k item rank is has = absurd (cc)
ranked_next (x ∷ items) [] k item rank is has = absurd (cc)
ranked_next (x ∷ items) (n ∷ ranks) zero item rank is has =
    let one : x ≡ item = cc in
    let other : n ≡ rank = cc in
    ap (λ (y : Plain). with_rank y n ∷ []) one ∙ ap (λ (m : ℕ). with_rank item m ∷ []) other
ranked_next (x ∷ items) (n ∷ ranks) (suc k) item rank is has =
    let m : suc k + 1 ≡ suc (k + 1) = omega arith in rw m (ap (λ (rs : List arrows.Ranked). with_rank x n ∷ rs) (ranked_next items ranks k item rank is has))

-- where there is no further rank, no further item has one
pub ranked_out : (items : List Plain) (ranks : List ℕ) (k : ℕ) → slice_get ranks k ≡ None → ranked (take k items) ranks ≡ ranked items ranks
ranked_out [] ranks zero out = refl
ranked_out [] ranks (suc k) out = refl
ranked_out (x ∷ items) [] zero out = refl
ranked_out (x ∷ items) [] (suc k) out = refl
ranked_out (x ∷ items) (n ∷ ranks) zero out = absurd (cc)
ranked_out (x ∷ items) (n ∷ ranks) (suc k) out = ap (λ (rs : List arrows.Ranked). with_rank x n ∷ rs) (ranked_out items ranks k out)
