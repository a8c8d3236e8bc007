-- Serials of a list of agents, taken one by one: each is greater than all before it.
use Rattle.std.specs.Prelude.{◌≡◌, ℕ, zero, suc, ◌<◌, Bool, List, [], ◌∷◌, map, filter, take, length, slice_get, Some, All}
use Rattle.std.specs.List.Sorted.{IsStrictlyIncreasing}
use Rattle.std.proofs.Common.{arith, ap, ◌∙◌, sym, subst, get_or}
use Rattle.std.proofs.lemmas.List.Elements.{All-nil, All-cons, All-map, All-filter}
use Rattle.std.proofs.lemmas.Option.{none-some, slice_get-get_or}
use Rattle.nl_value.specs.Ascending.{IsAboveLast}
use Rattle.nl_agents.proofs.Keyed.{before, ascend_tail}

above_last : (n : ℕ) (ns : List ℕ) → All (λ m. m < n) ns → IsAboveLast n ns
above_last n ns below k e = below k 0 (omega (arith, e))

module _ {X : Type 0} (key : X → ℕ) where
  taken_below : (xs : List X) (i : ℕ) (x : X) → IsStrictlyIncreasing (map key xs) → slice_get xs i ≡ Some x → All (λ y. key y < key x) (take i xs)
  taken_below [] i x up e = absurd (none-some x e)
  taken_below (y ∷ ys) zero x up e = All-nil (λ z. key z < key x)
  taken_below (y ∷ ys) (suc i) x up e =
      All-cons (λ z. key z < key x) y (take i ys) (before key y ys i x up e) (taken_below ys i x (ascend_tail (key y) (map key ys) up) e)

  -- the serial of the next item is above all taken so far
  pub above_taken : (xs : List X) (i : ℕ) (x : X) (taken : List ℕ) → x ≡ get_or xs i x → i < length xs → IsStrictlyIncreasing (map key xs) → taken ≡ map key (take i xs) → IsAboveLast (key x) taken
  above_taken xs i x taken e l up is =
      let there = slice_get-get_or xs i x l ∙ ap (λ (y : X). Some y) (sym e) in
      subst (λ ns. IsAboveLast (key x) ns) (sym is)
      (above_last (key x) (map key (take i xs)) (All-map (λ m. m < key x) key (take i xs) (taken_below xs i x up there)))

  -- also where only those are taken that pass a test
  pub above_kept : (test : X → Bool) (xs : List X) (i : ℕ) (x : X) (taken : List ℕ) → x ≡ get_or xs i x → i < length xs → IsStrictlyIncreasing (map key xs) → taken ≡ map key (filter test (take i xs)) → IsAboveLast (key x) taken
  above_kept test xs i x taken e l up is =
      let there = slice_get-get_or xs i x l ∙ ap (λ (y : X). Some y) (sym e) in
      subst (λ ns. IsAboveLast (key x) ns) (sym is)
      (above_last (key x) (map key (filter test (take i xs)))
      (All-map (λ m. m < key x) key (filter test (take i xs)) (All-filter test (λ y. key y < key x) (take i xs) (taken_below xs i x up there))))
