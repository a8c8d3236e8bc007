-- The order of all values: any two compare, and by the language's order where they have one.
use Rattle.std.specs.Prelude.{◌≡◌, ℕ, pos, Bool, true, false, if◌then◌else◌, Option, Some, None, ◌⊎◌, List, [], ◌∷◌, refl}
use Rattle.std.proofs.Common.{ap, ◌∙◌, sym, inl, inr}
use Rattle.std.proofs.lemmas.Bool.{false≢true}
use Rattle.std.specs.declared.cmp.Ordering.{Ordering}
use Rattle.std.specs.declared.cmp.Ordering.TheVariants.{Less, Equal, Greater}
use Rattle.std.specs.Option.{is_some}
use Rattle.std.specs.Ordering.{nat_cmp, int_cmp, ordering_then}
use Rattle.std.specs.Cmp.{IsTotalOrder, then_total, on_total, IsStrictWeakOrder}
use Rattle.std.specs.Cmp.Lexicographic.{slice_cmp}
use Rattle.std.proofs.lemmas.Cmp.{nat_cmp_total, int_cmp_total, nat_list_cmp_total}
use Rattle.std.proofs.lemmas.List.Sorted.{ranks_by}
use Rattle.nl_value.specs.declared.order.OrderKind.{OrderKind}
use Rattle.nl_value.specs.declared.order.OrderKind.TheVariants.{Numbers, Texts, Turtles, Patches, Links, Unordered}
use Rattle.nl_value.specs.Plain.{Plain, PlainNumber, PlainWords, PlainTurtle, PlainPatch, PlainLink}
use Rattle.nl_value.specs.Living.{Living, link_key}
use Rattle.nl_value.specs.Order.{compared, order_kind, have_order, rank, count_of, key_of, value_order, comes_first}
use Rattle.nl_value.specs.Laws.{IsOrderOfAll}
use Rattle.nl_value.proofs.Ordered.{none_some, some_same, lives_both, is_ordered}

pub value_order_total : (w : Living) → IsTotalOrder (value_order w)
value_order_total w =
    then_total (on_total (λ p. rank (order_kind w p)) nat_cmp_total)
    (then_total (on_total count_of int_cmp_total) (on_total (key_of w) nat_list_cmp_total))

-- what `sort` asks of an order
pub comes_first_order : (w : Living) → IsStrictWeakOrder (comes_first w)
comes_first_order w = ranks_by (value_order_total w) (λ p. p)

then_equal : (r : Ordering) → ordering_then r Equal ≡ r
then_equal Less = refl
then_equal Equal = refl
then_equal Greater = refl

then_first : (r s : Ordering) → ordering_then r s ≡ Equal → r ≡ Equal
then_first Less s h = h
then_first Equal s h = refl
then_first Greater s h = h

pub value_order-agrees : (w : Living) (a b : Plain) (r : Ordering) → compared w a b ≡ Some r → value_order w a b ≡ r
value_order-agrees w (PlainNumber m) (PlainNumber n) r h = then_equal (int_cmp m n) ∙ some_same (int_cmp m n) r h
value_order-agrees w (PlainWords m) (PlainWords n) r h = some_same (slice_cmp nat_cmp m n) r h
value_order-agrees w (PlainTurtle m) (PlainTurtle n) r h =
    let both = lives_both (w.turtle_lives m) (w.turtle_lives n) (nat_cmp m n) r h in
    rw (both.0, both.1) (then_equal (nat_cmp m n) ∙ both.2)
value_order-agrees w (PlainPatch m) (PlainPatch n) r h = then_equal (nat_cmp m n) ∙ some_same (nat_cmp m n) r h
value_order-agrees w (PlainLink m) (PlainLink n) r h =
    let both = lives_both (w.link_lives m) (w.link_lives n) (slice_cmp nat_cmp (link_key w m) (link_key w n)) r h in
    rw (both.0, both.1) both.2
value_order-agrees w a b r h = absurd (none_some r h)

kinds_tie : (j k : OrderKind) → nat_cmp (rank j) (rank k) ≡ Equal → (have_order j k ≡ true) ⊎ ((j ≡ Unordered) × (k ≡ Unordered))
kinds_tie Numbers Numbers h = inl refl
kinds_tie Texts Texts h = inl refl
kinds_tie Turtles Turtles h = inl refl
kinds_tie Patches Patches h = inl refl
kinds_tie Links Links h = inl refl
kinds_tie Unordered Unordered h = inr (refl, refl)
kinds_tie j k h = cc

alone : (l : Bool) (k : OrderKind) → k ≡ Unordered → (if l then k else Unordered) ≡ Unordered
alone true k h = h
alone false k h = refl

no_key : (w : Living) (p : Plain) → order_kind w p ≡ Unordered → (count_of p ≡ pos 0) × (key_of w p ≡ [])
no_key w (PlainNumber m) h = cc
no_key w (PlainWords m) h = cc
no_key w (PlainPatch m) h = cc
no_key w (PlainTurtle m) h = (refl, dead (w.turtle_lives m) h)
  where
    dead : (l : Bool) → (if l then Turtles else Unordered) ≡ Unordered → (if l then m ∷ [] else []) ≡ []
    dead true e = cc
    dead false e = refl
no_key w (PlainLink m) h = (refl, dead (w.link_lives m) h)
  where
    dead : (l : Bool) → (if l then Links else Unordered) ≡ Unordered → (if l then link_key w m else []) ≡ []
    dead true e = cc
    dead false e = refl
no_key w p h = (refl, refl)

pub value_order-unordered : (w : Living) (a b : Plain) → order_kind w a ≡ Unordered → order_kind w b ≡ Unordered → value_order w a b ≡ Equal
value_order-unordered w a b j k =
    let p = no_key w a j in
    let q = no_key w b k in
    ap (λ (x : OrderKind). ordering_then (nat_cmp (rank x) (rank (order_kind w b))) (ordering_then (int_cmp (count_of a) (count_of b)) (slice_cmp nat_cmp (key_of w a) (key_of w b)))) j
    ∙ ap (λ (x : OrderKind). ordering_then (nat_cmp 5 (rank x)) (ordering_then (int_cmp (count_of a) (count_of b)) (slice_cmp nat_cmp (key_of w a) (key_of w b)))) k
    ∙ ap (λ x. ordering_then (int_cmp x (count_of b)) (slice_cmp nat_cmp (key_of w a) (key_of w b))) p.0
    ∙ ap (λ x. ordering_then (int_cmp (pos 0) x) (slice_cmp nat_cmp (key_of w a) (key_of w b))) q.0
    ∙ ap (λ (x : List ℕ). slice_cmp nat_cmp x (key_of w b)) p.1
    ∙ ap (λ (x : List ℕ). slice_cmp nat_cmp [] x) q.1

some_of : (w : Living) (a b : Plain) (o : Option Ordering) → compared w a b ≡ o → is_some o ≡ true → value_order w a b ≡ Equal → compared w a b ≡ Some Equal
some_of w a b None e s h = absurd (false≢true s)
some_of w a b (Some r) e s h = e ∙ ap (λ (x : Ordering). Some x) (sym (value_order-agrees w a b r e) ∙ h)

tied : (w : Living) (a b : Plain) → value_order w a b ≡ Equal → (compared w a b ≡ Some Equal) ⊎ ((order_kind w a ≡ Unordered) × (order_kind w b ≡ Unordered))
tied w a b h =
    elim (kinds_tie (order_kind w a) (order_kind w b) (then_first (nat_cmp (rank (order_kind w a)) (rank (order_kind w b))) (ordering_then (int_cmp (count_of a) (count_of b)) (slice_cmp nat_cmp (key_of w a) (key_of w b))) h)) [
      | inl e ↦ inl (some_of w a b (compared w a b) refl ((is_ordered w).some a b ∙ e) h)
      | inr e ↦ inr e
    ]

by_rank : (w : Living) (a b : Plain) (r : Ordering) → nat_cmp (rank (order_kind w a)) (rank (order_kind w b)) ≡ r → compared w a b ≡ None → value_order w a b ≡ r
by_rank w a b Less e h = ap (λ (q : Ordering). ordering_then q (ordering_then (int_cmp (count_of a) (count_of b)) (slice_cmp nat_cmp (key_of w a) (key_of w b)))) e
by_rank w a b Greater e h = ap (λ (q : Ordering). ordering_then q (ordering_then (int_cmp (count_of a) (count_of b)) (slice_cmp nat_cmp (key_of w a) (key_of w b)))) e
by_rank w a b Equal e h =
    elim (kinds_tie (order_kind w a) (order_kind w b) e) [
      | inl s ↦ absurd (false≢true (sym (ap is_some h) ∙ (is_ordered w).some a b ∙ s))
      | inr u ↦ value_order-unordered w a b u.0 u.1
    ]

-- values that have no order compare by their kinds
pub value_order-none : (w : Living) (a b : Plain) → compared w a b ≡ None → value_order w a b ≡ nat_cmp (rank (order_kind w a)) (rank (order_kind w b))
value_order-none w a b h = by_rank w a b (nat_cmp (rank (order_kind w a)) (rank (order_kind w b))) refl h

pub is_order_of_all : (w : Living) → IsOrderOfAll w
is_order_of_all w = record {
  total = value_order_total w;
  agrees = value_order-agrees w;
  tied = tied w;
  unordered = value_order-unordered w;
}
