-- The order of values is total, and agrees with equality.
use Rattle.std.specs.Prelude.{◌≡◌, ℕ, Bool, true, false, ◌&&◌, ◌==◌, if◌then◌else◌, List, Some, None, refl}
use Rattle.std.proofs.Common.{ap, ◌∙◌, sym, get_or, arith}
use Rattle.std.specs.declared.cmp.Ordering.{Ordering}
use Rattle.std.specs.declared.cmp.Ordering.TheVariants.{Less}
use Rattle.std.specs.Option.{option_map, is_some}
use Rattle.std.specs.Ordering.{nat_cmp, int_cmp, is_eq, ordering_reverse}
use Rattle.std.specs.Cmp.Lexicographic.{slice_cmp}
use Rattle.std.specs.Str.{bytes_eq}
use Rattle.std.proofs.lemmas.Cmp.{nat_cmp_total, int_cmp_total, nat_list_cmp_total}
use Rattle.std.proofs.lemmas.Map.Text.{is_eq-slice_cmp}
use Rattle.std.proofs.lemmas.Slice.Eq.{bytes_eq-Decides}
use Rattle.std.proofs.lemmas.Bool.Decides.{nat_tests, Decides-eqb}
use Rattle.nl_value.specs.declared.order.OrderKind.{OrderKind}
use Rattle.nl_value.specs.declared.order.OrderKind.TheVariants.{Turtles, Links, Unordered}
use Rattle.nl_value.specs.Plain.{Plain, PlainNumber, PlainTruth, PlainWords, PlainItems, PlainTurtle, PlainPatch, PlainLink, PlainNobody, PlainSet}
use Rattle.nl_value.specs.Living.{Living, link_key}
use Rattle.nl_value.specs.Equality.{same_values}
use Rattle.nl_value.specs.Order.{compared, order_kind, have_order}
use Rattle.nl_value.specs.Laws.{IsOrdered}

pub none_some : (r : Ordering) → None ≡ Some r → ⊥
none_some r h = cc

pub some_same : (q r : Ordering) → Some q ≡ Some r → q ≡ r
some_same q r h = cc

turned_living : (a b : Bool) (q r : Ordering) → q ≡ ordering_reverse r → (if a && b then Some q else None) ≡ option_map ordering_reverse (if b && a then Some r else None)
turned_living true true q r e = ap (λ x. Some x) e
turned_living true false q r e = refl
turned_living false true q r e = refl
turned_living false false q r e = refl

turned : (w : Living) (a b : Plain) → compared w a b ≡ option_map ordering_reverse (compared w b a)
turned w (PlainNumber m) (PlainNumber n) = ap (λ x. Some x) (int_cmp_total.antisymm m n)
turned w (PlainWords m) (PlainWords n) = ap (λ x. Some x) (nat_list_cmp_total.antisymm m n)
turned w (PlainTurtle m) (PlainTurtle n) = turned_living (w.turtle_lives m) (w.turtle_lives n) (nat_cmp m n) (nat_cmp n m) (nat_cmp_total.antisymm m n)
turned w (PlainPatch m) (PlainPatch n) = ap (λ x. Some x) (nat_cmp_total.antisymm m n)
turned w (PlainLink m) (PlainLink n) = turned_living (w.link_lives m) (w.link_lives n) (slice_cmp nat_cmp (link_key w m) (link_key w n)) (slice_cmp nat_cmp (link_key w n) (link_key w m)) (nat_list_cmp_total.antisymm (link_key w m) (link_key w n))
turned w (PlainTruth m) (PlainTruth n) = refl
turned w (PlainItems m) (PlainItems n) = refl
turned w PlainNobody PlainNobody = refl
turned w (PlainSet m) (PlainSet n) = refl
turned w a b = refl

chain_living : (a b c : Bool) (q r s : Ordering) → (q ≡ Less → r ≡ Less → s ≡ Less) → (if a && b then Some q else None) ≡ Some Less → (if b && c then Some r else None) ≡ Some Less → (if a && c then Some s else None) ≡ Some Less
chain_living true true true q r s f h k = ap (λ x. Some x) (f (some_same q Less h) (some_same r Less k))
chain_living true true false q r s f h k = absurd (none_some Less k)
chain_living true false c q r s f h k = absurd (none_some Less h)
chain_living false b c q r s f h k = absurd (none_some Less h)

transitive : (w : Living) (a b c : Plain) → compared w a b ≡ Some Less → compared w b c ≡ Some Less → compared w a c ≡ Some Less
transitive w (PlainNumber m) (PlainNumber n) (PlainNumber o) h k = ap (λ x. Some x) (int_cmp_total.trans m n o (some_same (int_cmp m n) Less h) (some_same (int_cmp n o) Less k))
transitive w (PlainNumber m) (PlainNumber n) c h k = absurd (none_some Less k)
transitive w (PlainWords m) (PlainWords n) (PlainWords o) h k = ap (λ x. Some x) (nat_list_cmp_total.trans m n o (some_same (slice_cmp nat_cmp m n) Less h) (some_same (slice_cmp nat_cmp n o) Less k))
transitive w (PlainWords m) (PlainWords n) c h k = absurd (none_some Less k)
transitive w (PlainTurtle m) (PlainTurtle n) (PlainTurtle o) h k =
    chain_living (w.turtle_lives m) (w.turtle_lives n) (w.turtle_lives o) (nat_cmp m n) (nat_cmp n o) (nat_cmp m o) (nat_cmp_total.trans m n o) h k
transitive w (PlainTurtle m) (PlainTurtle n) c h k = absurd (none_some Less k)
transitive w (PlainPatch m) (PlainPatch n) (PlainPatch o) h k = ap (λ x. Some x) (nat_cmp_total.trans m n o (some_same (nat_cmp m n) Less h) (some_same (nat_cmp n o) Less k))
transitive w (PlainPatch m) (PlainPatch n) c h k = absurd (none_some Less k)
transitive w (PlainLink m) (PlainLink n) (PlainLink o) h k =
    chain_living (w.link_lives m) (w.link_lives n) (w.link_lives o) (slice_cmp nat_cmp (link_key w m) (link_key w n)) (slice_cmp nat_cmp (link_key w n) (link_key w o)) (slice_cmp nat_cmp (link_key w m) (link_key w o))
    (nat_list_cmp_total.trans (link_key w m) (link_key w n) (link_key w o)) h k
transitive w (PlainLink m) (PlainLink n) c h k = absurd (none_some Less k)
transitive w a b c h k = absurd (none_some Less h)

eq-nat_cmp : (m n : ℕ) → (m == n) ≡ is_eq (nat_cmp m n)
eq-nat_cmp m n = grind (arith, nat_tests)

both_ways : (a b : Bool) → (a ≡ true → b ≡ true) → (b ≡ true → a ≡ true) → a ≡ b
both_ways true b f g = sym (f refl)
both_ways false true f g = g refl
both_ways false false f g = refl

-- links are alike by their keys exactly where they are by their numbers
eq-link_key : (w : Living) (m n : ℕ) → (m == n) ≡ bytes_eq (link_key w m) (link_key w n)
eq-link_key w m n =
    both_ways (m == n) (bytes_eq (link_key w m) (link_key w n))
    (λ e. (bytes_eq-Decides (link_key w m) (link_key w n)).1 (ap (link_key w) ((Decides-eqb m n).0 e)))
    (λ e. (Decides-eqb m n).1 (ap (λ (xs : List ℕ). get_or xs 3 0) ((bytes_eq-Decides (link_key w m) (link_key w n)).0 e)))

-- what a choice of a comparison says
pub lives_both : (a b : Bool) (q r : Ordering) → (if a && b then Some q else None) ≡ Some r → (a ≡ true) × (b ≡ true) × (q ≡ r)
lives_both true true q r h = (refl, refl, some_same q r h)
lives_both true false q r h = absurd (none_some r h)
lives_both false b q r h = absurd (none_some r h)

agrees : (w : Living) (a b : Plain) (r : Ordering) → compared w a b ≡ Some r → same_values w a b ≡ is_eq r
agrees w (PlainNumber m) (PlainNumber n) r h = ap is_eq (some_same (int_cmp m n) r h)
agrees w (PlainWords m) (PlainWords n) r h = sym (is_eq-slice_cmp m n) ∙ ap is_eq (some_same (slice_cmp nat_cmp m n) r h)
agrees w (PlainTurtle m) (PlainTurtle n) r h =
    let both = lives_both (w.turtle_lives m) (w.turtle_lives n) (nat_cmp m n) r h in
    rw (both.0, both.1) (eq-nat_cmp m n ∙ ap is_eq both.2)
agrees w (PlainPatch m) (PlainPatch n) r h = eq-nat_cmp m n ∙ ap is_eq (some_same (nat_cmp m n) r h)
agrees w (PlainLink m) (PlainLink n) r h =
    let both = lives_both (w.link_lives m) (w.link_lives n) (slice_cmp nat_cmp (link_key w m) (link_key w n)) r h in
    rw (both.0, both.1) (eq-link_key w m n ∙ sym (is_eq-slice_cmp (link_key w m) (link_key w n)) ∙ ap is_eq both.2)
agrees w a b r h = absurd (none_some r h)

-- ---- who has an order

some_living : (a b : Bool) (q : Ordering) → is_some (if a && b then Some q else None) ≡ (a && b)
some_living true true q = refl
some_living true false q = refl
some_living false b q = refl

turtles_have : (a b : Bool) → (a && b) ≡ have_order (if a then Turtles else Unordered) (if b then Turtles else Unordered)
turtles_have true true = refl
turtles_have true false = refl
turtles_have false b = refl

links_have : (a b : Bool) → (a && b) ≡ have_order (if a then Links else Unordered) (if b then Links else Unordered)
links_have true true = refl
links_have true false = refl
links_have false b = refl

-- an agent that may have died, before and behind a value of another kind
apart_first : (a : Bool) (j k : OrderKind) → have_order j k ≡ false → false ≡ have_order (if a then j else Unordered) k
apart_first true j k h = sym h
apart_first false j k h = refl

apart_second : (b : Bool) (j k : OrderKind) → have_order j k ≡ false → have_order j Unordered ≡ false → false ≡ have_order j (if b then k else Unordered)
apart_second true j k h u = sym h
apart_second false j k h u = sym u

apart_both : (a b : Bool) (j k : OrderKind) → have_order j k ≡ false → have_order j Unordered ≡ false → false ≡ have_order (if a then j else Unordered) (if b then k else Unordered)
apart_both true b j k h u = apart_second b j k h u
apart_both false b j k h u = refl

some : (w : Living) (a b : Plain) → is_some (compared w a b) ≡ have_order (order_kind w a) (order_kind w b)
some w (PlainTurtle m) (PlainTurtle n) = some_living (w.turtle_lives m) (w.turtle_lives n) (nat_cmp m n) ∙ turtles_have (w.turtle_lives m) (w.turtle_lives n)
some w (PlainLink m) (PlainLink n) = some_living (w.link_lives m) (w.link_lives n) (slice_cmp nat_cmp (link_key w m) (link_key w n)) ∙ links_have (w.link_lives m) (w.link_lives n)
some w (PlainTurtle m) (PlainLink n) = apart_both (w.turtle_lives m) (w.link_lives n) Turtles Links refl refl
some w (PlainLink m) (PlainTurtle n) = apart_both (w.link_lives m) (w.turtle_lives n) Links Turtles refl refl
some w (PlainTurtle m) b = apart_first (w.turtle_lives m) Turtles (order_kind w b) refl
some w (PlainLink m) b = apart_first (w.link_lives m) Links (order_kind w b) refl
some w a (PlainTurtle n) = apart_second (w.turtle_lives n) (order_kind w a) Turtles refl refl
some w a (PlainLink n) = apart_second (w.link_lives n) (order_kind w a) Links refl refl
some w a b = refl

pub is_ordered : (w : Living) → IsOrdered w
is_ordered w = record { some = some w; turned = turned w; transitive = transitive w; agrees = agrees w }
