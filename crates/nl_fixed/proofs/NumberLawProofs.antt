-- The laws of the arithmetic.
use Rattle.std.proofs.Common.{ℕ, zero, suc, ◌+◌, ◌*◌, ◌/◌, ◌<◌, ◌≤◌, ◌≡◌, ◌≢◌, Bool, true, false, inl, inr, ℤ, pos, negsuc, ◌+ℤ◌, ◌-ℤ◌, ◌*ℤ◌, neg_ℤ, ◌≤ℤ◌, ◌<ℤ◌, unsigned_abs, int_rem, Result, Ok, Err, IsOk, IsErr, ◌↔◌, cond, ◌∙◌, sym, ap, refl, arith, add-one}
use Rattle.std.proofs.lemmas.Int.{ints, quot-rem, rem_below}
use Rattle.std.proofs.lemmas.Bool.{cases_lt}
use Rattle.std.proofs.Math.Nat.{mul-div_cancel, mul-le-mul}
use Rattle.nl_fixed.specs.declared.number.NumFault.{NumFault}
use Rattle.nl_fixed.specs.declared.number.NumFault.TheVariants.{Overflow}
use Rattle.nl_fixed.specs.Numbers.{IsInRange, IsWhole, one, limit, exponent_limit, in_range, as_number, and_next, floor_quotient, rounded_quotient, floor_of_ratio, cut_quotient, product_of, quotient_of, modulo_of, remainder_of, repeated_product, whole_power, power_of, whole_root, root_of, nearest_multiple, round_of, floor_of, ceiling_of, int_of}
use Rattle.nl_fixed.specs.NumberLaws.{RoundedIsNearest, OnlyRoundedIsNearest, ModuloDivides, ModuloHasAnswer, RemainderDivides, RemainderHasAnswer, WholeRootIsGreatest, RootIsGreatest, RootHasAnswer, PowerOfZero, PowerOfNext, PowerOfNegative, RoundingsAreAround}
use Rattle.nl_fixed.proofs.Integers.{floor_low, floor_high, rounded_low, rounded_high, rounded_only}
use Rattle.nl_fixed.proofs.PlacesLemmas.{as_number_inside}
use Rattle.nl_fixed.proofs.PowerLemmas.{power_by_negative, power_by_other}
use Rattle.nl_fixed.proofs.RootLemmas.{root_square, root_greatest, root_of_other}
use Rattle.nl_fixed.proofs.Signs.{modulo_by_other, remainder_by_other}

-- ---- the rounding
pub rounded_is_nearest : RoundedIsNearest
rounded_is_nearest p q some = record { low = rounded_low p q some; high = rounded_high p q some }

pub only_rounded_is_nearest : OnlyRoundedIsNearest
only_rounded_is_nearest p q r some nearest = rounded_only p q r some nearest.low nearest.high

-- ---- as a number: only the count itself
as_number_value : (x count : ℤ) → as_number x ≡ Ok count → x ≡ count
unfolding as_number
as_number_value x count e = by (in_range x) e
  where
    by : (t : Bool) → cond {A = Result ℤ NumFault} t (Ok x) (Err Overflow) ≡ Ok count → x ≡ count
    by true is = cc
    by false is = cc

as_number_ok : (x : ℤ) → unsigned_abs x ≤ limit → IsOk (as_number x)
as_number_ok x near =
    let inside : IsInRange x = record { low = omega (arith, ints); high = omega (arith, ints) } in
    rw (as_number_inside x inside) refl

-- ---- the rest after a floor of the ratio
record FloorRest (a b : ℤ) : Type 0 where
  small : unsigned_abs (a -ℤ (b *ℤ floor_of_ratio a b)) < unsigned_abs b
  above : pos 0 ≤ℤ b → pos 0 ≤ℤ (a -ℤ (b *ℤ floor_of_ratio a b))
  below : b ≤ℤ pos 0 → (a -ℤ (b *ℤ floor_of_ratio a b)) ≤ℤ pos 0

floor_rest : (a b : ℤ) → b ≢ pos 0 → FloorRest a b
unfolding floor_of_ratio
floor_rest a (pos zero) some = absurd (some refl)
floor_rest a (pos (suc q)) some =
    let low = floor_low a (suc q) (omega arith) in
    let high = floor_high a (suc q) (omega arith) in
    record { small = omega (arith, ints); above = λ h. omega (arith, ints); below = λ h. absurd (omega (arith, ints)) }
floor_rest a (negsuc q) some =
    let low = floor_low (neg_ℤ a) (suc q) (omega arith) in
    let high = floor_high (neg_ℤ a) (suc q) (omega arith) in
    record { small = omega (arith, ints); above = λ h. absurd (omega (arith, ints)); below = λ h. omega (arith, ints) }

-- a divisor that gave a rest isn't 0
modulo_not_by_zero : (a b rest : ℤ) → modulo_of a b ≡ Ok rest → b ≢ pos 0
unfolding modulo_of
modulo_not_by_zero a (pos zero) rest e z = cc
modulo_not_by_zero a (pos (suc q)) rest e z = omega (arith, ints)
modulo_not_by_zero a (negsuc q) rest e z = omega (arith, ints)

pub modulo_divides : ModuloDivides
modulo_divides a b rest e =
    let some = modulo_not_by_zero a b rest e in
    let is = as_number_value _ _ (modulo_by_other a b some ∙ e) in
    let facts = floor_rest a b some in
    (record { times = floor_of_ratio a b; sum = omega (arith, ints); small = rw (← is) facts.small }, record { above = λ h. rw (← is) (facts.above h); below = λ h. rw (← is) (facts.below h) })

pub modulo_has_answer : ModuloHasAnswer
modulo_has_answer a b inside some =
    let facts = floor_rest a b some in
    rw (← modulo_by_other a b some) (as_number_ok _ (omega (arith, ints, facts.small)))

-- ---- the rest after a cut
remainder_not_by_zero : (a b rest : ℤ) → remainder_of a b ≡ Ok rest → b ≢ pos 0
unfolding remainder_of
remainder_not_by_zero a (pos zero) rest e z = cc
remainder_not_by_zero a (pos (suc q)) rest e z = omega (arith, ints)
remainder_not_by_zero a (negsuc q) rest e z = omega (arith, ints)

cut_rest_above : (a b : ℤ) → pos 0 ≤ℤ a → pos 0 ≤ℤ int_rem a b
cut_rest_above (pos a) b h = omega (arith, ints)
cut_rest_above (negsuc a) b h = absurd (omega (arith, ints))

cut_rest_below : (a b : ℤ) → a ≤ℤ pos 0 → int_rem a b ≤ℤ pos 0
cut_rest_below (pos a) b h = let none : a ≡ 0 = omega (arith, ints) in rw none (omega (arith, ints))
cut_rest_below (negsuc a) b h = omega (arith, ints)

pub remainder_divides : RemainderDivides
remainder_divides a b rest e =
    let some = remainder_not_by_zero a b rest e in
    let is = as_number_value _ _ (remainder_by_other a b some ∙ e) in
    let not_zero : 0 < unsigned_abs b = omega (arith, ints) in
    (record { times = cut_quotient a b; sum = omega (arith, ints, quot-rem a b); small = rw (← is) (rem_below a b not_zero) }, record { above = λ h. rw (← is) (cut_rest_above a b h); below = λ h. rw (← is) (cut_rest_below a b h) })

pub remainder_has_answer : RemainderHasAnswer
remainder_has_answer a b inside some =
    let not_zero : 0 < unsigned_abs b = omega (arith, ints) in
    rw (← remainder_by_other a b some) (as_number_ok _ (omega (arith, ints, rem_below a b not_zero)))

-- ---- roots
pub whole_root_is_greatest : WholeRootIsGreatest
unfolding whole_root
whole_root_is_greatest n = (root_square n n, λ other square. root_greatest n n other (below_square other n square) square)
  where
    below_square : (r m : ℕ) → r * r ≤ m → r ≤ m
    below_square zero m h = omega arith
    below_square (suc r) m h = let least : 1 ≤ suc r = omega arith in let same : suc r ≤ suc r = omega arith in omega (arith, mul-le-mul same least, h)

pub root_is_greatest : RootIsGreatest
unfolding root_of
root_is_greatest (negsuc count) root e = cc
root_is_greatest (pos count) root e =
    let is = as_number_value _ _ e in
    let facts = whole_root_is_greatest (count * one) in
    record {
      least = rw (← is) (omega (arith, ints));
      square = rw (← is) (omega (arith, ints, facts.0));
      greatest = λ other not_below square. rw (← is) (go count other not_below square);
    }
  where
    go : (n : ℕ) (other : ℤ) → pos 0 ≤ℤ other → (other *ℤ other) ≤ℤ (pos n *ℤ pos one) → other ≤ℤ pos (whole_root (n * one))
    go n (pos other) not_below square =
        let within : other * other ≤ n * one = omega (arith, ints) in
        omega (arith, ints, (whole_root_is_greatest (n * one)).1 other within)
    go n (negsuc other) not_below square = omega (arith, ints)

pub root_has_answer : RootHasAnswer
root_has_answer count inside not_below =
    let square = (whole_root_is_greatest (unsigned_abs count * one)).0 in
    let near : unsigned_abs count ≤ limit = omega (arith, ints) in
    rw (← root_of_other count not_below) (as_number_ok _ (small (whole_root (unsigned_abs count * one)) (omega arith)))
  where
    small : (r : ℕ) → r * r ≤ limit * limit → r ≤ limit
    small r h = elim (cases_lt limit r) [ inl above ↦ (let wide = mul-le-mul above above in absurd (omega (arith, wide))) | inr least ↦ least ]

-- ---- powers
pub power_of_zero : PowerOfZero
unfolding power_of whole_power repeated_product
power_of_zero a = refl

positive_power : (a : ℤ) (n : ℕ) → n ≤ exponent_limit → power_of a (pos (n * one)) ≡ repeated_product a n
positive_power a n least =
    sym (power_by_other a (pos (n * one)) (omega arith) (omega arith) (omega (arith, ints)))
    ∙ ap (repeated_product a) (mul-div_cancel n (omega arith))

next_product : (a : ℤ) (n : ℕ) → repeated_product a (n + 1) ≡ and_next (repeated_product a n) (λ power. product_of power a)
unfolding repeated_product
next_product a n = rw add-one refl

pub power_of_next : PowerOfNext
power_of_next a n below =
    positive_power a (n + 1) (omega arith)
    ∙ next_product a n
    ∙ ap (λ r. and_next r (λ power. product_of power a)) (sym (positive_power a n (omega arith)))

pub power_of_negative : PowerOfNegative
power_of_negative a n some least =
    let e = neg_ℤ (pos (n * one)) in
    let size : unsigned_abs e ≡ n * one = omega (arith, ints) in
    let times : unsigned_abs e / one ≡ n = omega arith in
    sym (power_by_negative a e (omega arith) (omega arith) (omega (arith, ints)))
    ∙ ap (λ k. and_next (repeated_product a k) (λ power. quotient_of (pos one) power)) times
    ∙ ap (λ r. and_next r (λ power. quotient_of (pos one) power)) (sym (positive_power a n least))

-- ---- whole numbers
floor_is_whole : (count : ℤ) → IsWhole (floor_of count)
unfolding floor_of
floor_is_whole count = record { number = floor_quotient count one; is = refl }

ceiling_is_whole : (count : ℤ) → IsWhole (ceiling_of count)
unfolding ceiling_of
ceiling_is_whole count =
    let under = floor_is_whole (neg_ℤ count) in
    record { number = neg_ℤ under.number; is = omega (arith, ints, under.is) }

int_is_whole : (count : ℤ) → IsWhole (int_of count)
unfolding int_of
int_is_whole count = record { number = cut_quotient count (pos one); is = refl }

round_is_whole : (count : ℤ) → IsWhole (round_of count)
unfolding nearest_multiple
round_is_whole count = record { number = rounded_quotient count one; is = refl }

floor_around : (count : ℤ) → (floor_of count ≤ℤ count) × (count <ℤ (floor_of count +ℤ pos one))
unfolding floor_of
floor_around count =
    let low = floor_low count one (omega arith) in
    let high = floor_high count one (omega arith) in
    (omega (arith, ints), omega (arith, ints))

ceiling_around : (count : ℤ) → (count ≤ℤ ceiling_of count) × (ceiling_of count <ℤ (count +ℤ pos one))
unfolding ceiling_of
ceiling_around count =
    let under = floor_around (neg_ℤ count) in
    (omega (arith, ints, under.0, under.1), omega (arith, ints, under.0, under.1))

int_from_above : (count : ℤ) → pos 0 ≤ℤ count → int_of count ≡ floor_of count
unfolding int_of floor_of
int_from_above (pos count) h = refl
int_from_above (negsuc count) h = absurd (omega (arith, ints))

int_from_below : (count : ℤ) → count ≤ℤ pos 0 → int_of count ≡ ceiling_of count
unfolding int_of ceiling_of floor_of
int_from_below (pos zero) h = refl
int_from_below (pos (suc count)) h = absurd (omega (arith, ints))
int_from_below (negsuc count) h = omega (arith, ints)

round_around : (count : ℤ) → (((pos 2 *ℤ count) -ℤ pos one) <ℤ (pos 2 *ℤ round_of count)) × ((pos 2 *ℤ round_of count) ≤ℤ ((pos 2 *ℤ count) +ℤ pos one))
unfolding nearest_multiple
round_around count =
    let low = rounded_low count one (omega arith) in
    let high = rounded_high count one (omega arith) in
    (omega (arith, ints), omega (arith, ints))

pub roundings_are_around : RoundingsAreAround
roundings_are_around count = record {
  floor_whole = floor_is_whole count;
  floor_low = (floor_around count).0;
  floor_high = (floor_around count).1;
  ceiling_whole = ceiling_is_whole count;
  ceiling_high = (ceiling_around count).0;
  ceiling_low = (ceiling_around count).1;
  int_whole = int_is_whole count;
  int_above = int_from_above count;
  int_below = int_from_below count;
  round_whole = round_is_whole count;
  round_low = (round_around count).0;
  round_high = (round_around count).1;
}

-- ---- an outcome that is an answer is no fault
pub no_fault : (r : Result ℤ NumFault) (P : Type 0) → IsOk r → ¬ P → IsErr r ↔ P
no_fault (Ok count) P is never = (λ e. cc, λ p. absurd (never p))
no_fault (Err fault) P is never = cc
