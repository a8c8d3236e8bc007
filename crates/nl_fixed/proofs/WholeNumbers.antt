-- Whole numbers: the test and the fact.
use Rattle.std.proofs.Common.{◌≡◌, ◌%◌, Bool, true, false, ℤ, pos, ◌*ℤ◌, neg_ℤ, unsigned_abs, ◌<◌, FitsSigned, Result, Err, subst, IsTrue, ◌↔◌, sym, refl, arith}
use Rattle.std.proofs.lemmas.Int.{ints, by_lt_z}
use Rattle.std.proofs.lemmas.Bool.Decides.{nat_tests}
use Rattle.std.specs.Int.{w64}
use Rattle.nl_fixed.specs.declared.number.NumFault.{NumFault}
use Rattle.nl_fixed.specs.declared.number.NumFault.TheVariants.{Overflow}
use Rattle.nl_fixed.specs.Numbers.{IsWhole, OverflowsExactly, one, limit, is_whole, whole_part, number_of_integer}
use Rattle.nl_fixed.proofs.PlacesLemmas.{as_number_outside, overflows_exactly}

-- a count without a rest is one of its whole part
rest_of_whole : (count n : ℤ) → count ≡ n *ℤ pos one → unsigned_abs count % one ≡ 0
rest_of_whole count n is = omega (arith, ints)

whole_of_rest : (count : ℤ) → unsigned_abs count % one ≡ 0 → count ≡ whole_part count *ℤ pos one
whole_of_rest count rest = omega (arith, ints)

by_rest : (count : ℤ) (test : Bool) → is_whole count ≡ test → IsTrue test ↔ IsWhole count
by_rest count true is =
    let rest : unsigned_abs count % one ≡ 0 = grind (arith, nat_tests) in
    (λ _. record { number = whole_part count; is = whole_of_rest count rest }, λ _. refl)
by_rest count false is = (
  λ never. absurd (cc),
  λ whole.
      let rest : unsigned_abs count % one ≡ 0 = rest_of_whole count whole.number whole.is in
      absurd (grind (arith, nat_tests)),
)

-- a whole number that is too wide is that of no number
pub wide_overflows : (n : ℤ) → (FitsSigned w64 n → ⊥) → Err Overflow ≡ number_of_integer n
wide_overflows n wide =
    by_lt_z (pos limit) (n *ℤ pos one) (λ above. let far : limit < unsigned_abs (n *ℤ pos one) = omega (arith, ints) in sym (as_number_outside (n *ℤ pos one) far))
    (λ high. by_lt_z (n *ℤ pos one) (neg_ℤ (pos limit)) (λ below. let far : limit < unsigned_abs (n *ℤ pos one) = omega (arith, ints) in sym (as_number_outside (n *ℤ pos one) far))
    (λ low. absurd (wide (omega (arith, ints)))))

pub wide_overflows_exactly : (n : ℤ) → (FitsSigned w64 n → ⊥) → OverflowsExactly (Err Overflow) (n *ℤ pos one)
wide_overflows_exactly n wide =
    subst (λ (r : Result ℤ NumFault). OverflowsExactly r (n *ℤ pos one)) (sym (wide_overflows n wide)) (overflows_exactly (n *ℤ pos one))

-- the code's test
pub whole_by_test : (count : ℤ) (test : Bool) → test ≡ is_whole count → IsTrue test ↔ IsWhole count
whole_by_test count test is = rw is (by_rest count (is_whole count) refl)
