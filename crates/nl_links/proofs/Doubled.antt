-- Hints at the last bits of serials, and twice as many of them.
use Rattle.std.proofs.Common.{◌≡◌, ℕ, zero, suc, ◌+◌, ◌-◌, ◌*◌, ◌/◌, ◌%◌, ◌<◌, List, ◌++◌, length, slice_index_or, bit_and, arith, lit<, sym, ap, ◌∙◌, inl, inr}
use Rattle.std.specs.List.{slice_range}
use Rattle.std.proofs.Math.Nat.{mod-lt, two-pow-succ}
use Rattle.std.proofs.Math.Arith.{mod-mul}
use Rattle.std.proofs.lemmas.Nat.{and_mask}
use Rattle.std.proofs.lemmas.List.{get_or_append_left, get_or-append-add, length-append, take_all}
use Rattle.nl_links.specs.Hints.{AreHints, SameHints}

-- the last bits of a serial are its place among hints
pub place_of : (serial many : ℕ) (hints : List ℕ) → many ≡ length hints → many < 18446744073709551616 → AreHints hints → 0 < length hints →
    bit_and serial ((many + 18446744073709551615) % 18446744073709551616) ≡ serial % length hints
place_of serial many hints is small (inl none) some = absurd (omega (arith, none, some))
place_of serial many hints is small (inr (bits, power)) some =
    let mask : (many + 18446744073709551615) % 18446744073709551616 ≡ many - 1 = omega (arith, is, some, small) in
    ap (bit_and serial) (mask ∙ ap (λ m. m - 1) (is ∙ power)) ∙ and_mask serial bits ∙ ap (λ m. serial % m) (sym power)

-- hints behind which all of them stand again
pub stand_again : (new hints : List ℕ) (many : ℕ) → length hints ≡ many → new ≡ hints ++ slice_range hints 0 many → new ≡ hints ++ hints
stand_again new hints many all is = is ∙ ap (λ more. hints ++ more) (take_all (many - 0) hints (omega (arith, all)))

pub hints_twice : (hints : List ℕ) → AreHints hints → AreHints (hints ++ hints)
hints_twice hints (inl none) = inl (length-append hints hints ∙ omega (arith, none))
hints_twice hints (inr (bits, power)) = inr (suc bits, length-append hints hints ∙ ap (λ n. n + n) power ∙ sym (two-pow-succ bits))

half : (hints : List ℕ) (half place : ℕ) → half < 2 → place < length hints →
    slice_index_or (hints ++ hints) (half * length hints + place) 0 ≡ slice_index_or hints place 0
half hints zero place low within =
    ap (λ at. slice_index_or (hints ++ hints) at 0) (omega arith) ∙ get_or_append_left hints hints 0 place within
half hints (suc zero) place low within =
    ap (λ at. slice_index_or (hints ++ hints) at 0) (omega arith) ∙ get_or-append-add hints hints place 0
half hints (suc (suc more)) place low within = absurd (omega (arith, low))

-- each serial has its place where it was or so many further on
pub same_twice : (hints : List ℕ) → 0 < length hints → SameHints (hints ++ hints) hints
same_twice hints some serial =
    let twice : length (hints ++ hints) ≡ 2 * length hints = length-append hints hints ∙ omega arith in
    let place : serial % length (hints ++ hints) ≡ (serial / length hints % 2) * length hints + serial % length hints =
    ap (λ many. serial % many) twice ∙ mod-mul serial (omega arith) some in
    ap (λ at. slice_index_or (hints ++ hints) at 0) place ∙ half hints (serial / length hints % 2) (serial % length hints)
    (mod-lt (serial / length hints) (lit< tt)) (mod-lt serial some)
