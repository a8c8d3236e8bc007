use Rattle.std.proofs.Common.{◌≡◌, to_z, of_z, arith}
use Rattle.std.specs.Int.{w64}
use Rattle.std.proofs.lemmas.Int.{ints, to_z-of_z}
use Rattle.nl_fixed.proofs.RoundingLemmas.{floor_is, floor_in_range}
use Rattle.nl_fixed.proofs.number.Num.floor.Goals as goal

pub returns : goal.returns
returns c =
    let count : to_z w64 (of_z w64 c.self.inside.count) ≡ c.args.self = omega (arith, ints) in
    let shown : to_z w64 (of_z w64 c.div_euclid.result) ≡ c.div_euclid.result = to_z-of_z w64 _ (record { sfits = c.div_euclid.type_inv }) in
    let is = floor_is _ _ _ c.div_euclid.ensures count in
    let in_range = floor_in_range c.args.self (omega (arith, ints)) in
    rw (shown, is) (omega (arith, ints, in_range.low, in_range.high))
