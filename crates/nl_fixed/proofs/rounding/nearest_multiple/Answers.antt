use Rattle.std.proofs.Common.{◌≡◌, to_z, of_z, arith}
use Rattle.std.specs.Int.{w128}
use Rattle.std.proofs.lemmas.Int.{ints, to_z-of_z}
use Rattle.nl_fixed.proofs.RoundingLemmas.{nearest_product, nearest_fits}
use Rattle.nl_fixed.proofs.rounding.nearest_multiple.Goals as goal

pub overflow_mul-result : goal.overflow_mul-result
overflow_mul-result c =
    let count : to_z w128 (of_z w128 c.from.result) ≡ c.args.count = omega (arith, ints) in
    let product = nearest_product _ _ _ _ _ c.rounded_quotient.ensures c.from-2.ensures count (record { sfits = c.rounded_quotient.type_inv }) c.requires.above_zero c.requires.narrow c.requires.in_range in
    rw product (nearest_fits c.args.count c.args.step c.requires.above_zero c.requires.narrow c.requires.in_range)

pub returns : goal.returns
returns c =
    let count : to_z w128 (of_z w128 c.from.result) ≡ c.args.count = omega (arith, ints) in
    let product = nearest_product _ _ _ _ _ c.rounded_quotient.ensures c.from-2.ensures count (record { sfits = c.rounded_quotient.type_inv }) c.requires.above_zero c.requires.narrow c.requires.in_range in
    rw product (to_z-of_z w128 _ (nearest_fits c.args.count c.args.step c.requires.above_zero c.requires.narrow c.requires.in_range))
