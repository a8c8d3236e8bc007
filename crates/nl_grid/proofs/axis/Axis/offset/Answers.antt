use Rattle.std.proofs.Common.{◌≡◌, pos, ◌-ℤ◌, to_z, of_z, arith}
use Rattle.std.specs.Int.{w64}
use Rattle.std.proofs.lemmas.Int.{ints}
use Rattle.nl_grid.specs.Geometry.{length_of}
use Rattle.nl_grid.proofs.WayLemmas.{offset_by_way, offset_plain}
use Rattle.nl_grid.proofs.axis.Axis.offset.Goals as goal

pub number-requires : goal.number-requires
number-requires c = omega (arith, ints, c.shortest.ensures.near)

pub returns-then-self : goal.returns-then-self
returns-then-self c =
    let plain = to_z w64 (of_z w64 (to_z w64 (of_z w64 c.millionths.result) -ℤ to_z w64 (of_z w64 c.millionths-2.result))) in
    let length = to_z w64 (of_z w64 c.length.result) in
    let plain_is : plain ≡ c.args.to -ℤ c.args.from = omega (arith, ints) in
    let length_is : length ≡ pos (length_of c.args.self) = omega (arith, ints) in
    offset_by_way c.args.self c.args.from c.args.to plain length c.shortest.result c.number.result c.if-self.true plain_is length_is c.shortest.ensures.way (omega (arith, ints, c.shortest.ensures.near))

pub returns-else-self : goal.returns-else-self
returns-else-self c = offset_plain c.args.self c.args.from c.args.to c.number-else-self.result c.if-self.false (omega (arith, ints))
