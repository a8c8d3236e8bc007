use Rattle.std.proofs.Common.{◌≤◌, pos, ap, subst, ◌∙◌}
use Rattle.nl_grid.specs.Geometry.{IsWithinLimits, x_offset, y_offset}
use Rattle.nl_grid.proofs.ShapeLemmas.{part_is, distance_small, distance_is, cast_is, cast_fits, cast_in_range}
use Rattle.nl_grid.proofs.shape.Shape.distance.Goals as goal

small : (c : goal.After-whole_root) → c.whole_root.result ≤ 2000000000
small c =
    let across = part_is (x_offset c.args.self.now c.args.from c.args.to) c.millionths.result c.unsigned_abs.result c.from-x.result c.millionths.ensures.bound (c.millionths.ensures.value ∙ c.offset-x.ensures.x) c.unsigned_abs.ensures.value c.from-x.ensures in
    let up = part_is (y_offset c.args.self.now c.args.from c.args.to) c.millionths-2.result c.unsigned_abs-2.result c.from-y.result c.millionths-2.ensures.bound (c.millionths-2.ensures.value ∙ c.offset-x.ensures.y) c.unsigned_abs-2.ensures.value c.from-y.ensures in
    distance_small c.args.self.now c.args.from c.args.to c.from-x.result c.from-y.result c.whole_root.result (subst IsWithinLimits c.self.view_is c.self.invariant) c.requires.from c.requires.to across up c.whole_root.ensures.value

pub overflow_cast-whole_root : goal.overflow_cast-whole_root
overflow_cast-whole_root c = cast_fits c.whole_root.result (small c)

pub number-requires : goal.number-requires
number-requires c = cast_in_range c.whole_root.result (small c)

pub returns : goal.returns
returns c =
    let across = part_is (x_offset c.args.self.now c.args.from c.args.to) c.millionths.result c.unsigned_abs.result c.from-x.result c.millionths.ensures.bound (c.millionths.ensures.value ∙ c.offset-x.ensures.x) c.unsigned_abs.ensures.value c.from-x.ensures in
    let up = part_is (y_offset c.args.self.now c.args.from c.args.to) c.millionths-2.result c.unsigned_abs-2.result c.from-y.result c.millionths-2.ensures.bound (c.millionths-2.ensures.value ∙ c.offset-x.ensures.y) c.unsigned_abs-2.ensures.value c.from-y.ensures in
    let small = distance_small c.args.self.now c.args.from c.args.to c.from-x.result c.from-y.result c.whole_root.result (subst IsWithinLimits c.self.view_is c.self.invariant) c.requires.from c.requires.to across up c.whole_root.ensures.value in
    let is = distance_is c.args.self.now c.args.from c.args.to c.from-x.result c.from-y.result c.whole_root.result across up c.whole_root.ensures.value in
    c.number.ensures ∙ cast_is c.whole_root.result small ∙ ap pos is
