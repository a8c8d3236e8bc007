use Rattle.std.proofs.Common.{◌≡◌, subst}
use Rattle.nl_fixed.specs.Numbers.{IsInRange, product_of}
use Rattle.nl_grid.proofs.AheadLemmas.{product_succeeds, product_gives}
use Rattle.nl_grid.proofs.shape.share.Goals as goal

pub unwrap-requires : goal.unwrap-requires
unwrap-requires c =
    let range = subst IsInRange c.millionths-count.ensures.value c.millionths-count.ensures.bound in
    let product : c.mul.result ≡ product_of c.args.distance c.args.sine = assumption in
    product_succeeds c.args.distance c.args.sine c.mul.result range c.requires product

pub returns : goal.returns
returns c =
    let range = subst IsInRange c.millionths-count.ensures.value c.millionths-count.ensures.bound in
    let product : c.mul.result ≡ product_of c.args.distance c.args.sine = assumption in
    product_gives c.args.distance c.args.sine c.mul.result c.unwrap.result range c.requires product c.unwrap.ensures
