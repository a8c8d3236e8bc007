-- The value that was taken away is the last one: what is kept was of the others and of it.
use Rattle.std.proofs.Common.{arith}
use Rattle.nl_value.proofs.MeasureLemmas.{without_sizes, without_deepest, was_last}
use Rattle.nl_value.proofs.values.Items.pop.Goals as goal

pub sizes_without-self-inside-requires : goal.sizes_without-self-inside-requires
sizes_without-self-inside-requires c =
    let size = without_sizes c.self.inside.list.items c.pop-last.new.self.items c.deref.result.now c.pop-last.result c.in-Some.gone c.pop-last.ensures.items c.in-Some.is c.deref.ensures.value in
    omega (arith, size, c.self.invariant.0)

pub depths_without-self-inside-requires : goal.depths_without-self-inside-requires
depths_without-self-inside-requires c =
    let depth = without_deepest c.self.inside.list.items c.pop-last.new.self.items c.deref-in-Some.result.now c.pop-last.result c.in-Some.gone c.pop-last.ensures.items c.in-Some.is c.deref-in-Some.ensures.value in
    omega (arith, depth, c.self.invariant.1)

pub returns-in-Some-clause-last : goal.returns-in-Some-clause-last
returns-in-Some-clause-last c = was_last c.self.inside.list.items c.pop-last.new.self.items c.args.self.now c.pop-last.result c.in-Some.gone c.pop-last.ensures.items c.in-Some.is c.self.view_is
