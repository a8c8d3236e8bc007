use Rattle.std.proofs.Common.{arith}
use Rattle.nl_value.proofs.MeasureLemmas.{replaced_sizes, replaced_deepest}
use Rattle.nl_value.proofs.Placing.{put, stood}
use Rattle.nl_value.proofs.values.Items.replace.Goals as goal

pub sizes_without-self-inside-requires : goal.sizes_without-self-inside-requires
sizes_without-self-inside-requires c =
    let size = replaced_sizes c.self.inside.list.items c.deref.result.now c.args.self.now c.args.at c.args.value c.replace-old.new.dest c.replace-old.result c.index_mut.result.now c.self.view_is c.requires c.deref.ensures.value c.replace-old.ensures.after c.replace-old.ensures.value c.index_mut.ensures.value in
    omega (arith, size, c.self.invariant.0, c.size.ensures, c.saturating_add-size.ensures)

pub depths_without-self-inside-requires : goal.depths_without-self-inside-requires
depths_without-self-inside-requires c =
    let depth = replaced_deepest c.self.inside.list.items c.deref-2.result.now c.args.self.now c.args.at c.args.value c.replace-old.new.dest c.replace-old.result c.index_mut.result.now c.self.view_is c.requires c.deref-2.ensures.value c.replace-old.ensures.after c.replace-old.ensures.value c.index_mut.ensures.value in
    omega (arith, depth, c.self.invariant.1, c.depth.ensures, c.max-depth.ensures)

pub returns-clause-new : goal.returns-clause-new
returns-clause-new c = put c.self.inside.list.items c.args.self.now c.args.at c.args.value c.replace-old.new.dest c.self.view_is c.replace-old.ensures.after

pub returns-clause-old : goal.returns-clause-old
returns-clause-old c = stood c.self.inside.list.items c.args.self.now c.args.at c.index_mut.result.now c.replace-old.result c.self.view_is c.requires c.replace-old.ensures.value c.index_mut.ensures.value
