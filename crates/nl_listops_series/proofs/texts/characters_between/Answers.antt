use Rattle.std.proofs.Common.{arith}
use Rattle.nl_fixed.specs.Characters.{characters}
use Rattle.nl_listops_series.proofs.Characters.{text_sliced, before_ordered}
use Rattle.nl_listops_series.proofs.texts.characters_between.Goals as goal

pub slice_bounds-result-count : goal.slice_bounds-result-count
slice_bounds-result-count c = let ordered = before_ordered (characters c.args.text.now) c.args.from c.args.to c.requires.ordered in grind (arith, ordered)

pub slice_bounds-result-start : goal.slice_bounds-result-start
slice_bounds-result-start c = let ordered = before_ordered (characters c.args.text.now) c.args.from c.args.to c.requires.ordered in grind (arith, ordered)

pub returns : goal.returns
returns c =
    let is = text_sliced c.args.text.now c.args.from c.args.to c.place_at-start.result c.place_at-end.result c.requires.ordered c.place_at-start.ensures.place c.place_at-end.ensures.place in
    grind (arith, is)
