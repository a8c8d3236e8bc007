use Rattle.std.proofs.Common.{arith}
use Rattle.nl_listops_series.proofs.Characters.{place_is, text_place_within}
use Rattle.nl_listops_series.proofs.texts.place_at.Goals as goal

pub unreachable-requires : goal.unreachable-requires
unreachable-requires c = let is = place_is c.args.text.now c.args.index c.requires in cc (is, c.in-None.is, c.char_place.ensures)

pub returns : goal.returns
returns c =
    let is = place_is c.args.text.now c.args.index c.requires in
    let within = text_place_within c.args.text.now c.args.index in
    grind (arith, is, within)
