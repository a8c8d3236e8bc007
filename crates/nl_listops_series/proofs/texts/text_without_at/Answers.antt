use Rattle.std.proofs.Common.{arith}
use Rattle.nl_fixed.specs.Characters.{characters}
use Rattle.nl_listops_series.proofs.Pieces.{pieces_without}
use Rattle.nl_listops_series.proofs.texts.text_without_at.Goals as goal

pub returns : goal.returns
returns c = let is = pieces_without c.args.number (characters c.args.text.now) c.in_ok-place.place in grind (arith, is)
