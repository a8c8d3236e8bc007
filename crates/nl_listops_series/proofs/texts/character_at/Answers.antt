use Rattle.std.proofs.Common.{arith}
use Rattle.nl_fixed.specs.Characters.{characters}
use Rattle.nl_listops_series.proofs.Pieces.{piece_at}
use Rattle.nl_listops_series.proofs.texts.character_at.Goals as goal

pub returns : goal.returns
returns c = let is = piece_at c.args.number (characters c.args.text.now) c.in_ok-place.place in grind (arith, is)
