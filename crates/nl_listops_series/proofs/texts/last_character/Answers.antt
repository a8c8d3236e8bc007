use Rattle.std.proofs.Common.{arith}
use Rattle.nl_fixed.specs.Characters.{characters}
use Rattle.nl_listops_series.proofs.Pieces.{last_piece}
use Rattle.nl_listops_series.proofs.texts.last_character.Goals as goal

pub returns : goal.returns
returns c = let is = last_piece (characters c.args.text.now) in grind (arith, is)
