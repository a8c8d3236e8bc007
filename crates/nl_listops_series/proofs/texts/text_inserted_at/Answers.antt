use Rattle.std.proofs.Common.{arith}
use Rattle.nl_fixed.specs.Characters.{characters}
use Rattle.nl_listops_series.proofs.Pieces.{pieces_inserted}
use Rattle.nl_listops_series.proofs.texts.text_inserted_at.Goals as goal

pub returns-in_ok-joined-in-Some : goal.returns-in_ok-joined-in-Some
returns-in_ok-joined-in-Some c =
    let is = pieces_inserted c.args.number (characters c.args.text.now) c.args.other.now c.in-Some.place c.in-Some.ensures in grind (arith, is)
