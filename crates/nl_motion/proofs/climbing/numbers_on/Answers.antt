use Rattle.std.proofs.Common.{arith}
use Rattle.std.proofs.lemmas.List.Elements.{Contains-get_or}
use Rattle.nl_motion.proofs.climbing.numbers_on.Goals as goal

pub number_of-requires : goal.number_of-requires
number_of-requires g c = c.requires.world _ (Contains-get_or c.args.patches.now c.loop-index.index 0 (omega arith))
