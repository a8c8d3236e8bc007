use Rattle.nl_motion.proofs.Conserved.{total_stays}
use Rattle.nl_motion.proofs.Even.{nothing_given, even_stays}
use Rattle.nl_motion.proofs.laws.diffusion_loses_nothing.Goals as goal

pub returns : goal.returns
returns c = record { totals = total_stays; nothing = nothing_given; even = even_stays }
