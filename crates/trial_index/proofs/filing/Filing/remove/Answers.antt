use Rattle.std.proofs.Common.{rules}
use Rattle.trial_index.proofs.Keeping.{filing-less}
use Rattle.trial_index.proofs.filing.Filing.remove.Goals as goal

pub invariant_of-self : goal.invariant_of-self
invariant_of-self c = filing-less _ _ _ _ _ _ _ _ c.args.key c.self.invariant (search rules) c.remove.ensures.removed c.remove.ensures.others c.take.ensures.taken c.remove.ensures.size
