use Rattle.std.proofs.Common.{rules}
use Rattle.trial_index.proofs.Keeping.{filing-moved}
use Rattle.trial_index.proofs.filing.Filing.refile.Goals as goal

pub invariant_of-self : goal.invariant_of-self
invariant_of-self c = filing-moved _ _ _ _ _ _ _ c.args.key c.args.to c.args.breed c.self.invariant (search rules) c.refile.ensures.refiled c.refile.ensures.others c.refile.ensures.size
