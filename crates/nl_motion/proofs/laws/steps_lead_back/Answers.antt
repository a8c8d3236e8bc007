use Rattle.nl_motion.proofs.Returns.{leads_back}
use Rattle.nl_motion.proofs.laws.steps_lead_back.Goals as goal

pub returns : goal.returns
returns c = leads_back
