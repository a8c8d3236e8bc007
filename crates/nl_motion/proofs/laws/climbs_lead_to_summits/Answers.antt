use Rattle.nl_motion.proofs.Summits.{ends_at_center, leads_to_summit, no_numbers}
use Rattle.nl_motion.proofs.laws.climbs_lead_to_summits.Goals as goal

pub returns : goal.returns
returns c = record { centers = ends_at_center; summits = leads_to_summit; none = no_numbers }
