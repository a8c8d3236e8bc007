use Rattle.nl_fixed.proofs.HeadingLemmas.{turns_lead_within, within_is_only_one}
use Rattle.nl_fixed.proofs.headings.turns_lead_within.Goals as goal

pub returns-clause-leads : goal.returns-clause-leads
returns-clause-leads c = turns_lead_within

pub returns-clause-only : goal.returns-clause-only
returns-clause-only c = within_is_only_one
