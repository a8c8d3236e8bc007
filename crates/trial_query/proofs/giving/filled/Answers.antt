use Rattle.std.proofs.Common.{◌≡◌, List, true, subst, sym}
use Rattle.nl_value.specs.Plain.{Plain}
use Rattle.nl_agentset_query.specs.Inputs.{inputs_fit}
use Rattle.trial_query.proofs.Filling.{filled_fit}
use Rattle.trial_query.proofs.giving.filled.Goals as goal

pub returns-in-Ok : goal.returns-in-Ok
returns-in-Ok c = λ r. subst (λ (l : List Plain). inputs_fit r l ≡ true) (sym c.in-Ok.ensures.items) (filled_fit r c.args.many _)
