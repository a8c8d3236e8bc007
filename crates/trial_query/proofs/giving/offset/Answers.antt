use Rattle.std.proofs.Common.{IsTrue, [], ◌∷◌, sym, subst}
use Rattle.nl_value.specs.Plain.{Plain}
use Rattle.nl_agentset_query.specs.Inputs.{inputs_fit}
use Rattle.trial_query.proofs.Filling.{as_item}
use Rattle.trial_query.proofs.giving.offset.Goals as goal

pub returns : goal.returns
returns c = λ r.
    subst (λ (value : Plain). IsTrue (inputs_fit r (value ∷ []))) (sym c.in_ok-listed.ensures)
    (as_item r c.in_ok-numbers.field-0 (c.in_ok-numbers.ensures r))
