use Rattle.nl_check.proofs.Firsts.{right_bodies_have_no_fault, right_texts_have_no_fault}
use Rattle.nl_check.proofs.laws.right_has_no_fault.Goals as goal

pub returns-clause-model : goal.returns-clause-model
returns-clause-model c = right_bodies_have_no_fault

pub returns-clause-lone : goal.returns-clause-lone
returns-clause-lone c = right_texts_have_no_fault
