use Rattle.nl_check.proofs.Either.{bodies_are_right_or_faulty, texts_are_right_or_faulty}
use Rattle.nl_check.proofs.laws.bodies_are_right_or_faulty.Goals as goal

pub returns-clause-model : goal.returns-clause-model
returns-clause-model c = bodies_are_right_or_faulty

pub returns-clause-lone : goal.returns-clause-lone
returns-clause-lone c = texts_are_right_or_faulty
