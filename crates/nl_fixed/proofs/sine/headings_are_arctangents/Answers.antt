use Rattle.nl_fixed.proofs.Directions.{arctangents_agree, headings_are_arctangents}
use Rattle.nl_fixed.proofs.sine.headings_are_arctangents.Goals as goal

pub returns-clause-one_at_most : goal.returns-clause-one_at_most
returns-clause-one_at_most c = arctangents_agree

pub returns-clause-heading : goal.returns-clause-heading
returns-clause-heading c = headings_are_arctangents
