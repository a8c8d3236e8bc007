use Rattle.nl_birth.proofs.Keeping.{turtle_lives_on, link_lives_on, keeping_goes_on}
use Rattle.nl_birth.proofs.laws.who_lived_lives_on.Goals as goal

pub returns : goal.returns
returns c = record { turtles = turtle_lives_on; links = link_lives_on; goes_on = keeping_goes_on }
