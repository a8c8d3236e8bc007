use Rattle.nl_draw.proofs.Shuffles.{chosen-member, chosen-at, chosen-map}
use Rattle.nl_draw.proofs.laws.choices_are_members.Goals as goal

pub returns : goal.returns
returns g c = record { members = chosen-member; indices = chosen-at; map = chosen-map }
