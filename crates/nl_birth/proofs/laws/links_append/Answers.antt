use Rattle.nl_birth.proofs.Tied.{links_append, lower_first}
use Rattle.nl_birth.proofs.laws.links_append.Goals as goal

pub returns : goal.returns
returns c = record { append = links_append; lower_first = lower_first }
