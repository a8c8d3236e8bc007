use Rattle.nl_draw.proofs.Shuffles.{shuffled-permutes, shuffled-map, shuffled-short}
use Rattle.nl_draw.proofs.laws.shuffles_permute.Goals as goal

pub returns : goal.returns
returns g c = record { permute = shuffled-permutes; map = shuffled-map; short = shuffled-short }
