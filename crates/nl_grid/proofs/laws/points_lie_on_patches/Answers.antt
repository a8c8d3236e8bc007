use Rattle.nl_grid.proofs.CoverLemmas.{patch_at_below}
use Rattle.nl_grid.proofs.LawLemmas.{center_patch, rounded_coordinates}
use Rattle.nl_grid.proofs.laws.points_lie_on_patches.Goals as goal

pub returns : goal.returns
returns c = record { centers = center_patch; points = patch_at_below; coordinates = rounded_coordinates }
