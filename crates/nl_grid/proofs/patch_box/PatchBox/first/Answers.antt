use Rattle.nl_grid.proofs.BandLemmas.{first_is}
use Rattle.nl_grid.proofs.patch_box.PatchBox.first.Goals as goal

pub returns : goal.returns
returns c = first_is c.self.inside.columns c.self.inside.rows c.args.self.now c.first_from.result c.self.invariant c.self.view_is c.first_from.ensures.found c.first_from.ensures.none
