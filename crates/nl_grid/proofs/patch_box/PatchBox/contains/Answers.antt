use Rattle.nl_grid.proofs.BandLemmas.{contains_is, and_is, and_is_not}
use Rattle.nl_grid.proofs.patch_box.PatchBox.contains.Goals as goal

pub returns-then-contains : goal.returns-then-contains
returns-then-contains c = contains_is c.self.inside.columns c.self.inside.rows c.args.self.now c.args.patch c.contains-then-contains.result c.self.invariant c.self.view_is (and_is _ _ _ _ c.contains.ensures c.if-contains.true c.contains-then-contains.ensures)

pub returns-else-contains : goal.returns-else-contains
returns-else-contains c = contains_is c.self.inside.columns c.self.inside.rows c.args.self.now c.args.patch c.contains.result c.self.invariant c.self.view_is (and_is_not _ _ _ c.contains.ensures c.if-contains.false)
