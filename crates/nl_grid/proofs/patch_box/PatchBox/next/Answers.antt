use Rattle.std.proofs.Common.{◌∙◌}
use Rattle.nl_grid.proofs.BandLemmas.{next_is, walk_is, none_beyond, number_after, no_number_after}
use Rattle.nl_grid.proofs.patch_box.PatchBox.next.Goals as goal

pub returns-in_err-from-clause-after : goal.returns-in_err-from-clause-after
returns-in_err-from-clause-after c = c.from_residual.ensures ∙ none_beyond c.self.inside.columns c.self.inside.rows c.args.self.now c.args.patch c.self.invariant c.self.view_is (no_number_after c.args.patch c.checked_add.result c.in_err-from.was c.checked_add.ensures)

pub returns-in_err-from-clause-walk : goal.returns-in_err-from-clause-walk
returns-in_err-from-clause-walk c = walk_is c.self.inside.columns c.self.inside.rows c.args.self.now c.args.patch c.from_residual.result c.self.view_is (returns-in_err-from-clause-after c)

pub returns-clause-after : goal.returns-clause-after
returns-clause-after c = next_is c.self.inside.columns c.self.inside.rows c.args.self.now c.args.patch c.in_ok-from.from c.first_from.result c.self.invariant c.self.view_is (number_after c.args.patch c.in_ok-from.from c.checked_add.result c.in_ok-from.was c.checked_add.ensures) c.first_from.ensures.found c.first_from.ensures.none

pub returns-clause-walk : goal.returns-clause-walk
returns-clause-walk c = walk_is c.self.inside.columns c.self.inside.rows c.args.self.now c.args.patch c.first_from.result c.self.view_is (returns-clause-after c)
