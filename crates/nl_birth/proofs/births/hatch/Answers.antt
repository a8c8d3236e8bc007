use Rattle.std.proofs.Common.{min}
use Rattle.nl_birth.specs.Births.{turtle_room}
use Rattle.nl_birth.proofs.Keeping.{hatched_keep}
use Rattle.nl_birth.proofs.births.hatch.Goals as goal

pub returns-clause-keeps : goal.returns-clause-keeps
returns-clause-keeps g c =
    let w = g.S.Store.world c.args.store.now in
    let many = c.count_of.result in
    hatched_keep c.args.breed c.args.parent c.at-at.result w (g.S.Store.world c.bear_all_of.new.store) many (min many (turtle_room w)) c.bear_all_of.result c.bear_all_of.ensures
