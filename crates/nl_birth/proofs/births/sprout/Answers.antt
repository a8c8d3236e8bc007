use Rattle.std.proofs.Common.{min}
use Rattle.nl_birth.specs.Births.{turtle_room}
use Rattle.nl_birth.proofs.Counting.{scene}
use Rattle.nl_birth.proofs.Keeping.{drawn_keep}
use Rattle.nl_birth.proofs.births.sprout.Goals as goal

pub returns-clause-keeps : goal.returns-clause-keeps
returns-clause-keeps g c =
    let w = g.S.Store.world c.args.store.now in
    let many = c.count_of.result in
    drawn_keep c.args.breed c.center-at.result (scene w c.args.stream.now) (scene (g.S.Store.world c.bear_all_drawn.new.store) c.bear_all_drawn.new.stream) many (min many (turtle_room w)) c.bear_all_drawn.result
    c.shape.ensures.stands c.bear_all_drawn.ensures
