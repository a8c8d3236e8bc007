use Rattle.std.proofs.Common.{min}
use Rattle.nl_birth.specs.Births.{turtle_room}
use Rattle.nl_birth.proofs.Counting.{scene}
use Rattle.nl_birth.proofs.Keeping.{drawn_keep, ordered_keep}
use Rattle.nl_birth.proofs.births.create.Goals as goal

pub returns-then-ordered-clause-keeps : goal.returns-then-ordered-clause-keeps
returns-then-ordered-clause-keeps g c =
    let w = g.S.Store.world c.args.store.now in
    let many = c.count_of-count.result in
    ordered_keep c.args.breed many w (g.S.Store.world c.bear_all_in_order.new.store) many (min many (turtle_room w)) c.bear_all_in_order.result c.shape-shape.ensures.stands c.bear_all_in_order.ensures

pub returns-else-ordered-clause-keeps : goal.returns-else-ordered-clause-keeps
returns-else-ordered-clause-keeps g c =
    let w = g.S.Store.world c.args.store.now in
    let many = c.count_of-count.result in
    drawn_keep c.args.breed c.origin.result (scene w c.args.stream.now) (scene (g.S.Store.world c.bear_all_drawn.new.store) c.bear_all_drawn.new.stream) many (min many (turtle_room w)) c.bear_all_drawn.result
    c.shape-shape.ensures.stands c.bear_all_drawn.ensures
