use Rattle.std.proofs.Common.{None}
use Rattle.nl_birth.proofs.Setting.{newborn_lives}
use Rattle.nl_birth.proofs.births.bear_with.Goals as goal

pub dress-requires : goal.dress-requires
dress-requires g c =
    newborn_lives (g.S.Store.world c.args.store.now) (g.S.Store.world c.bear.new.self) c.in_ok-turtle.turtle c.args.breed c.args.at None
    c.in_ok-turtle.ensures.serial c.in_ok-turtle.ensures.born
