use Rattle.std.proofs.Common.{None}
use Rattle.nl_birth.proofs.Setting.{newborn_lives}
use Rattle.nl_birth.proofs.births.bear_drawn.Goals as goal

pub dress-requires : goal.dress-requires
dress-requires g c =
    newborn_lives (g.S.Store.world c.args.store.now) (g.S.Store.world c.bear.new.self) c.in_ok-turtle.turtle c.args.breed c.copy_of.result None
    c.in_ok-turtle.ensures.serial c.in_ok-turtle.ensures.born
