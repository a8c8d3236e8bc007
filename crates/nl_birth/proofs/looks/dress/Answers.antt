use Rattle.std.proofs.Common.{sym, subst}
use Rattle.nl_value.specs.Plain.{PlainNumber}
use Rattle.nl_agents.specs.Changes.{TurtleLives}
use Rattle.nl_agents_layout.specs.BuiltIn.{color_slot}
use Rattle.nl_birth.proofs.Setting.{lives_set}
use Rattle.nl_birth.proofs.looks.dress.Goals as goal

pub set_number-requires-2 : goal.set_number-requires-2
set_number-requires-2 g c =
    subst (TurtleLives c.args.turtle) (sym c.set_number.ensures)
    (lives_set (g.S.Store.world c.args.store.now) c.args.turtle c.args.turtle color_slot (PlainNumber c.args.looks.color) c.requires)
