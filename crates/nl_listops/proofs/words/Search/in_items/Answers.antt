use Rattle.std.proofs.Common.{arith}
use Rattle.nl_value.specs.Equality.{same_values}
use Rattle.nl_value.specs.Views.{plain}
use Rattle.nl_listops.proofs.Listed.{any_is_some}
use Rattle.nl_listops.proofs.words.Search.in_items.Goals as goal

pub returns-in_ok-place-in-Member : goal.returns-in_ok-place-in-Member
returns-in_ok-place-in-Member g c =
    let any = any_is_some (same_values (g.L.Life.living c.args.life.now) (plain c.args.value.now)) c.args.items.now in
    grind (arith, any, c.in_ok-place-in-Member.ensures)
