use Rattle.std.proofs.Common.{map}
use Rattle.nl_value.specs.Views.{plain}
use Rattle.nl_listops.proofs.Listed.{list_input_fits}
use Rattle.nl_listops.proofs.words.OfList.answer.Goals as goal

pub of-requires : goal.of-requires
of-requires g c =
    list_input_fits (g.L.Life.living c.args.life.now) (map plain c.args.inputs.now) 0 c.in_ok-items.items.now c.requires c.in_ok-items.ensures
