use Rattle.std.proofs.Common.{map}
use Rattle.nl_value.specs.Views.{plain}
use Rattle.nl_listops.proofs.Listed.{input_fits}
use Rattle.nl_listops.proofs.words.Comparison.answer.Goals as goal

pub of-requires-clause-first : goal.of-requires-clause-first
of-requires-clause-first g c =
    input_fits (g.L.Life.living c.args.life.now) (map plain c.args.inputs.now) 0 (plain c.in_ok-a.a.now) c.requires c.in_ok-a.ensures

pub of-requires-clause-second : goal.of-requires-clause-second
of-requires-clause-second g c =
    input_fits (g.L.Life.living c.args.life.now) (map plain c.args.inputs.now) 1 (plain c.in_ok-b.b.now) c.requires c.in_ok-b.ensures
