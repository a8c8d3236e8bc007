use Rattle.std.proofs.Common.{map}
use Rattle.nl_value.specs.Views.{plain}
use Rattle.nl_listops.proofs.Listed.{input_fits}
use Rattle.nl_listops.proofs.words.Search.answer.Goals as goal

pub of-requires-clause-value : goal.of-requires-clause-value
of-requires-clause-value g c =
    input_fits (g.L.Life.living c.args.life.now) (map plain c.args.inputs.now) 0 (plain c.in_ok-value.value.now) c.requires c.in_ok-value.ensures

pub of-requires-clause-series : goal.of-requires-clause-series
of-requires-clause-series g c =
    input_fits (g.L.Life.living c.args.life.now) (map plain c.args.inputs.now) 1 (plain c.in_ok-series.series.now) c.requires c.in_ok-series.ensures
