use Rattle.std.proofs.Common.{sym}
use Rattle.nl_value.specs.Views.{plain}
use Rattle.nl_listops_series.specs.Sorts.{is_of}
use Rattle.nl_listops_series.proofs.Walks.{any_found}
use Rattle.nl_listops_series.proofs.sorts.has_kind.Goals as goal

pub returns-then-is_of : goal.returns-then-is_of
returns-then-is_of g c =
    let w = g.L.Life.living c.args.life.now in
    sym (any_found plain (is_of w c.args.kind) c.args.values.now c.loop-value.value-index c.value-item.result c.loop-value-test.true c.value-item.is (sym c.if-is_of.ensures))
