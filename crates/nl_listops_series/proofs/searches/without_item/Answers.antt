use Rattle.std.proofs.Common.{sym, subst, true, ◌≡◌}
use Rattle.std.specs.List.{list_all}
use Rattle.nl_value.specs.Living.{fits}
use Rattle.nl_value.specs.Views.{plain}
use Rattle.nl_listops_series.proofs.Joins.{item_passes}
use Rattle.nl_listops_series.proofs.searches.without_item.Goals as goal

pub same-requires-clause-second : goal.same-requires-clause-second
same-requires-clause-second g c =
    let w = g.L.Life.living c.args.life.now in
    item_passes plain (fits w) c.as_slice-values.result.now c.loop-item.item-index c.item-item.result (subst (λ items. list_all (fits w) items ≡ true) (sym c.as_slice-values.ensures) c.requires.items) c.loop-item-test.true c.item-item.is
