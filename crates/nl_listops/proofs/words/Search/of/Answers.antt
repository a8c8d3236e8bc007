use Rattle.std.proofs.Common.{arith, ap, sym, ◌∙◌}
use Rattle.nl_value.specs.Living.{fits}
use Rattle.nl_value.specs.Plain.{PlainItems, plains}
use Rattle.nl_value.specs.Views.{plain}
use Rattle.nl_listops.proofs.Listed.{items_of_plains, items_fit}
use Rattle.nl_listops.proofs.words.Search.of.Goals as goal

pub in_items-requires-clause-items : goal.in_items-requires-clause-items
in_items-requires-clause-items g c =
    let w = g.L.Life.living c.args.life.now in
    items_fit w c.deref.result.now
    ∙ ap (λ items. fits w (PlainItems (plains items))) c.deref.ensures
    ∙ (ap (λ v. fits w (plain v)) (sym c.in-Items.is) ∙ c.requires.series)

pub returns-in-Items : goal.returns-in-Items
returns-in-Items g c = grind (arith, items_of_plains, c.in_items.ensures)
