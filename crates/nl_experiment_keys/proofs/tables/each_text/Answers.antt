use Rattle.toml.specs.View.{items_view}
use Rattle.nl_experiment_keys.specs.Reading.{each_item, text_in}
use Rattle.nl_experiment_keys.proofs.Walks.{text_done, text_first, texts_told}
use Rattle.nl_experiment_keys.proofs.tables.each_text.Goals as goal

pub items-init : goal.items-init
items-init c = text_first c.empty-texts.result (each_item text_in (items_view c.args.items.now)) c.empty-texts.ensures

pub returns : goal.returns
returns c = texts_told c.args.key.now c.items.texts (each_item text_in (items_view c.args.items.now)) (text_done c.items.texts c.items.left.now (each_item text_in (items_view c.args.items.now)) c.in_default.ensures.cases c.items.invariant)
