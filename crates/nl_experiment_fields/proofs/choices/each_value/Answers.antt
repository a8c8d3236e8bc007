use Rattle.toml.specs.View.{items_view}
use Rattle.nl_experiment_keys.specs.Reading.{each_item}
use Rattle.nl_experiment_fields.specs.Entries.{right_value}
use Rattle.nl_experiment_fields.proofs.Walks.{all_gathered, behind_none}
use Rattle.nl_experiment_fields.proofs.choices.each_value.Goals as goal

pub items-init : goal.items-init
items-init c = behind_none c.empty-values.result (each_item (right_value c.args.name.now) (items_view c.args.items.now)) c.empty-values.ensures

pub returns : goal.returns
returns c =
    all_gathered (right_value c.args.name.now) c.items.values c.items.left.now (each_item (right_value c.args.name.now) (items_view c.args.items.now)) c.in_default.ensures.cases
    c.items.invariant
