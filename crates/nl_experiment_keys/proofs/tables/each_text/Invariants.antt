use Rattle.std.proofs.Common.{◌≡◌, ◌++◌, Ok, length}
use Rattle.toml.specs.View.{items_view}
use Rattle.nl_experiment_keys.specs.Reading.{◌>>=◌, each_item, text_in}
use Rattle.nl_experiment_keys.proofs.tables.each_text.Given as goal

-- the texts so far, with those that are left, are all
abbrev pub invariant-items : goal.invariant-items
invariant-items l = (each_item text_in (items_view l.left) >>= (λ texts. Ok (l.texts ++ texts))) ≡ each_item text_in (items_view l.fn.items)

abbrev pub decreases-items : goal.decreases-items
decreases-items l = length l.left
