use Rattle.std.proofs.Common.{◌≡◌, length}
use Rattle.std.specs.List.{list_any}
use Rattle.nl_tree.specs.Tokens.{is_new}
use Rattle.nl_parse_reading.proofs.classes.asks_new_name.Given as goal

abbrev pub invariant-listed : goal.invariant-listed
invariant-listed l = list_any is_new l.rest ≡ list_any is_new l.listed

abbrev pub decreases-listed : goal.decreases-listed
decreases-listed l = length l.rest
