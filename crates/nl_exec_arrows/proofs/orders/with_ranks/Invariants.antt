-- The items so far have their ranks.
use Rattle.std.proofs.Common.{◌≡◌, map, take}
use Rattle.std.specs.Prelude.{vec_len}
use Rattle.nl_value.specs.Views.{plain}
use Rattle.nl_exec_meaning.specs.Arrows.{ranked}
use Rattle.nl_exec_arrows.specs.Orders.{ranked_seen}
use Rattle.nl_exec_arrows.proofs.orders.with_ranks.Given as goal

abbrev pub invariant-loop-item : goal.invariant-loop-item
invariant-loop-item l = (map ranked_seen l.all.items ≡ ranked (map plain (take l.item-index l.item-items)) l.ranks) × (vec_len l.all ≡ l.item-index)
