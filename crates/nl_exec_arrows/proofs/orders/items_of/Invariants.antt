-- The items so far.
use Rattle.std.proofs.Common.{◌≡◌, map}
use Rattle.nl_value.specs.Views.{plain}
use Rattle.nl_exec_arrows.specs.Orders.{ranked_seen}
use Rattle.nl_exec_arrows.proofs.orders.items_of.Given as goal

abbrev pub invariant-loop-each : goal.invariant-loop-each
invariant-loop-each l = map plain l.items.items ≡ map (λ a. a.value) (map ranked_seen l.yielded)
