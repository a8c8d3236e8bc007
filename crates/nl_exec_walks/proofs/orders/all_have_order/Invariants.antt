-- All so far have an order.
use Rattle.std.proofs.Common.{◌≡◌, true, take, map}
use Rattle.std.specs.List.{list_all}
use Rattle.nl_value.specs.Order.{have_order, order_kind}
use Rattle.nl_exec_meaning.specs.inner.Seen.{answered}
use Rattle.nl_exec_walks.proofs.orders.all_have_order.Given as goal

abbrev pub invariant-loop-answer : goal.invariant-loop-answer
invariant-loop-answer g l = list_all (λ a. have_order l.kind (order_kind (g.L.Life.living l.life) a.value)) (map answered (take l.answer-index l.answers)) ≡ true
