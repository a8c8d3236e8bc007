-- The view's store is the one at hand.
use Rattle.std.proofs.Common.{◌≡◌, subst}
use Rattle.std.specs.Prelude.{IfOk}
use Rattle.nl_exec_acts.specs.Acts.{members_in_order}
use Rattle.nl_exec_arrows.proofs.orders.members_in_order.Goals as goal

pub returns : goal.returns
returns g c = subst (λ st. IfOk c.agents_in_order.result (λ items. items ≡ members_in_order (g.S.Store.world st).rest c.args.set.now)) c.new-view.ensures.store c.agents_in_order.ensures
