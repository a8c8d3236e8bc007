-- Numbers of patches are small.
use Rattle.std.proofs.Common.{sym, ◌∙◌}
use Rattle.nl_exec_acts.proofs.Members.{patches_are_small}
use Rattle.nl_exec_arrows.proofs.orders.agents_in_order.Goals as goal

pub agents_of-requires : goal.agents_of-requires
agents_of-requires g c = λ is.
    patches_are_small (g.S.Store.world c.args.view.now.store.now) c.args.set.now c.as_slice.result.now c.shape-stands.ensures.stands
    (c.as_slice.ensures.value ∙ c.in_ok-members.ensures) (sym c.kind.ensures ∙ is)
