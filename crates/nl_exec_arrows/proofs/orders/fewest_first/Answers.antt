-- A stable sort by ranks.
use Rattle.std.proofs.Common.{rules, of_calls, List, map, ap, ◌∙◌}
use Rattle.std.proofs.lemmas.Fn.{always_returns_same}
use Rattle.nl_value.proofs.StableSorts.{sorted_is}
use Rattle.nl_exec_arrows.specs.Orders.{ranked_seen}
use Rattle.nl_exec_arrows.specs.declared.orders.Ranked.{Ranked}
use Rattle.nl_exec_arrows.proofs.Fewest.{fewer, fewer_order, fewer_is}
use Rattle.nl_exec_arrows.proofs.orders.fewest_first.Goals as goal

pub returns : goal.returns
returns c =
    let up = c.in_ok-sort_by.ensures.sorted fewer fewer_order (always_returns_same _ _ _ (λ a r f called. search (rules, of_calls))) in
    let stable = c.in_ok-sort_by.ensures.stable fewer fewer_order (always_returns_same _ _ _ (λ a r f called. search (rules, of_calls))) in
    ap (λ (xs : List Ranked). map ranked_seen xs) (sorted_is fewer fewer_order c.args.all.items c.sort_by.new.self.items up stable) ∙ fewer_is c.args.all.items
