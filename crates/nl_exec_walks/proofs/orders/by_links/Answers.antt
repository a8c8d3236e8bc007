-- A stable sort by what two compare by is the sort of their pairs.
use Rattle.std.proofs.Common.{rules, of_calls, List, map, ap, ◌∙◌}
use Rattle.std.specs.Cmp.{IsStrictWeakOrder}
use Rattle.std.proofs.lemmas.Fn.{always_returns_same}
use Rattle.std.proofs.lemmas.List.Sorted.{ranks_by}
use Rattle.nl_value.specs.Order.{comes_first}
use Rattle.nl_value.specs.Views.{plain}
use Rattle.nl_value.proofs.OrderOfAll.{value_order_total}
use Rattle.nl_value.proofs.StableSorts.{sorted_is, sorted_by-map}
use Rattle.nl_exec_walks.specs.inner.Passes.{placed}
use Rattle.nl_exec_walks.specs.declared.orders.Placed.{Placed}
use Rattle.nl_exec_walks.proofs.orders.by_links.Goals as goal

pub returns : goal.returns
returns g c =
    let w = g.L.Life.living c.args.life.now in
    let first = λ (a b : Placed). comes_first w (plain a.agent) (plain b.agent) in
    let order : IsStrictWeakOrder first = ranks_by (value_order_total w) (λ (p : Placed). plain p.agent) in
    let up = c.in_ok-sort_by.ensures.sorted first order (always_returns_same _ _ _ (λ a r f called. search (rules, of_calls))) in
    let stable = c.in_ok-sort_by.ensures.stable first order (always_returns_same _ _ _ (λ a r f called. search (rules, of_calls))) in
    ap (λ (ps : List Placed). map placed ps) (sorted_is first order c.args.all.items c.sort_by.new.self.items up stable)
    ∙ sorted_by-map placed (λ a b. comes_first w a.0 b.0) c.args.all.items
