use Rattle.std.proofs.Common.{rules, of_calls, List, map, ap, ◌∙◌}
use Rattle.std.specs.Cmp.{IsStrictWeakOrder}
use Rattle.std.proofs.lemmas.Fn.{always_returns_same}
use Rattle.std.proofs.lemmas.List.Sorted.{ranks_by}
use Rattle.nl_value.specs.declared.values.Value.{Value}
use Rattle.nl_value.specs.Plain.{Plain}
use Rattle.nl_value.specs.Order.{comes_first}
use Rattle.nl_value.specs.Sorting.{sorted_by}
use Rattle.nl_value.specs.Views.{plain}
use Rattle.nl_value.proofs.OrderOfAll.{value_order_total}
use Rattle.nl_value.proofs.StableSorts.{sorted_is, sorted_by-map}
use Rattle.nl_value.proofs.values.Items.sort.Goals as goal

-- the closure compares two values as `compare` does, so that what the stable sort makes is `sorted_by`
pub returns-clause-ok : goal.returns-clause-ok
returns-clause-ok g c =
    let w = g.L.Life.living c.args.life.now in
    let first = λ (a b : Value). comes_first w (plain a) (plain b) in
    let order : IsStrictWeakOrder first = ranks_by (value_order_total w) plain in
    let up = c.in_ok-sort_by.ensures.sorted first order (always_returns_same _ _ _ (λ a r f called. search (rules, of_calls))) in
    let stable = c.in_ok-sort_by.ensures.stable first order (always_returns_same _ _ _ (λ a r f called. search (rules, of_calls))) in
    ap (λ (vs : List Value). map plain vs) (sorted_is first order c.self.inside.list.items c.sort_by.new.self.items up stable)
    ∙ sorted_by-map plain (comes_first w) c.self.inside.list.items
    ∙ ap (λ (ps : List Plain). sorted_by (comes_first w) ps) c.self.view_is
