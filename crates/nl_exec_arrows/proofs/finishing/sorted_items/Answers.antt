-- The items of the one list.
use Rattle.std.proofs.Common.{◌≡◌, List, Some, ap, ◌∙◌, sym, subst}
use Rattle.std.specs.Prelude.{IfOk}
use Rattle.nl_value.specs.Plain.{Plain}
use Rattle.nl_value.specs.Views.{plain}
use Rattle.nl_value.specs.declared.values.Value.{Value}
use Rattle.nl_exec_meaning.specs.Arrows.{by_rank}
use Rattle.nl_exec_meaning.specs.Rounds.{items_in}
use Rattle.nl_exec_arrows.proofs.Given.{first_items}
use Rattle.nl_exec_arrows.proofs.finishing.sorted_items.Goals as goal

pub returns-in-Some-Items : goal.returns-in-Some-Items
returns-in-Some-Items c =
    let r = c.args.rounds.now in
    let list = sym c.in-Some-Items.ensures ∙ ap (λ (v : Value). Some (plain v)) c.in-Some-Items.field-0-is in
    let same : c.deref.result.now ≡ items_in r = c.deref.ensures ∙ sym (first_items r.over c.in-Some-Items.items.value list) in
    subst (λ (xs : List Plain). IfOk c.in_order_of_ranks.result (λ items. items ≡ by_rank xs r.ranks)) same c.in_order_of_ranks.ensures
