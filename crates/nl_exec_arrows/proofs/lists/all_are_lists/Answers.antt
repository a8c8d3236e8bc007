-- One is no list.
use Rattle.std.proofs.Common.{ap, ◌∙◌, sym}
use Rattle.std.proofs.lemmas.List.Folds.{list_all-map, list_all_at}
use Rattle.nl_value.specs.Views.{plain}
use Rattle.nl_value.specs.declared.values.Value.{Value}
use Rattle.nl_exec_arrows.specs.Lists.{is_list}
use Rattle.nl_exec_arrows.proofs.lists.all_are_lists.Goals as goal

pub returns-then-not-is_list : goal.returns-then-not-is_list
returns-then-not-is_list c =
    let not_so = ap (λ (y : Value). is_list (plain y)) (sym c.value-item.is) ∙ sym c.is_list.ensures ∙ c.if-not-is_list.true in
    sym (list_all-map is_list plain c.args.values.now ∙ list_all_at (λ (y : Value). is_list (plain y)) c.args.values.now c.loop-value.value-index c.value-item.result c.loop-value-test.true not_so)
