use Rattle.nl_value.specs.Views.{plain}
use Rattle.nl_listops_series.proofs.Cuts.{part_of_is}
use Rattle.nl_listops_series.proofs.lists.part_of.Goals as goal

pub returns-in_ok-list_of-in-Some-Some : goal.returns-in_ok-list_of-in-Some-Some
returns-in_ok-list_of-in-Some-Some c =
    part_of_is plain c.as_slice-values.result.now c.args.items.now c.as_slice-values.ensures c.args.first c.args.second c.in-Some-Some.from c.in-Some-Some.to c.in_ok-list_of-in-Some-Some.field-0
    c.in-Some-Some.ensures c.in-Some-Some.ensures' c.if-from-to.true c.if-to-values.true c.in_ok-list_of-in-Some-Some.ensures
