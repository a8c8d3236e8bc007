use Rattle.nl_value.specs.Views.{plain}
use Rattle.nl_listops_series.proofs.Cuts.{inserted_at_is}
use Rattle.nl_listops_series.proofs.lists.inserted_at.Goals as goal

pub returns-in_ok-with_value-in-Some : goal.returns-in_ok-with_value-in-Some
returns-in_ok-with_value-in-Some c =
    inserted_at_is plain c.as_slice-values.result.now c.args.items.now c.as_slice-values.ensures c.args.number c.in-Some.place (plain c.args.value.now) c.in_ok-with_value-in-Some.field-0
    c.in-Some.ensures c.if-place-values.true c.in_ok-with_value-in-Some.ensures
