use Rattle.std.proofs.Common.{arith}
use Rattle.nl_value.specs.Views.{plain}
use Rattle.nl_listops_series.proofs.Cuts.{replaced_at_is}
use Rattle.nl_listops_series.proofs.lists.replaced_at.Goals as goal

pub returns : goal.returns
returns c =
    let is = replaced_at_is plain c.as_slice-values.result.now c.args.items.now c.as_slice-values.ensures c.args.number c.in_ok-place.place (plain c.args.value.now) c.in_ok-with_value.field-0 in
    grind (arith, is)
