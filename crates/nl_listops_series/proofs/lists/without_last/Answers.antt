use Rattle.nl_value.specs.Views.{plain}
use Rattle.nl_listops_series.proofs.Cuts.{without_last_is}
use Rattle.nl_listops_series.proofs.lists.without_last.Goals as goal

pub returns-in_ok-list_of-in-len1-up : goal.returns-in_ok-list_of-in-len1-up
returns-in_ok-list_of-in-len1-up c =
    without_last_is plain c.as_slice.result.now c.args.items.now c.in_ok-list_of-in-len1-up.field-0 c.as_slice.ensures c.in-len1-up.len_at_least c.in_ok-list_of-in-len1-up.ensures
