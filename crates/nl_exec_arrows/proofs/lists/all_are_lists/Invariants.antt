-- All so far are lists.
use Rattle.std.proofs.Common.{◌≡◌, true, take, map}
use Rattle.std.specs.List.{list_all}
use Rattle.nl_value.specs.Views.{plain}
use Rattle.nl_exec_arrows.specs.Lists.{is_list}
use Rattle.nl_exec_arrows.proofs.lists.all_are_lists.Given as goal

abbrev pub invariant-loop-value : goal.invariant-loop-value
invariant-loop-value l = list_all is_list (map plain (take l.value-index l.values)) ≡ true
