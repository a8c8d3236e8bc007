-- Those so far are copied.
use Rattle.std.proofs.Common.{◌≡◌, take}
use Rattle.nl_exec_meaning.proofs.items.copy_lists.Given as goal

abbrev pub invariant-loop-list : goal.invariant-loop-list
invariant-loop-list l = l.copied.items ≡ take l.list-index l.lists
