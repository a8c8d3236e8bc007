-- Those so far are copied.
use Rattle.std.proofs.Common.{◌≡◌, take}
use Rattle.nl_exec_meaning.proofs.items.copy_items.Given as goal

abbrev pub invariant-loop-item : goal.invariant-loop-item
invariant-loop-item l = l.copied.items ≡ take l.item-index l.items
