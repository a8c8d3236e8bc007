-- All so far have this length.
use Rattle.std.proofs.Common.{◌≡◌, ◌==◌, true, take, length, map}
use Rattle.std.specs.List.{list_all}
use Rattle.nl_value.specs.Views.{plain}
use Rattle.nl_exec_meaning.specs.Rounds.{lists_of}
use Rattle.nl_exec_arrows.proofs.lists.all_have_length.Given as goal

abbrev pub invariant-loop-value : goal.invariant-loop-value
invariant-loop-value l = list_all (λ xs. length xs == l.many) (lists_of (map plain (take l.value-index l.values))) ≡ true
