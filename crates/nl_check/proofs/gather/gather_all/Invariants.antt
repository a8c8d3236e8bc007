use Rattle.std.proofs.Common.{◌≡◌, ◌++◌, drop, map}
use Rattle.nl_tree.specs.Views.{plain}
use Rattle.nl_tree.specs.Vocabulary.{terms}
use Rattle.nl_check.specs.inner.Calls.{own_of, calls_from}
use Rattle.nl_check.proofs.gather.gather_all.Given as goal

abbrev pub invariant-loop-at : goal.invariant-loop-at
invariant-loop-at l = record {
  own : l.own.items ++ own_of (terms l.declared) (map plain (drop l.at l.body-items)) ≡ own_of (terms l.declared) (map plain l.body-items);
  calls : l.calls.items ++ calls_from (terms l.declared) l.at (map plain (drop l.at l.body-items)) ≡ calls_from (terms l.declared) 0 (map plain l.body-items);
}
