use Rattle.std.proofs.Common.{◌≡◌, ◌++◌, drop, map}
use Rattle.nl_tree.specs.Vocabulary.{named_what}
use Rattle.nl_tree.specs.Index.{term_of}
use Rattle.nl_check.proofs.rows.put_rows.Given as goal

abbrev pub invariant-loop-row : goal.invariant-loop-row
invariant-loop-row l = l.list ++ map named_what (map term_of (drop l.row-index l.row-items)) ≡ l.initial.list ++ map named_what (map term_of l.row-items)
