use Rattle.std.proofs.Common.{[], ◌≡◌, ◌<◌, List, drop}
use Rattle.std.specs.Prelude.{IfSome}
use Rattle.std.specs.Option.{option_copied, option_map}
use Rattle.nl_words.specs.Kinds.{agents}
use Rattle.nl_tree.specs.Views.{plain}
use Rattle.nl_tree.specs.Term.{Term}
use Rattle.nl_tree.specs.Tree.{size, parts, nodes}
use Rattle.nl_tree.specs.Tokens.{inputs_of}
use Rattle.nl_tree.specs.Context.{givens, last_value}
use Rattle.nl_check.specs.inner.Given.{given_by}
use Rattle.nl_tree.specs.Index.{named}
use Rattle.nl_check.proofs.given.last_value.Given as goal

abbrev pub invariant-loop-at : goal.invariant-loop-at
invariant-loop-at l = record {
  smaller : IfSome l.found (λ t. size (plain t.now) < size (plain l.tree));
  value : (table : List Term) → last_value (given_by table (option_map plain (option_copied l.found))) (drop l.at (inputs_of (named [] l.word))) (givens table (nodes (drop l.at (parts (plain l.tree)))))
      ≡ last_value agents (inputs_of (named [] l.word)) (givens table (nodes (parts (plain l.tree))));
}
