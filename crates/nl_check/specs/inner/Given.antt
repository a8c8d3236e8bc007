-- What agents a part may give.
use Rattle.std.specs.Prelude.{◌≡◌, ℕ, ◌<◌, Bool, true, false, List, Option, Some, None, IfSome}
use Rattle.std.specs.Borrow.{Bor}
use Rattle.std.specs.Option.{option_copied, option_map}
use Rattle.nl_words.specs.declared.entry.Kinds.{Kinds}
use Rattle.nl_words.specs.declared.entry.Input.{Input}
use Rattle.nl_words.specs.declared.entry.Input.TheVariants as input
use Rattle.nl_words.specs.Kinds.{agents}
use Rattle.nl_tree.specs.declared.declared.Declared.{Declared}
use Rattle.nl_tree.specs.declared.tree.Tree.{Tree}
use Rattle.nl_tree.specs.Tree.{Node, nodes, parts, size}
use Rattle.nl_tree.specs.Views.{plain}
use Rattle.nl_tree.specs.Term.{Term}
use Rattle.nl_tree.specs.Vocabulary.{terms}
use Rattle.nl_tree.specs.Context.{given, givens}

-- all three where there is no such part
abbrev pub given_by : List Term → Option Node → Kinds
given_by table None = agents
given_by table (Some t) = given table t

-- what the parts of a tree may give
abbrev pub part_kinds : Declared → Tree → List Kinds
part_kinds d tree = givens (terms d) (nodes (parts (plain tree)))

-- a part that was found, without where it lies
abbrev pub part_of : Option (Bor Tree) → Option Node
part_of found = option_map plain (option_copied found)

-- the part that was found may give what these kinds are of those of the tree's parts, by any table
abbrev pub TellsKinds : Option (Bor Tree) → Tree → (List Kinds → Kinds) → Type 0
TellsKinds found tree kinds = (table : List Term) → given_by table (part_of found) ≡ kinds (givens table (nodes (parts (plain tree))))

-- a part that was found is smaller than this
abbrev pub IsBelow : ℕ → Option (Bor Tree) → Type 0
IsBelow n found = IfSome found (λ part. size (plain part.now) < n)

abbrev pub is_value : Option Input → Bool
is_value None = false
is_value (Some input.Value) = true
is_value (Some input.Expression) = false
is_value (Some input.Commands) = false
is_value (Some input.MaybeCommands) = false
is_value (Some input.Reporter) = false
is_value (Some input.Variable) = false
is_value (Some input.Fresh) = false
is_value (Some input.ArrowCommands) = false
is_value (Some input.ArrowReporter) = false
is_value (Some input.Cases) = false
