-- Which locals are known at each place of a text.
use Rattle.std.specs.Prelude.{Bool, true, false, IsTrue, [], ◌++◌, List, Option, Some, None}
use Rattle.nl_fixed.specs.Nouns.{Name, Names}
use Rattle.nl_tree.specs.declared.declared.Declared.{Declared}
use Rattle.nl_tree.specs.declared.declared.Form.{Form}
use Rattle.nl_tree.specs.declared.tree.Label.{Label}
use Rattle.nl_tree.specs.declared.tree.Label.TheVariants as label
use Rattle.nl_tree.specs.Tree.{Node, node, Nodes, none, more}
use Rattle.nl_tree.specs.Term.{Term}
use Rattle.nl_tree.specs.Vocabulary.{among, term_named, terms}
use Rattle.nl_tree.specs.Tokens.{Token, class_of, marked}
use Rattle.nl_tree.specs.Slots.{is_let, made_at}
use Rattle.nl_tree.specs.Grammar.{IsText}

-- the name that a statement makes for those after it: that of `let`, in parentheses too
abbrev mutual
  pub makes : List Term → Node → Names
  makes table (node (label.Named name) s ts) = made_at table (label.Named name) ts
  makes table (node label.Paren s ts) = makes_first table ts
  makes table (node other s ts) = []

  pub makes_first : List Term → Nodes → Names
  makes_first table none = []
  makes_first table (more t ts) = makes table t

-- the names of a head, which are known in its block alone
abbrev pub head_of : Label → Names
head_of (label.Arrow names) = names
head_of other = []

-- How parts know names: each as much as the others; or one after another, each with what those before it make; or all but the first, which
-- is a new name itself.
pub data Order : Type 0 where
  Beside : Order
  Sequence : Order
  Naming : Order

abbrev pub order_by : Bool → Order
order_by true = Naming
order_by false = Beside

abbrev pub order_of : List Term → Label → Order
order_of table label.Commands = Sequence
order_of table (label.Named name) = order_by (is_let (class_of (term_named table name)))
order_of table other = Beside

-- a name without a row is known
abbrev pub IsKnownBy : Option Term → Names → Name → Type 0
IsKnownBy None known name = IsTrue (among name known)
IsKnownBy (Some r) known name = Unit {0}

abbrev pub IsKnown : List Term → Names → Label → Type 0
IsKnown table known (label.Named name) = IsKnownBy (term_named table name) known name
IsKnown table known other = Unit {0}

-- each name in the tree has a row or is known at its place
abbrev mutual
  pub InScope : List Term → Names → Node → Type 0
  InScope table known (node l s ts) = IsKnown table known l × InParts table (head_of l ++ known) (order_of table l) ts

  pub InParts : List Term → Names → Order → Nodes → Type 0
  InParts table known order none = Unit {0}
  InParts table known Beside (more t ts) = InScope table known t × InParts table known Beside ts
  InParts table known Sequence (more t ts) = InScope table known t × InParts table (makes table t ++ known) Sequence ts
  InParts table known Naming (more t ts) = InParts table known Beside ts

-- Each name of a text has a row, or is an input, or stands in the head of its block or was made before it there, or in a block around it.
abbrev pub NamesAreKnown : Type 0
NamesAreKnown =
    (d : Declared) (form : Form) (inputs : Names) (ts : List Token) (t : Node) → IsText form inputs (marked (terms d) ts) t
    → InScope (terms d) inputs t
