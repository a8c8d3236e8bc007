-- Which parts the nodes of a text have, by the rows of its words.
use Rattle.std.specs.Prelude.{◌≡◌, ◌⊎◌, ℕ, ◌≤◌, Bool, true, false, not, ◌&&◌, IsTrue, List, [], ◌∷◌, Option, Some, None, All, length}
use Rattle.nl_fixed.specs.Nouns.{Name, Names}
use Rattle.nl_fixed.specs.declared.span.Span.{Span}
use Rattle.nl_words.specs.Table.{has_turns}
use Rattle.nl_words.specs.declared.entry.Role.{Role}
use Rattle.nl_words.specs.declared.entry.Role.TheVariants as role
use Rattle.nl_words.specs.declared.entry.Input.{Input}
use Rattle.nl_words.specs.declared.entry.Input.TheVariants as input
use Rattle.nl_tree.specs.declared.declared.Declared.{Declared}
use Rattle.nl_tree.specs.declared.declared.Form.{Form}
use Rattle.nl_tree.specs.declared.tree.Label.{Label}
use Rattle.nl_tree.specs.declared.tree.Label.TheVariants as label
use Rattle.nl_tree.specs.Tree.{Node, node, Nodes, none, more}
use Rattle.nl_tree.specs.Tree as tree
use Rattle.nl_tree.specs.Term.{Term}
use Rattle.nl_tree.specs.Vocabulary.{term_named, terms}
use Rattle.nl_tree.specs.Tokens.{Token, inputs_of, marked, names_of}
use Rattle.nl_tree.specs.Context.{is_block, is_variable}
use Rattle.nl_tree.specs.Grammar.{IsText, leaf, one}

-- ---- all nodes of a tree

abbrev mutual
  pub Each : (Node → Type 0) → Node → Type 0
  Each Holds (node l s ts) = Holds (node l s ts) × EachIn Holds ts

  pub EachIn : (Node → Type 0) → Nodes → Type 0
  EachIn Holds none = Unit {0}
  EachIn Holds (more t ts) = Each Holds t × EachIn Holds ts

-- ---- one part

-- an expression
abbrev pub IsValue : Node → Type 0
IsValue t = IsTrue (not (is_block (tree.label t)))

-- a local has no row
abbrev pub is_local : Option Term → Bool
is_local None = true
is_local (Some r) = false

abbrev pub is_settable : Option Term → Bool
is_settable None = true
is_settable (Some r) = is_variable r.role

-- a name alone, whose row passes a test, or the lack of one
abbrev pub IsName : List Term → (Option Term → Bool) → Node → Type 0
IsName table passes t = (name : Name) × (span : Span) × ((t ≡ leaf (label.Named name) span) × IsTrue (passes (term_named table name)))

abbrev pub IsCommands : Node → Type 0
IsCommands t = tree.label t ≡ label.Commands

-- so many names at most, none of which has a row
abbrev pub AreNew : List Term → ℕ → Names → Type 0
AreNew table n names = (length names ≤ n) × All (λ name. IsTrue (is_local (term_named table name))) names

-- an arrow block: a head of so many new names at most, and behind it such a part
abbrev pub IsArrow : List Term → (Node → Type 0) → ℕ → Node → Type 0
IsArrow table Holds n t = (names : Names) × (span : Span) × (u : Node) × ((t ≡ node (label.Arrow names) span (one u)) × AreNew table n names × Holds u)

-- What stands for an input: a value, a block, an arrow block with so many names at most, a variable or a local, or the name of a new local.
-- Cases stand for the other inputs, or nowhere.
abbrev pub IsInput : List Term → ℕ → Input → Node → Type 0
IsInput table n input.Value t = IsValue t
IsInput table n input.Expression t = IsValue t
IsInput table n input.Commands t = IsCommands t
IsInput table n input.MaybeCommands t = IsCommands t
IsInput table n input.Reporter t = tree.label t ≡ label.Reporter
IsInput table n input.Variable t = IsName table is_settable t
IsInput table n input.Fresh t = IsName table is_local t
IsInput table n input.ArrowCommands t = IsArrow table IsCommands n t
IsInput table n input.ArrowReporter t = IsArrow table IsValue n t
IsInput table n input.Cases t = ⊥

-- ---- the parts of a node

-- those of the inputs in order; a block that may be missing is there or isn't
abbrev pub AreInputs : List Term → ℕ → List Input → List Node → Type 0
AreInputs table n [] [] = Unit {0}
AreInputs table n [] (t ∷ ts) = ⊥
AreInputs table n (input.MaybeCommands ∷ is) [] = AreInputs table n is []
AreInputs table n (input.MaybeCommands ∷ is) (t ∷ ts) =
    AreInputs table n is (t ∷ ts) ⊎ (IsInput table n input.MaybeCommands t × AreInputs table n is ts)
AreInputs table n (i ∷ is) [] = ⊥
AreInputs table n (i ∷ is) (t ∷ ts) = IsInput table n i t × AreInputs table n is ts

-- those of a row's inputs, or any number of values where the row takes any
abbrev pub AreTaken : List Term → ℕ → Bool → List Input → List Node → Type 0
AreTaken table n true is ts = All IsValue ts
AreTaken table n false is ts = AreInputs table n is ts

-- A word that may be given more in parentheses takes any number of values; one with an arrow block has just its inputs without them.
abbrev pub takes_any : Term → Bool
takes_any r = r.many && not (has_turns r.turns)

-- what names no node: a word of declarations, or the arrow
abbrev pub is_reserved : Role → Bool
is_reserved role.Reserved = true
is_reserved other = false

-- those of a word are those of its row, whose heads have at most as many names as a turn has values; a local has none
abbrev pub AreOfWord : List Term → Option Term → List Node → Type 0
AreOfWord table None ts = ts ≡ []
AreOfWord table (Some r) ts = (is_reserved r.role ≡ false) × AreTaken table (names_of r.turns) (takes_any r) (inputs_of r) ts

abbrev pub IsOne : List Node → Type 0
IsOne ts = (t : Node) × (ts ≡ t ∷ [])

-- Pairs of parentheses, negations, blocks of one expression and arrow blocks have one part. A number and a text have none; a list and a block of
-- commands may have any number.
abbrev pub AreOf : List Term → Label → List Node → Type 0
AreOf table (label.Named name) ts = AreOfWord table (term_named table name) ts
AreOf table (label.Number count) ts = ts ≡ []
AreOf table (label.Text bytes) ts = ts ≡ []
AreOf table label.List ts = Unit {0}
AreOf table label.Negate ts = IsOne ts
AreOf table label.Paren ts = IsOne ts
AreOf table label.Commands ts = Unit {0}
AreOf table label.Reporter ts = IsOne ts
AreOf table (label.Arrow names) ts = IsOne ts

-- each node of a text has its parts
abbrev pub NodesHaveTheirParts : Type 0
NodesHaveTheirParts =
    (d : Declared) (form : Form) (names : Names) (ts : List Token) (t : Node) → IsText form names (marked (terms d) ts) t
    → Each (λ u. AreOf (terms d) (tree.label u) (tree.parts u)) t
