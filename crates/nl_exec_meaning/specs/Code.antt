-- What resolved nodes stand for: the trees of texts, and the names of locals.
use Rattle.std.specs.Prelude.{◌≡◌, ℕ, ◌+◌, List, [], ◌∷◌, Option, Some, None, slice_get, refl}
use Rattle.std.specs.Coded.{Coded, code_by, coded_list, coded_ℕ, coded×}
use Rattle.nl_fixed.specs.Nouns.{Bytes, Name, Names}
use Rattle.nl_value.specs.Plain.{PlainNumber, PlainWords}
use Rattle.nl_tree.specs.Tree.{Node, node, none}
use Rattle.nl_tree.specs.Checked.{Checked, checked_code}
use Rattle.nl_tree.specs.inner.TreeCode.{node_code}
use Rattle.nl_tree.specs.declared.declared.Procedure.{Procedure}
use Rattle.nl_tree.specs.declared.tree.Label.{Label}
use Rattle.nl_tree.specs.declared.tree.Label.TheVariants as label
use Rattle.nl_exec_meaning.specs.Cases.{Case, Constant, Items, Negation, Inside, Statements, Local, Global, Owned, Aside, Procedure as Called, Word, Nothing}
use Rattle.nl_exec_meaning.specs.declared.item.Op.{Op}
use Rattle.nl_exec_meaning.specs.declared.item.Op.TheVariants as op

-- The program whose bodies these are, the tree that stands at each place, the name of each number of a local, and how many places those
-- of the bodies are. The bodies stand first, and a lone text behind all that is theirs.
pub record Code : Type 0 where
  pub program : Checked
  pub nodes : List Node
  pub names : Names
  pub kept : ℕ

-- ---- names of locals

-- A number without a name stands for itself, as no text can: each entry of a name is less than 256.
abbrev pub name_or : Option Name → ℕ → Name
name_or None id = (256 + id) ∷ []
name_or (Some name) id = name

abbrev pub name_of : Names → ℕ → Name
name_of names id = name_or (slice_get names id) id

-- two numbers never have one name
abbrev pub IsOneToOne : Names → Type 0
IsOneToOne names = (a b : ℕ) → name_of names a ≡ name_of names b → a ≡ b

-- ---- nodes

-- what stands at a place where no node is: a list without items
abbrev pub missing : Node
missing = node label.List (record { start = 0; len = 0 }) none

abbrev pub node_or : Option Node → Node
node_or None = missing
node_or (Some t) = t

-- the tree at a place
abbrev pub node_at : Code → ℕ → Node
node_at c i = node_or (slice_get c.nodes i)

-- a text as it is written
abbrev pub written : Label → Case
written (label.Text bytes) = Constant (PlainWords bytes)
written other = Nothing

abbrev pub case_of_text : Option Bytes → Case
case_of_text None = Nothing
case_of_text (Some bytes) = Constant (PlainWords bytes)

-- the case that a resolved node of a label says; only that of a text looks at the label
abbrev pub case_of_op : Names → Label → Op → Case
case_of_op names l (op.Number count) = Constant (PlainNumber count)
case_of_op names l op.Words = written l
case_of_op names l op.Items = Items
case_of_op names l op.Negation = Negation
case_of_op names l op.Inside = Inside
case_of_op names l op.Statements = Statements
case_of_op names l (op.Local id) = Local (name_of names id)
case_of_op names l (op.Global slot) = Global slot
case_of_op names l (op.Owned runs slot) = Owned runs slot
case_of_op names l (op.Aside runs which) = Aside runs which
case_of_op names l (op.Procedure index) = Called index
case_of_op names l (op.Word runs breed word) = Word runs breed word
case_of_op names l op.Nothing = Nothing

-- ---- procedures

abbrev pub inputs_of : Option Procedure → Names
inputs_of None = []
inputs_of (Some p) = p.inputs

-- the names of the inputs of the procedure at a place; none where no procedure is
abbrev pub inputs_at : Checked → ℕ → Names
inputs_at p i = inputs_of (slice_get p.declared.procedures i)

-- ---- a code, by which a proof tells such records apart

abbrev pub code_code : Coded Code
code_code = code_by (Checked × (List Node × (Names × ℕ)))
    (coded× checked_code (coded× (coded_list node_code) (coded× (coded_list (coded_list coded_ℕ)) coded_ℕ)))
    (λ c. (c.program, (c.nodes, (c.names, c.kept))))
    (λ c. record { program = c.0; nodes = c.1.0; names = c.1.1.0; kept = c.1.1.1 })
    (λ _. refl)
