-- Which names of a tree have a slot.
-- A running program finds the place of a word by its row. The names without a row are those of inputs and of `let`.
use Rattle.std.specs.Prelude.{◌≡◌, ℕ, ◌+◌, Bool, true, false, ◌||◌, ◌⊎◌, if◌then◌else◌, IsTrue, List, [], ◌∷◌, ◌++◌, Option, Some, None, All, length, bytes_eq, codes}
use Rattle.nl_fixed.specs.Nouns.{Name, Names}
use Rattle.nl_tree.specs.declared.tree.Label.{Label}
use Rattle.nl_tree.specs.declared.tree.Label.TheVariants as label
use Rattle.nl_tree.specs.declared.declared.Declared.{Declared}
use Rattle.nl_tree.specs.declared.declared.What.{What}
use Rattle.nl_tree.specs.declared.declared.NamedWhat.{NamedWhat}
use Rattle.nl_tree.specs.declared.declared.What.TheVariants as what
use Rattle.nl_tree.specs.Tree.{Node, node, Nodes, none, more}
use Rattle.nl_tree.specs.Term.{Term}
use Rattle.nl_tree.specs.Vocabulary.{among, term_named, terms, what_named, global_names}
use Rattle.nl_tree.specs.Tokens.{Class, Unknown, Constant, Plain, Named, Prefix, Many, Closing, Command, Let, With, Near, Of, Binary, Arrow, Nowhere, class_of}
use Rattle.nl_tree.specs.Checked.{IsInRange}

-- the name of a node of a word
abbrev pub name_at : Label → Names
name_at (label.Named w) = w ∷ []
name_at (label.Number n) = []
name_at (label.Text bytes) = []
name_at label.List = []
name_at label.Negate = []
name_at label.Paren = []
name_at label.Commands = []
name_at label.Reporter = []
name_at (label.Arrow names) = []

-- the names of all words of a tree, new names among them, in the order of the tree
abbrev mutual
  pub names : Node → Names
  names (node l s ts) = name_at l ++ names_in ts

  pub names_in : Nodes → Names
  names_in none = []
  names_in (more t ts) = names t ++ names_in ts

-- the word is `let`
abbrev pub is_let : Class → Bool
is_let Let = true
is_let Unknown = false
is_let Constant = false
is_let Plain = false
is_let Named = false
is_let (Prefix is) = false
is_let (Many n) = false
is_let (Closing is k) = false
is_let (Command is) = false
is_let With = false
is_let (Near n) = false
is_let Of = false
is_let (Binary l m) = false
is_let Arrow = false
is_let Nowhere = false

abbrev pub top_name : Node → Names
top_name (node l s ts) = name_at l

abbrev pub first_name : Nodes → Names
first_name none = []
first_name (more t ts) = top_name t

-- the names that a node makes: the first part of a `let`, and those of the head of an arrow block
abbrev pub made_at : List Term → Label → Nodes → Names
made_at table (label.Named w) ts = if is_let (class_of (term_named table w)) then first_name ts else []
made_at table (label.Number n) ts = []
made_at table (label.Text bytes) ts = []
made_at table label.List ts = []
made_at table label.Negate ts = []
made_at table label.Paren ts = []
made_at table label.Commands ts = []
made_at table label.Reporter ts = []
made_at table (label.Arrow names) ts = names

-- the names that a tree makes by `let` and in heads
abbrev mutual
  pub made : List Term → Node → Names
  made table (node l s ts) = made_at table l ts ++ made_in table ts

  pub made_in : List Term → Nodes → Names
  made_in table none = []
  made_in table (more t ts) = made table t ++ made_in table ts

-- the word has a row, whose numbers are places in the model
abbrev pub HasSlot : Declared → Name → Type 0
HasSlot d name = (it : What) × ((what_named d name ≡ Some it) × IsInRange d it)

-- each name of the tree has a slot, or is one of these inputs, or one that the tree makes by `let` or in a head
abbrev pub NamesHaveSlots : Declared → Names → Node → Type 0
NamesHaveSlots d inputs t = All (λ name. HasSlot d name ⊎ IsTrue (among name inputs || among name (made (terms d) t))) (names t)

-- The slot of a global variable: that of a widget or global is its number. The run's number has the slot after all of these, and the
-- experiment's name the next one; these two places are this project's own choice.

abbrev pub is_global_what : What → Bool
is_global_what (what.Global n) = true
is_global_what (what.Base code) = false
is_global_what (what.Own n) = false
is_global_what (what.Made n code) = false
is_global_what (what.Procedure n) = false

-- the row is that of a widget or global
abbrev pub is_global : NamedWhat → Bool
is_global r = is_global_what r.what

abbrev pub slot_of : Option What → Option ℕ
slot_of None = None
slot_of (Some (what.Global n)) = Some n
slot_of (Some (what.Base code)) = None
slot_of (Some (what.Own n)) = None
slot_of (Some (what.Made n code)) = None
slot_of (Some (what.Procedure n)) = None

-- the two globals that hold what a run is
abbrev pub run_number : Name
run_number = codes "behaviorspace-run-number"

abbrev pub experiment_name : Name
experiment_name = codes "behaviorspace-experiment-name"

abbrev pub global_slot : Declared → Name → Option ℕ
global_slot d name =
    if bytes_eq name run_number then Some (length (global_names d))
    else (if bytes_eq name experiment_name then Some (length (global_names d) + 1)
    else slot_of (what_named d name))

-- how many slots there are
abbrev pub globals_count : Declared → ℕ
globals_count d = length (global_names d) + 2

-- the name is that of a widget or global, or of what a run is
abbrev pub names_global : Declared → Name → Bool
names_global d name = bytes_eq name run_number || bytes_eq name experiment_name || among name (global_names d)

-- the slot is that of this name and of no other
abbrev pub OwnsSlot : Declared → Name → ℕ → Type 0
OwnsSlot d name slot = (other : Name) → global_slot d other ≡ Some slot → other ≡ name
