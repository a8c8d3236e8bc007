-- What is true of an arena of resolved nodes: each item is the node of the tree in its place.
use Rattle.std.specs.Prelude.{◌≡◌, ℕ, ⊤, ◌+◌, ◌<◌, ◌≤◌, ◌^◌, List, Some, map, length, take, drop, slice_get, slice_index}
use Rattle.std.specs.Borrow.{Bor}
use Rattle.nl_fixed.specs.Nouns.{Bytes, Name, Names}
use Rattle.nl_tree.specs.Tree.{Node, label, span, parts}
use Rattle.nl_tree.specs.Views.{plain}
use Rattle.nl_tree.specs.Checked.{Checked}
use Rattle.nl_tree.specs.declared.declared.Declared.{Declared}
use Rattle.nl_tree.specs.declared.declared.Procedure.{Procedure}
use Rattle.nl_tree.specs.declared.tree.Label.{Label}
use Rattle.nl_tree.specs.declared.tree.Tree.{Tree}
use Rattle.nl_exec_meaning.specs.Cases.{Case, case_of}
use Rattle.nl_exec_meaning.specs.Code.{name_of, case_of_op}
use Rattle.nl_exec_meaning.specs.Arrows.{head_of}
use Rattle.nl_exec_meaning.specs.declared.item.Op.{Op}
use Rattle.nl_exec_meaning.specs.declared.item.Op.TheVariants as op
use Rattle.nl_exec_meaning.specs.declared.item.Item.{Item}

-- the first list is the beginning of the second
abbrev pub Grows : {A : Type 0} → List A → List A → Type 0
Grows old new = take (length old) new ≡ old

-- names and trees as they are kept
abbrev pub names_seen : List (Bor Bytes) → Names
names_seen ns = map (λ n. n.now) ns

abbrev pub trees_seen : List (Bor Tree) → List Node
trees_seen ts = map (λ t. plain t.now) ts

-- each name has one number, and is a text
abbrev pub AreNames : Names → Type 0
AreNames names =
    ((i j : ℕ) (n : Name) → slice_get names i ≡ Some n → slice_get names j ≡ Some n → i ≡ j)
    × ((i : ℕ) (n : Name) → slice_get names i ≡ Some n → slice_index n 0 < 256)

-- a local's number has a name
abbrev pub IsNumbered : Names → Op → Type 0
IsNumbered names (op.Local id) = id < length names
IsNumbered names other = ⊤

-- an op says this case, whatever the label and the names of locals are
abbrev pub Says : Op → Case → Type 0
Says it c = (names : Names) (l : Label) → (case_of_op names l it ≡ c) × IsNumbered names it

-- an item is the resolved node of this tree, whose parts stand side by side
pub record IsItem (d : Declared) (names : Names) (ts : List Node) (it : Item) (t : Node) : Type 0 where
  pub op : case_of_op names (label t) it.op ≡ case_of d (label t)
  pub numbered : IsNumbered names it.op
  pub place : it.span ≡ span t
  pub within : it.first + it.count ≤ length ts
  pub fits : it.first + it.count < 2 ^ 32
  pub parts : take it.count (drop it.first ts) ≡ parts t

-- Each item is the resolved node of the tree in its place. There may be more trees than items while code is made.
abbrev pub AreItems : Declared → Names → List Node → List Item → Type 0
AreItems d names ts items = (i : ℕ) (it : Item) (t : Node) → slice_get items i ≡ Some it → slice_get ts i ≡ Some t → IsItem d names ts it t

-- these are the numbers of a procedure's inputs
abbrev pub IsInputs : Names → List ℕ → Names → Type 0
IsInputs names ids inputs = (map (name_of names) ids ≡ inputs) × ((k id : ℕ) → slice_get ids k ≡ Some id → id < length names)

abbrev pub AreInputs : Names → List (List ℕ) → List Procedure → Type 0
AreInputs names ids ps = (length ids ≡ length ps) × ((i : ℕ) (is : List ℕ) (p : Procedure) → slice_get ids i ≡ Some is → slice_get ps i ≡ Some p → IsInputs names is p.inputs)

-- these are the numbers of the names that the head of each tree has, where it has one
abbrev pub AreHeads : Names → List (List ℕ) → List Node → Type 0
AreHeads names heads ts = (length heads ≡ length ts) × ((i : ℕ) (ids : List ℕ) (t : Node) → slice_get heads i ≡ Some ids → slice_get ts i ≡ Some t → IsInputs names ids (head_of t))

-- An arena that is right: an item and the numbers of a head for each tree, those that are kept don't need the others, and first stand the bodies.
pub record IsArena (p : Checked) (names : Names) (ts : List Node) (items : List Item) (ids hs : List (List ℕ)) (kept : ℕ) : Type 0 where
  pub right : AreItems p.declared names ts items
  pub full : length items ≡ length ts
  pub least : AreItems p.declared names (take kept ts) (take kept items)
  pub within : kept ≤ length ts
  pub bodies : Grows p.bodies (take kept ts)
  pub many : length p.bodies ≡ length p.declared.procedures
  pub inputs : AreInputs names ids p.declared.procedures
  pub heads : AreHeads names hs ts
  pub apart : AreNames names
