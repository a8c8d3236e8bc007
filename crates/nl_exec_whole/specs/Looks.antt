-- What each construct looks for among the parts of its node and in the program. Where it isn't there, the meaning of the construct has an error
-- alone to be total; that each node of a text finds it is a law.
use Rattle.std.specs.Prelude.{◌≡◌, ℕ, zero, suc, ◌<◌, Bool, true, false, IsTrue, IsSome, List, [], ◌∷◌, Some, length, slice_get}
use Rattle.nl_fixed.specs.Nouns.{Names}
use Rattle.nl_tree.specs.declared.declared.Declared.{Declared}
use Rattle.nl_tree.specs.declared.declared.Form.{Form}
use Rattle.nl_tree.specs.declared.declared.Procedure.{Procedure}
use Rattle.nl_tree.specs.Context.{Kind, Observer, Turtle, Patch, Link, allows}
use Rattle.nl_tree.specs.Grammar.{IsText}
use Rattle.nl_tree.specs.Tokens.{Token, marked}
use Rattle.nl_tree.specs.Tree as tree
use Rattle.nl_tree.specs.Tree.{Node}
use Rattle.nl_tree.specs.Vocabulary.{global_names, terms}
use Rattle.nl_agents_layout.specs.Layouts.{slots_count}
use Rattle.nl_listops.specs.declared.words.ValueWord.{ValueWord}
use Rattle.nl_listops.specs.declared.words.ValueWord.TheVariants as value
use Rattle.nl_agentset_query.specs.declared.words.Choice.TheVariants as choice
use Rattle.nl_agentset_query.specs.declared.words.Facing.TheVariants as facing
use Rattle.nl_agentset_query.specs.declared.words.LookUp.TheVariants as look_up
use Rattle.nl_agentset_query.specs.declared.words.PatchBy.TheVariants as patch_by
use Rattle.nl_agentset_query.specs.declared.words.QueryWord.{QueryWord}
use Rattle.nl_agentset_query.specs.declared.words.QueryWord.TheVariants as query
use Rattle.nl_agentset_query.specs.declared.words.Standing.TheVariants as standing
use Rattle.nl_exec_acts.specs.declared.words.Act.{Act}
use Rattle.nl_exec_acts.specs.declared.words.Act.TheVariants as act
use Rattle.nl_exec_acts.specs.declared.words.Clock.TheVariants as clock
use Rattle.nl_exec_acts.specs.declared.words.Move.{Move}
use Rattle.nl_exec_acts.specs.declared.words.Move.TheVariants as move
use Rattle.nl_exec_meaning.specs.declared.words.Apart.{Apart}
use Rattle.nl_exec_meaning.specs.declared.words.Apart.TheVariants as apart
use Rattle.nl_exec_meaning.specs.declared.words.Built.{Built}
use Rattle.nl_exec_meaning.specs.declared.words.Built.TheVariants as built
use Rattle.nl_exec_meaning.specs.declared.words.Control.{Control}
use Rattle.nl_exec_meaning.specs.declared.words.Control.TheVariants as control
use Rattle.nl_exec_meaning.specs.declared.words.Over.{Over}
use Rattle.nl_exec_meaning.specs.declared.words.Over.TheVariants as over
use Rattle.nl_exec_meaning.specs.declared.words.Spread.{Spread}
use Rattle.nl_exec_meaning.specs.declared.words.Spread.TheVariants as spread
use Rattle.nl_exec_meaning.specs.Cases.{Case, case_of}
use Rattle.nl_exec_meaning.specs.Cases as case
use Rattle.nl_exec_meaning.specs.Meaning.{name_in}
use Rattle.nl_exec_whole.specs.Parts.{Each}

-- ---- what is looked for among parts

-- a part, the name of a new local, or a variable that is set
pub data Look : Type 0 where
  Part : Look
  NewName : Look
  Variable : Look

abbrev pub so_many : ℕ → List Look
so_many zero = []
so_many (suc n) = Part ∷ so_many n

-- The inputs that an act looks at. A word that takes any number looks at none that may be missing.
abbrev pub inputs_of_value : ValueWord → ℕ
inputs_of_value (value.Fixed which) = 0
inputs_of_value (value.OfNumber which) = 1
inputs_of_value (value.OfNumbers which) = 2
inputs_of_value value.Not = 1
inputs_of_value (value.OfTruths which) = 2
inputs_of_value (value.Compare which) = 2
inputs_of_value (value.IsKind which) = 1
inputs_of_value (value.OfMany which) = 0
inputs_of_value (value.OfList which) = 1
inputs_of_value (value.PutAtEnd which) = 2
inputs_of_value (value.OfSeries which) = 1
inputs_of_value (value.AtPlace which) = 2
inputs_of_value (value.PutAtPlace which) = 3
inputs_of_value (value.Search which) = 2
inputs_of_value value.Sublist = 3
inputs_of_value value.Substring = 3
inputs_of_value (value.Statistic which) = 1
inputs_of_value value.ShadeOf = 2
inputs_of_value value.ScaleColor = 4
inputs_of_value (value.Draws which) = 1

abbrev pub inputs_of_query : QueryWord → ℕ
inputs_of_query (query.Whole which) = 0
inputs_of_query (query.LookUp look_up.Turtle) = 1
inputs_of_query (query.LookUp look_up.Patch) = 2
inputs_of_query (query.LookUp look_up.Link) = 2
inputs_of_query (query.OfBreed which) = 1
inputs_of_query (query.OfSet which) = 1
inputs_of_query (query.Union which) = 0
inputs_of_query (query.Choice choice.OneOf) = 1
inputs_of_query (query.Choice choice.NOf) = 2
inputs_of_query (query.Choice choice.UpToNOf) = 2
inputs_of_query (query.Standing standing.On) = 1
inputs_of_query (query.Standing standing.Here) = 0
inputs_of_query (query.Standing standing.At) = 2
inputs_of_query (query.Standing standing.AtPoints) = 2
inputs_of_query (query.Standing standing.InRadius) = 2
inputs_of_query (query.Standing standing.InCone) = 3
inputs_of_query (query.Around which) = 0
inputs_of_query (query.PatchBy patch_by.Here) = 0
inputs_of_query (query.PatchBy patch_by.Ahead) = 1
inputs_of_query (query.PatchBy which) = 2
inputs_of_query (query.Facing facing.CanMove) = 1
inputs_of_query (query.Facing facing.Dx) = 0
inputs_of_query (query.Facing facing.Dy) = 0
inputs_of_query (query.Measure which) = 1
inputs_of_query (query.MeasureXy which) = 2
inputs_of_query (query.OfEnds which) = 0
inputs_of_query (query.MyLinks which) = 0
inputs_of_query (query.Neighbors which) = 0
inputs_of_query (query.IsNeighbor which) = 1
inputs_of_query (query.LinkTo which) = 1

abbrev pub inputs_of_move : Move → ℕ
inputs_of_move move.Home = 0
inputs_of_move move.SetXy = 2
inputs_of_move move.FaceXy = 2
inputs_of_move which = 1

abbrev pub inputs_of_act : Act → ℕ
inputs_of_act (act.Value which) = inputs_of_value which
inputs_of_act (act.Query which) = inputs_of_query which
inputs_of_act (act.IsLink directed) = 1
inputs_of_act (act.Move which) = inputs_of_move which
inputs_of_act (act.Clock clock.AdvanceBy) = 1
inputs_of_act act.Seed = 1
inputs_of_act other = 0

abbrev pub looks_of_control : Control → List Look
looks_of_control control.Let = NewName ∷ Part ∷ []
looks_of_control control.Set = Variable ∷ Part ∷ []
looks_of_control control.And = so_many 2
looks_of_control control.Or = so_many 2
looks_of_control control.If = so_many 2
looks_of_control control.IfElse = so_many 3
looks_of_control control.IfElseValue = so_many 3
looks_of_control control.Repeat = so_many 2
looks_of_control control.While = so_many 2
looks_of_control control.Loop = so_many 1
looks_of_control control.Report = so_many 1
looks_of_control control.Forward = so_many 1
looks_of_control control.Back = so_many 1
looks_of_control control.Stop = []
looks_of_control control.Die = []
looks_of_control control.ClearGlobals = []
looks_of_control control.ClearAll = []

abbrev pub looks_of_over : Over → List Look
looks_of_over over.MaxNOf = so_many 3
looks_of_over over.MinNOf = so_many 3
looks_of_over word = so_many 2

abbrev pub looks_of_spread : Spread → List Look
looks_of_spread (spread.Diffuse four) = Variable ∷ Part ∷ []
looks_of_spread (spread.Climb up four) = Variable ∷ []

-- A word with an arrow block has it and a list or another value at least; further lists are all that there are. A block of new agents may be missing.
abbrev pub looks_of_built : Built → List Look
looks_of_built (built.Control word) = looks_of_control word
looks_of_built (built.Over word) = looks_of_over word
looks_of_built (built.Arrow word) = so_many 2
looks_of_built (built.Making word) = so_many 1
looks_of_built (built.Spread word) = looks_of_spread word
looks_of_built (built.Act which) = so_many (inputs_of_act which)

abbrev pub looks_of : Case → List Look
looks_of case.Negation = so_many 1
looks_of case.Inside = so_many 1
looks_of (case.Word runs breed word) = looks_of_built word
looks_of other = []

-- ---- and found there

-- `set` sets it, or has an error of its own
abbrev pub is_variable_case : Case → Bool
is_variable_case (case.Local name) = true
is_variable_case (case.Global slot) = true
is_variable_case (case.Owned runs slot) = true
is_variable_case (case.Aside runs which) = true
is_variable_case other = false

abbrev pub IsFound : Declared → Look → Node → Type 0
IsFound d Part t = Unit {0}
IsFound d NewName t = IsSome (name_in (case_of d (tree.label t)))
IsFound d Variable t = IsTrue (is_variable_case (case_of d (tree.label t)))

abbrev pub AreFound : Declared → List Look → List Node → Type 0
AreFound d [] ts = Unit {0}
AreFound d (l ∷ ls) [] = ⊥
AreFound d (l ∷ ls) (t ∷ ts) = IsFound d l t × AreFound d ls ts

-- ---- what is looked for in the program

-- agents of a kind have what is kept apart
abbrev pub has_apart : Kind → Apart → Bool
has_apart Observer which = false
has_apart Turtle apart.End1 = false
has_apart Turtle apart.End2 = false
has_apart Turtle which = true
has_apart Patch apart.Pxcor = true
has_apart Patch apart.Pycor = true
has_apart Patch which = false
has_apart Link apart.Breed = true
has_apart Link apart.End1 = true
has_apart Link apart.End2 = true
has_apart Link which = false

-- a procedure with as many inputs as there are parts; a slot that the program has; the variable of each agent that may run its word
abbrev pub IsThere : Declared → Case → ℕ → Type 0
IsThere d (case.Procedure index) count = (p : Procedure) × ((slice_get d.procedures index ≡ Some p) × (count ≡ length p.inputs))
IsThere d (case.Global slot) count = slot < length (global_names d)
IsThere d (case.Owned runs slot) count = slot < slots_count d
IsThere d (case.Aside runs which) count = (kind : Kind) → IsTrue (allows runs kind) → IsTrue (has_apart kind which)
IsThere d other count = Unit {0}

-- ---- all of a node

abbrev pub is_nothing : Case → Bool
is_nothing case.Nothing = true
is_nothing other = false

pub record IsWhole (d : Declared) (t : Node) : Type 0 where
  pub something : is_nothing (case_of d (tree.label t)) ≡ false
  pub parts : AreFound d (looks_of (case_of d (tree.label t))) (tree.parts t)
  pub program : IsThere d (case_of d (tree.label t)) (length (tree.parts t))

-- Each node of a text is a construct, and finds what that looks for.
abbrev pub NodesAreWhole : Type 0
NodesAreWhole =
    (d : Declared) (form : Form) (names : Names) (ts : List Token) (t : Node) → IsText form names (marked (terms d) ts) t
    → Each (IsWhole d) t
