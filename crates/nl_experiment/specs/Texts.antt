-- The texts of an experiment beside a program: their trees, or the first fault among them, key by key.
use Rattle.std.specs.Prelude.{◌≡◌, ◌⊎◌, ℕ, ◌+◌, List, [], ◌∷◌, ◌++◌, codes, Option, Some, None}
use Rattle.std.specs.Fmt.{decimal}
use Rattle.nl_fixed.specs.Nouns.{Bytes, Texts}
use Rattle.nl_tree.specs.Checked.{Checked}
use Rattle.nl_tree.specs.Slots.{NamesHaveSlots}
use Rattle.nl_tree.specs.Tree.{Node}
use Rattle.nl_tree.specs.Views.{plain}
use Rattle.nl_tree.specs.declared.declared.Form.{Form}
use Rattle.nl_tree.specs.declared.declared.Form.TheVariants as form
use Rattle.nl_tree.specs.declared.tree.Tree.{Tree}
use Rattle.nl_check_model.specs.LoneText.{IsInner, IsLoneTree}
use Rattle.nl_check_model.specs.declared.lone_faults.Inner.{Inner}
use Rattle.nl_experiment_keys.specs.declared.faults.PlanKind.TheVariants.{BadText}
use Rattle.nl_experiment_fields.specs.Keys.{setup_key, go_key, until_key, measure_when_key}
use Rattle.nl_experiment_fields.specs.declared.fields.Fields.{Fields}
use Rattle.nl_experiment.specs.declared.faults.PlanFault.{PlanFault}
use Rattle.nl_experiment.specs.declared.faults.PlanRefusal.{PlanRefusal}
use Rattle.nl_experiment.specs.declared.texts.Texts as declared

-- ---- the texts

-- a text with its key and its form
pub record LoneText : Type 0 where
  pub key : Bytes
  pub form : Form
  pub text : Bytes

abbrev pub lone : Bytes → Form → Bytes → LoneText
lone key form text = record { key = key; form = form; text = text }

-- metrics count from 1
abbrev pub in_metric : ℕ → Bytes
in_metric number = codes "metric " ++ decimal number

abbrev pub metric : ℕ → Bytes → LoneText
metric number text = lone (in_metric number) form.Reporter text

abbrev pub metrics_from : ℕ → Texts → List LoneText
metrics_from number [] = []
metrics_from number (text ∷ texts) = metric number text ∷ metrics_from (number + 1) texts

abbrev pub until_texts : Option Bytes → List LoneText
until_texts None = []
until_texts (Some text) = lone until_key form.Reporter text ∷ []

abbrev pub when_texts : Option Bytes → List LoneText
when_texts None = []
when_texts (Some text) = lone measure_when_key form.Reporter text ∷ []

-- in the order in which their faults are told
abbrev pub texts_of : Fields → List LoneText
texts_of f =
    lone setup_key.name form.Commands f.setup ∷ lone go_key.name form.Commands f.go
    ∷ (until_texts f.until ++ (when_texts f.measure_when ++ metrics_from 1 f.metrics))

-- ---- their trees

-- the tree of a text that the observer may run, in which each name has a slot
pub record IsTreeFor (p : Checked) (t : LoneText) (tree : Node) : Type 0 where
  pub right : IsLoneTree p t.form t.text tree
  pub slots : NamesHaveSlots p.declared [] tree

-- each text has its tree
abbrev pub AreTreesFor : Checked → List LoneText → List Node → Type 0
AreTreesFor p [] [] = Unit {0}
AreTreesFor p [] (tree ∷ trees) = ⊥
AreTreesFor p (t ∷ ts) [] = ⊥
AreTreesFor p (t ∷ ts) (tree ∷ trees) = IsTreeFor p t tree × AreTreesFor p ts trees

abbrev pub maybe_trees : Option Tree → List Node
maybe_trees None = []
maybe_trees (Some tree) = plain tree ∷ []

abbrev pub trees_of : declared.Texts → List Node
trees_of texts = plain texts.setup ∷ plain texts.go ∷ (maybe_trees texts.until ++ (maybe_trees texts.measure_when ++ texts.metrics))

-- ---- their first fault

-- a fault of a text, told at its key
pub record IsBadText (p : Checked) (t : LoneText) (fault : PlanFault) : Type 0 where
  pub inner : Inner
  pub bad : IsInner p t.form t.text inner
  pub told : fault ≡ record { kind = BadText; key = t.key; inner = Some inner }

abbrev pub HasTree : Checked → LoneText → Type 0
HasTree p t = (tree : Node) × IsLoneTree p t.form t.text tree

-- that of the first text, or, where it has a tree, the first of the others
abbrev pub IsFirstBad : Checked → List LoneText → PlanFault → Type 0
IsFirstBad p [] fault = ⊥
IsFirstBad p (t ∷ ts) fault = IsBadText p t fault ⊎ (HasTree p t × IsFirstBad p ts fault)

-- a refusal is the fault of the text at a key, or want of memory
abbrev pub TellsText : Bytes → Inner → PlanRefusal → Type 0
TellsText key inner (PlanRefusal.Fault fault) = fault ≡ record { kind = BadText; key = key; inner = Some inner }
TellsText key inner PlanRefusal.NoMemory = Unit {0}

-- a refusal is the first fault of the texts, or want of memory
abbrev pub RefusesTexts : Checked → List LoneText → PlanRefusal → Type 0
RefusesTexts p ts (PlanRefusal.Fault fault) = IsFirstBad p ts fault
RefusesTexts p ts PlanRefusal.NoMemory = Unit {0}
