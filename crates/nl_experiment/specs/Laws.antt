-- What the definitions of experiments mean.
use Rattle.std.specs.Prelude.{◌≡◌, ◌⊎◌, All, IsTrue, List, [], ◌∷◌, length, Ok}
use Rattle.nl_fixed.specs.Nouns.{Bytes}
use Rattle.nl_tree.specs.Checked.{Checked}
use Rattle.nl_tree.specs.Vocabulary.{among}
use Rattle.nl_experiment_fields.specs.Names.{is_of_run}
use Rattle.nl_experiment_fields.specs.declared.fields.Fields.{Fields}
use Rattle.nl_experiment.specs.Plan.{experiment_says}
use Rattle.nl_experiment.specs.Texts.{HasTree, IsFirstBad, LoneText, texts_of}
use Rattle.nl_experiment.specs.Widgets.{names_of, widgets_of}
use Rattle.nl_experiment.specs.declared.faults.PlanFault.{PlanFault}

-- Each name that an experiment sets or varies is one of the run itself, as a bound of its world or its seed, or a widget's. Widgets differ, so a
-- name that stands in both is one of them.
abbrev pub NamesAreWidgets : Type 0
NamesAreWidgets =
    (file : Bytes) (f : Fields) → experiment_says file ≡ Ok f → All (λ name. IsTrue (is_of_run name) ⊎ IsTrue (among name (widgets_of f))) (names_of f)

-- each of these texts has a tree
abbrev pub HaveTrees : Checked → List LoneText → Type 0
HaveTrees p [] = Unit {0}
HaveTrees p (t ∷ ts) = HasTree p t × HaveTrees p ts

-- the texts of an experiment have trees or a first fault beside a program
abbrev pub TextsHaveTreesOrFaults : Type 0
TextsHaveTreesOrFaults =
    (p : Checked) (f : Fields) → length p.bodies ≡ length p.declared.procedures → HaveTrees p (texts_of f) ⊎ ((fault : PlanFault) × IsFirstBad p (texts_of f) fault)

-- and not both
abbrev pub TreesHaveNoFaults : Type 0
TreesHaveNoFaults = (p : Checked) (f : Fields) (fault : PlanFault) → HaveTrees p (texts_of f) → IsFirstBad p (texts_of f) fault → ⊥

-- and they have one first fault at most
abbrev pub FaultsAreUnique : Type 0
FaultsAreUnique = (p : Checked) (f : Fields) (x y : PlanFault) → IsFirstBad p (texts_of f) x → IsFirstBad p (texts_of f) y → x ≡ y
