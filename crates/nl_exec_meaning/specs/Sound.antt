-- What a checked program and the layout of its variables owe to the machine: each body is a list of statements, a variable of agents and a word
-- that takes a living agent are none of the observer's, and a word's breed is one of the layout, of turtles or of links as the word makes or
-- names them.
use Rattle.std.specs.Prelude.{◌≡◌, ℕ, ⊤, not, IsTrue, Option, Some, slice_get}
use Rattle.nl_words.specs.declared.entry.Kinds.{Kinds}
use Rattle.nl_tree.specs.Tree as tree
use Rattle.nl_tree.specs.Tree.{Node}
use Rattle.nl_tree.specs.Checked.{Checked}
use Rattle.nl_tree.specs.declared.tree.Label.{Label}
use Rattle.nl_tree.specs.declared.tree.Label.TheVariants as label
use Rattle.nl_agents_layout.specs.Nouns.{BreedNumber}
use Rattle.nl_agents_layout.specs.Layouts.{is_turtle_breed, is_link_breed}
use Rattle.nl_agents_layout.specs.declared.layout.Layout.{Layout}
use Rattle.nl_exec_meaning.specs.Acting.{is_breed_or_none, word_breed_fits}
use Rattle.nl_exec_acts.specs.declared.words.Act.{Act}
use Rattle.nl_exec_acts.specs.declared.words.Act.TheVariants as act
use Rattle.nl_exec_meaning.specs.declared.words.Built.{Built}
use Rattle.nl_exec_meaning.specs.declared.words.Built.TheVariants as built
use Rattle.nl_exec_meaning.specs.declared.words.Control.TheVariants as control
use Rattle.nl_exec_meaning.specs.declared.words.Making.{Making}
use Rattle.nl_exec_meaning.specs.declared.words.Making.TheVariants as making
use Rattle.nl_exec_meaning.specs.declared.words.Spread.TheVariants as spread
use Rattle.nl_exec_meaning.specs.Cases.{Case, case_of}
use Rattle.nl_exec_meaning.specs.Cases as case

-- a query's breed is one of the layout
abbrev pub ActStands : Layout → Act → Option BreedNumber → Type 0
ActStands layout (act.Query which) breed = IsTrue (word_breed_fits layout which breed)
ActStands layout other breed = ⊤

-- what is born is of a breed of turtles, and what is tied is of one of links; of all these words the observer runs `create-turtles` and its
-- forms alone
abbrev pub MakingStands : Layout → Kinds → Option BreedNumber → Making → Type 0
MakingStands layout runs breed (making.Create ordered) = IsTrue (is_breed_or_none (is_turtle_breed layout) breed)
MakingStands layout runs breed making.Hatch = IsTrue (not runs.observer) × IsTrue (is_breed_or_none (is_turtle_breed layout) breed)
MakingStands layout runs breed making.Sprout = IsTrue (not runs.observer) × IsTrue (is_breed_or_none (is_turtle_breed layout) breed)
MakingStands layout runs breed (making.Link way one) = IsTrue (not runs.observer) × IsTrue (is_breed_or_none (is_link_breed layout) breed)

abbrev pub WordStands : Layout → Kinds → Option BreedNumber → Built → Type 0
WordStands layout runs breed (built.Control control.Die) = IsTrue (not runs.observer)
WordStands layout runs breed (built.Spread (spread.Climb up four)) = IsTrue (not runs.observer)
WordStands layout runs breed (built.Making which) = MakingStands layout runs breed which
WordStands layout runs breed (built.Act which) = ActStands layout which breed
WordStands layout runs breed word = ⊤

abbrev pub CaseStands : Layout → Case → Type 0
CaseStands layout (case.Word runs breed word) = WordStands layout runs breed word
CaseStands layout (case.Owned runs slot) = IsTrue (not runs.observer)
CaseStands layout (case.Aside runs which) = IsTrue (not runs.observer)
CaseStands layout other = ⊤

pub record IsSound (p : Checked) (layout : Layout) : Type 0 where
  pub bodies : (i : ℕ) (t : Node) → slice_get p.bodies i ≡ Some t → tree.label t ≡ label.Commands
  pub words : (l : Label) → CaseStands layout (case_of p.declared l)
