-- Which values fit a store, by two tests that the store gives: one of a patch's number and one of a set.
use Rattle.std.specs.Prelude.{ℕ, Bool, true, ◌&&◌}
use Rattle.std.specs.List.{list_all}
use Rattle.nl_value.specs.declared.sets.AgentSet.{AgentSet}
use Rattle.nl_value.specs.declared.sets.AgentSet.TheVariants.{Turtles, Breed, Patches, Links, LinkBreed, SomeTurtles, SomePatches, SomeLinks}
use Rattle.nl_value.specs.Plain.{Plain, Plains, PlainNumber, PlainTruth, PlainWords, PlainItems, PlainTurtle, PlainPatch, PlainLink, PlainNobody, PlainSet, no_items, item_then}

-- numbers, truths, texts, turtles, links and nobody always fit, a patch or a set where the store's test says so, and a list
-- where each item does
abbrev mutual
  pub value_fits : (ℕ → Bool) → (AgentSet → Bool) → Plain → Bool
  value_fits patch set (PlainNumber count) = true
  value_fits patch set (PlainTruth truth) = true
  value_fits patch set (PlainWords bytes) = true
  value_fits patch set (PlainItems items) = values_fit patch set items
  value_fits patch set (PlainTurtle turtle) = true
  value_fits patch set (PlainPatch number) = patch number
  value_fits patch set (PlainLink link) = true
  value_fits patch set PlainNobody = true
  value_fits patch set (PlainSet members) = set members

  pub values_fit : (ℕ → Bool) → (AgentSet → Bool) → Plains → Bool
  values_fit patch set no_items = true
  values_fit patch set (item_then first rest) = value_fits patch set first && values_fit patch set rest

-- a set fits where each patch and each breed that it names passes its test
abbrev pub set_fits_by : (patch turtle_breed link_breed : ℕ → Bool) → AgentSet → Bool
set_fits_by patch turtle_breed link_breed Turtles = true
set_fits_by patch turtle_breed link_breed (Breed breed) = turtle_breed breed
set_fits_by patch turtle_breed link_breed Patches = true
set_fits_by patch turtle_breed link_breed Links = true
set_fits_by patch turtle_breed link_breed (LinkBreed breed) = link_breed breed
set_fits_by patch turtle_breed link_breed (SomeTurtles numbers) = true
set_fits_by patch turtle_breed link_breed (SomePatches numbers) = list_all patch numbers
set_fits_by patch turtle_breed link_breed (SomeLinks numbers) = true
