-- The size and the depth of a value.
use Rattle.std.specs.Prelude.{ℕ, ◌+◌, max, List, [], ◌∷◌, length}
use Rattle.nl_value.specs.declared.sets.AgentSet.{AgentSet}
use Rattle.nl_value.specs.declared.sets.AgentSet.TheVariants.{Turtles, Breed, Patches, Links, LinkBreed, SomeTurtles, SomePatches, SomeLinks}
use Rattle.nl_value.specs.Plain.{Plain, Plains, PlainNumber, PlainTruth, PlainWords, PlainItems, PlainTurtle, PlainPatch, PlainLink, PlainNobody, PlainSet, no_items, item_then}

-- how many members a set lists
abbrev pub listed : AgentSet → ℕ
listed Turtles = 0
listed (Breed breed) = 0
listed Patches = 0
listed Links = 0
listed (LinkBreed breed) = 0
listed (SomeTurtles numbers) = length numbers
listed (SomePatches numbers) = length numbers
listed (SomeLinks numbers) = length numbers

-- 1, and for a text its bytes, for a list its items' sizes, and for a set its listed members besides
abbrev mutual
  pub size_of : Plain → ℕ
  size_of (PlainNumber count) = 1
  size_of (PlainTruth truth) = 1
  size_of (PlainWords bytes) = 1 + length bytes
  size_of (PlainItems items) = 1 + sizes_of items
  size_of (PlainTurtle turtle) = 1
  size_of (PlainPatch patch) = 1
  size_of (PlainLink link) = 1
  size_of PlainNobody = 1
  size_of (PlainSet set) = 1 + listed set

  pub sizes_of : Plains → ℕ
  sizes_of no_items = 0
  sizes_of (item_then first rest) = size_of first + sizes_of rest

-- 1, and for a list the greatest depth of its items besides
abbrev mutual
  pub depth_of : Plain → ℕ
  depth_of (PlainNumber count) = 1
  depth_of (PlainTruth truth) = 1
  depth_of (PlainWords bytes) = 1
  depth_of (PlainItems items) = 1 + deepest_of items
  depth_of (PlainTurtle turtle) = 1
  depth_of (PlainPatch patch) = 1
  depth_of (PlainLink link) = 1
  depth_of PlainNobody = 1
  depth_of (PlainSet set) = 1

  pub deepest_of : Plains → ℕ
  deepest_of no_items = 0
  deepest_of (item_then first rest) = max (depth_of first) (deepest_of rest)

-- the greatest of numbers, and 0 of none
abbrev pub greatest : List ℕ → ℕ
greatest [] = 0
greatest (n ∷ ns) = max n (greatest ns)
