-- The nouns of layouts.
use Rattle.std.specs.Prelude.{ℕ, List}

-- under what a variable of agents is kept, whoever owns it; slots of global variables are counted apart
abbrev pub Slot : Type 0
Slot = ℕ

-- slots, ascending
abbrev pub Slots : Type 0
Slots = List Slot

-- the number of a breed: 0 for turtles, or links, of no breed
abbrev pub BreedNumber : Type 0
BreedNumber = ℕ
