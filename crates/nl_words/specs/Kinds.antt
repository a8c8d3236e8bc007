-- Kinds of agents.
use Rattle.std.specs.Prelude.{Bool, true, false}
use Rattle.nl_words.specs.declared.entry.Kinds.{Kinds}

-- observer, turtle, patch, link
abbrev pub kinds : Bool → Bool → Bool → Bool → Kinds
kinds observer turtle patch link = record { observer = observer; turtle = turtle; patch = patch; link = link }

abbrev pub none : Kinds
none = kinds false false false false

abbrev pub everyone : Kinds
everyone = kinds true true true true

abbrev pub observers : Kinds
observers = kinds true false false false

abbrev pub turtles : Kinds
turtles = kinds false true false false

abbrev pub patches : Kinds
patches = kinds false false true false

abbrev pub links : Kinds
links = kinds false false false true

abbrev pub turtles_and_patches : Kinds
turtles_and_patches = kinds false true true false

abbrev pub turtles_and_links : Kinds
turtles_and_links = kinds false true false true

abbrev pub agents : Kinds
agents = kinds false true true true

abbrev pub not_links : Kinds
not_links = kinds true true true false
