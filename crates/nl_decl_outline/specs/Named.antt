-- The names that declarations give.
use Rattle.std.specs.Prelude.{List, [], ◌∷◌, ◌++◌, Option, Some, None}
use Rattle.nl_fixed.specs.Nouns.{Names}
use Rattle.nl_decl_outline.specs.declared.declaration.Declaration.{Declaration}
use Rattle.nl_decl_outline.specs.declared.declaration.Declaration.TheVariants.{Globals, Own, Breed, Procedure}

abbrev pub names_of_inputs : Option Names → Names
names_of_inputs None = []
names_of_inputs (Some names) = names

abbrev pub names_of : Declaration → Names
names_of (Globals names) = names
names_of (Own o names) = names
names_of (Breed s plural singular) = plural ∷ singular ∷ []
names_of (Procedure reporter name inputs tokens) = name ∷ names_of_inputs inputs

-- in the order of the text
abbrev pub names_in : List Declaration → Names
names_in [] = []
names_in (d ∷ ds) = names_of d ++ names_in ds
