-- How many tokens declarations have.
use Rattle.std.specs.Prelude.{ℕ, ◌+◌, List, [], ◌∷◌, Option, Some, None, length}
use Rattle.nl_fixed.specs.Nouns.{Names}
use Rattle.nl_decl_outline.specs.declared.declaration.Declaration.{Declaration}
use Rattle.nl_decl_outline.specs.declared.declaration.Declaration.TheVariants.{Globals, Own, Breed, Procedure}

-- inputs, with their brackets
abbrev pub inputs_length : Option Names → ℕ
inputs_length None = 0
inputs_length (Some names) = length names + 2

abbrev pub length_of : Declaration → ℕ
length_of (Globals names) = length names + 3
length_of (Own o names) = length names + 3
length_of (Breed s plural singular) = 5
length_of (Procedure reporter name inputs tokens) = inputs_length inputs + tokens + 3

abbrev pub total_length : List Declaration → ℕ
total_length [] = 0
total_length (d ∷ ds) = length_of d + total_length ds
