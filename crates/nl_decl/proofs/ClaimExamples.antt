-- Names that are declared twice, and the exceptions, at examples.
use Rattle.std.proofs.Common.{◌≡◌, ℕ, false, List, [], ◌∷◌, Some, None, refl, codes}
use Prim.Native.String.{String}
use Rattle.nl_decl_outline.specs.declared.declaration.Sort.TheVariants as sort
use Rattle.nl_decl_outline.specs.declared.declaration.Owner.TheVariants as owner
use Rattle.nl_decl_outline.specs.declared.declaration.Declaration.TheVariants.{Globals, Own, Breed, Procedure}
use Rattle.nl_words.specs.Rows.{rows}
use Rattle.nl_decl.specs.Claims.{duplicate_in}

abbrev one : String → List (List ℕ)
one name = codes name ∷ []

-- a widget and a global; variables of turtles and links; variables of two breeds; inputs of two procedures
exceptions_stand :
    duplicate_in (one "speed") (
    Globals (codes "total" ∷ codes "speed" ∷ [])
    ∷ Breed sort.Turtles (codes "foxes") (codes "fox")
    ∷ Breed sort.Turtles (codes "hares") (codes "hare")
    ∷ Breed sort.Directed (codes "roads") (codes "road")
    ∷ Own owner.AllTurtles (one "energy")
    ∷ Own owner.AllLinks (one "energy")
    ∷ Own (owner.BreedAt 0) (one "age")
    ∷ Own (owner.BreedAt 1) (one "age")
    ∷ Own (owner.BreedAt 2) (one "age")
    ∷ Procedure false (codes "go") (Some (one "x")) 0
    ∷ Procedure false (codes "stay") (Some (one "x")) 0
    ∷ []) ≡ None
unfolding rows
exceptions_stand = refl

-- otherwise the later name is told, by its token
global_twice : duplicate_in [] (Globals (codes "a" ∷ codes "b" ∷ codes "a" ∷ []) ∷ []) ≡ Some 4
unfolding rows
global_twice = refl

built_in_word : duplicate_in [] (Globals (one "count") ∷ []) ≡ Some 2
unfolding rows
built_in_word = refl

word_of_a_breed : duplicate_in [] (Globals (one "is-fox?") ∷ Breed sort.Turtles (codes "foxes") (codes "fox") ∷ []) ≡ Some 7
unfolding rows
word_of_a_breed = refl

singular_is_the_plural : duplicate_in [] (Breed sort.Turtles (codes "foxes") (codes "foxes") ∷ []) ≡ Some 3
unfolding rows
singular_is_the_plural = refl

turtles_own_what_a_breed_owns : duplicate_in [] (Breed sort.Turtles (codes "foxes") (codes "fox") ∷ Own (owner.BreedAt 0) (one "age") ∷ Own owner.AllTurtles (one "age") ∷ []) ≡ Some 11
unfolding rows
turtles_own_what_a_breed_owns = refl

input_is_a_procedure : duplicate_in [] (Procedure false (codes "go") (Some (one "stay")) 3 ∷ Procedure false (codes "stay") None 0 ∷ []) ≡ Some 10
unfolding rows
input_is_a_procedure = refl

widget_is_a_procedure : duplicate_in (one "go") (Procedure false (codes "go") None 0 ∷ []) ≡ Some 1
unfolding rows
widget_is_a_procedure = refl
