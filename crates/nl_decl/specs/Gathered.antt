-- What declarations declare in all.
use Rattle.std.specs.Prelude.{◌≡◌, ℕ, ◌+◌, ◌==◌, Bool, true, false, if◌then◌else◌, List, [], ◌∷◌, ◌++◌, Option}
use Rattle.nl_fixed.specs.Nouns.{Name, Names}
use Rattle.nl_tree.specs.declared.declared.Breed as tree
use Rattle.nl_tree.specs.declared.declared.Procedure as procedure
use Rattle.nl_tree.specs.declared.declared.Declared.{Declared}
use Rattle.nl_decl_outline.specs.declared.declaration.Owner.{Owner}
use Rattle.nl_decl_outline.specs.declared.declaration.Owner.TheVariants.{AllTurtles, AllPatches, AllLinks, BreedAt}
use Rattle.nl_decl_outline.specs.declared.declaration.Declaration.{Declaration}
use Rattle.nl_decl_outline.specs.declared.declaration.Declaration.TheVariants.{Globals, Own, Breed, Procedure}
use Rattle.nl_decl_outline.specs.Lengths.{inputs_length, length_of}
use Rattle.nl_decl_outline.specs.Named.{names_of_inputs}
use Rattle.nl_decl.specs.Claims.{breed_with}

abbrev pub globals_in : List Declaration → Names
globals_in [] = []
globals_in (Globals names ∷ ds) = names ++ globals_in ds
globals_in (Own o names ∷ ds) = globals_in ds
globals_in (Breed s plural singular ∷ ds) = globals_in ds
globals_in (Procedure reporter name inputs tokens ∷ ds) = globals_in ds

abbrev pub same_owner : Owner → Owner → Bool
same_owner AllTurtles AllTurtles = true
same_owner AllPatches AllPatches = true
same_owner AllLinks AllLinks = true
same_owner (BreedAt i) (BreedAt j) = i == j
same_owner o p = false

-- the variables of one owner, in the order of the text
abbrev pub owned_in : Owner → List Declaration → Names
owned_in o [] = []
owned_in o (Own p names ∷ ds) = if same_owner p o then names ++ owned_in o ds else owned_in o ds
owned_in o (Globals names ∷ ds) = owned_in o ds
owned_in o (Breed s plural singular ∷ ds) = owned_in o ds
owned_in o (Procedure reporter name inputs tokens ∷ ds) = owned_in o ds

-- the breeds of these, of which the first has a number, with the variables that all of those declare
abbrev pub breeds_from : ℕ → List Declaration → List Declaration → List tree.Breed
breeds_from n all [] = []
breeds_from n all (Breed s plural singular ∷ ds) = breed_with s plural singular (owned_in (BreedAt n) all) ∷ breeds_from (n + 1) all ds
breeds_from n all (Globals names ∷ ds) = breeds_from n all ds
breeds_from n all (Own o names ∷ ds) = breeds_from n all ds
breeds_from n all (Procedure reporter name inputs tokens ∷ ds) = breeds_from n all ds

abbrev pub breeds_in : List Declaration → List tree.Breed
breeds_in ds = breeds_from 0 ds ds

-- a procedure whose declaration begins at a place: the tokens of its body stand behind its name and inputs
abbrev pub procedure_at : ℕ → Bool → Name → Option (Names) → ℕ → procedure.Procedure
procedure_at at reporter name inputs tokens = record {
  name = name;
  reporter = reporter;
  inputs = names_of_inputs inputs;
  first = at + 2 + inputs_length inputs;
  after = at + 2 + inputs_length inputs + tokens;
}

abbrev pub procedures_from : ℕ → List Declaration → List procedure.Procedure
procedures_from at [] = []
procedures_from at (Procedure reporter name inputs tokens ∷ ds) = procedure_at at reporter name inputs tokens ∷ procedures_from (at + length_of (Procedure reporter name inputs tokens)) ds
procedures_from at (Globals names ∷ ds) = procedures_from (at + length_of (Globals names)) ds
procedures_from at (Own o names ∷ ds) = procedures_from (at + length_of (Own o names)) ds
procedures_from at (Breed s plural singular ∷ ds) = procedures_from (at + length_of (Breed s plural singular)) ds

abbrev pub procedures_in : List Declaration → List procedure.Procedure
procedures_in ds = procedures_from 0 ds

-- the widgets and all that the declarations declare
abbrev pub Gathers : Names → List Declaration → Declared → Type 0
Gathers widgets ds d =
    (d.widgets ≡ widgets)
    × (d.globals ≡ globals_in ds)
    × (d.turtles_own ≡ owned_in AllTurtles ds)
    × (d.patches_own ≡ owned_in AllPatches ds)
    × (d.links_own ≡ owned_in AllLinks ds)
    × (d.breeds ≡ breeds_in ds)
    × (d.procedures ≡ procedures_in ds)
