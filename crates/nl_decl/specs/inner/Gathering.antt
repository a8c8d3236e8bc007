-- What the parts of the gathering owe to each other.
use Rattle.std.specs.Prelude.{◌≡◌, ℕ, ◌+◌, List, [], ◌∷◌, ◌++◌, Option, Some, None}
use Rattle.nl_fixed.specs.Nouns.{Names}
use Rattle.nl_tree.specs.declared.declared.Breed.{Breed}
use Rattle.nl_decl_outline.specs.declared.declaration.Owner.{Owner}
use Rattle.nl_decl_outline.specs.declared.declaration.Owner.TheVariants.{AllTurtles, AllPatches, AllLinks, BreedAt}
use Rattle.nl_decl_outline.specs.declared.declaration.Declaration.{Declaration}
use Rattle.nl_decl_outline.specs.declared.declaration.Declaration.TheVariants as declaration
use Rattle.nl_decl.specs.Claims.{breed_with}
use Rattle.nl_decl.specs.Gathered.{owned_in}

-- the breeds without their variables
abbrev pub bare_breeds : List Declaration → List Breed
bare_breeds [] = []
bare_breeds (declaration.Breed s plural singular ∷ ds) = breed_with s plural singular [] ∷ bare_breeds ds
bare_breeds (declaration.Globals names ∷ ds) = bare_breeds ds
bare_breeds (declaration.Own o names ∷ ds) = bare_breeds ds
bare_breeds (declaration.Procedure reporter name inputs tokens ∷ ds) = bare_breeds ds

abbrev pub with_names : Breed → Names → Breed
with_names b names = record { plural = b.plural; singular = b.singular; link = b.link; directed = b.directed; own = b.own ++ names }

-- the breeds, of which the first has a number, with the variables that these declare as well
abbrev pub with_owned : ℕ → List Declaration → List Breed → List Breed
with_owned n ds [] = []
with_owned n ds (b ∷ bs) = with_names b (owned_in (BreedAt n) ds) ∷ with_owned (n + 1) ds bs

abbrev pub breed_at : Owner → Option ℕ
breed_at (BreedAt n) = Some n
breed_at AllTurtles = None
breed_at AllPatches = None
breed_at AllLinks = None

-- the breeds have got the variables of this declaration, whatever declarations follow
abbrev pub Gives : Declaration → List Breed → List Breed → Type 0
Gives d old new = (ds : List Declaration) → with_owned 0 (d ∷ ds) old ≡ with_owned 0 ds new
