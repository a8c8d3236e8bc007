-- Which names are declared twice.
-- That a name is declared once is the rule of the NetLogo Programming Guide; the exceptions, and the place at which a name that is declared twice
-- is told, are this project's own choice.
use Rattle.std.specs.Prelude.{ℕ, ◌+◌, ◌==◌, Bool, true, false, not, ◌&&◌, ◌||◌, if◌then◌else◌, List, [], ◌∷◌, ◌++◌, Option, Some, None, map, bytes_eq, slice_get}
use Rattle.std.specs.List.{list_any}
use Rattle.std.specs.Option.{is_some}
use Rattle.nl_fixed.specs.Nouns.{Name, Names}
use Rattle.nl_words.specs.Row.{row_named}
use Rattle.nl_words.specs.Rows.{rows}
use Rattle.nl_tree.specs.declared.declared.Breed as tree
use Rattle.nl_tree.specs.Vocabulary.{Pattern, patterns, made_name}
use Rattle.nl_decl_outline.specs.Lengths.{length_of}
use Rattle.nl_decl_outline.specs.declared.declaration.Sort.{Sort}
use Rattle.nl_decl_outline.specs.declared.declaration.Sort.TheVariants as sort
use Rattle.nl_decl_outline.specs.declared.declaration.Owner.{Owner}
use Rattle.nl_decl_outline.specs.declared.declaration.Owner.TheVariants as owner
use Rattle.nl_decl_outline.specs.declared.declaration.Declaration.{Declaration}
use Rattle.nl_decl_outline.specs.declared.declaration.Declaration.TheVariants.{Globals, Own, Breed, Procedure}
use Rattle.nl_decl.specs.declared.claims.Claim.{Claim}
use Rattle.nl_decl.specs.declared.claims.Claim.TheVariants as claim
use Rattle.nl_decl.specs.declared.claims.Claimed.{Claimed}

-- Whether two declarations of one name, in the order of the text, may stand together: a widget and a global; variables of turtles and of
-- links; variables of two breeds; inputs of two procedures.
abbrev pub may_share : Claim → Claim → Bool
may_share claim.Widget claim.Global = true
may_share claim.Turtles claim.Links = true
may_share claim.Turtles (claim.LinkBreed j) = true
may_share claim.Links claim.Turtles = true
may_share claim.Links (claim.TurtleBreed j) = true
may_share (claim.TurtleBreed i) claim.Links = true
may_share (claim.TurtleBreed i) (claim.TurtleBreed j) = not (i == j)
may_share (claim.TurtleBreed i) (claim.LinkBreed j) = true
may_share (claim.LinkBreed i) claim.Turtles = true
may_share (claim.LinkBreed i) (claim.TurtleBreed j) = true
may_share (claim.LinkBreed i) (claim.LinkBreed j) = not (i == j)
may_share (claim.Input i) (claim.Input j) = not (i == j)
may_share earlier later = false

abbrev pub clashes : Claimed → Claimed → Bool
clashes earlier later = bytes_eq earlier.name later.name && not (may_share earlier.claim later.claim)

-- a built-in word has the name, or an earlier declaration that may not stand beside this one
abbrev pub is_taken : List Claimed → Claimed → Bool
is_taken earlier c = is_some (row_named rows c.name) || list_any (λ e. clashes e c) earlier

-- the place of the first of these that is taken, behind earlier ones
abbrev pub first_clash : List Claimed → List Claimed → Option ℕ
first_clash earlier [] = None
first_clash earlier (c ∷ cs) = if is_taken earlier c then Some c.place else first_clash (c ∷ earlier) cs

-- The names that declarations declare, with their places.

-- names one token after another, from a place on
abbrev pub claimed_from : ℕ → Claim → Names → List Claimed
claimed_from at c [] = []
claimed_from at c (n ∷ ns) = record { name = n; claim = c; place = at } ∷ claimed_from (at + 1) c ns

abbrev pub is_of_links : Sort → Bool
is_of_links sort.Turtles = false
is_of_links sort.Directed = true
is_of_links sort.Undirected = true

abbrev pub is_directed : Sort → Bool
is_directed sort.Turtles = false
is_directed sort.Directed = true
is_directed sort.Undirected = false

abbrev pub claim_of_breed : ℕ → Option Sort → Claim
claim_of_breed n None = claim.TurtleBreed n
claim_of_breed n (Some s) = if is_of_links s then claim.LinkBreed n else claim.TurtleBreed n

-- behind breeds of these sorts
abbrev pub claim_of_owner : List Sort → Owner → Claim
claim_of_owner sorts owner.AllTurtles = claim.Turtles
claim_of_owner sorts owner.AllPatches = claim.Patches
claim_of_owner sorts owner.AllLinks = claim.Links
claim_of_owner sorts (owner.BreedAt n) = claim_of_breed n (slice_get sorts n)

abbrev pub breed_with : Sort → Name → Name → Names → tree.Breed
breed_with s plural singular own = record { plural = plural; singular = singular; link = is_of_links s; directed = is_directed s; own = own }

-- a word that a breed makes stands at the token of the name that it is made of
abbrev pub made_claim : ℕ → tree.Breed → Pattern → Claimed
made_claim at b p = record { name = made_name b p; claim = claim.Word; place = if p.plural then at else at + 1 }

abbrev pub made_claims : ℕ → tree.Breed → List Claimed
made_claims at b = map (made_claim at b) (patterns b)

abbrev pub inputs_claims : ℕ → ℕ → Option (Names) → List Claimed
inputs_claims at n None = []
inputs_claims at n (Some names) = claimed_from (at + 1) (claim.Input n) names

-- how many breeds and procedures a declaration adds
abbrev pub sorts_of : Declaration → List Sort
sorts_of (Breed s plural singular) = s ∷ []
sorts_of (Globals names) = []
sorts_of (Own o names) = []
sorts_of (Procedure reporter name inputs tokens) = []

abbrev pub procedures_of : Declaration → ℕ
procedures_of (Procedure reporter name inputs tokens) = 1
procedures_of (Globals names) = 0
procedures_of (Own o names) = 0
procedures_of (Breed s plural singular) = 0

-- a declaration at a place, behind breeds of these sorts and so many procedures
abbrev pub claims_of : List Sort → ℕ → ℕ → Declaration → List Claimed
claims_of sorts n at (Globals names) = claimed_from (at + 2) claim.Global names
claims_of sorts n at (Own o names) = claimed_from (at + 2) (claim_of_owner sorts o) names
claims_of sorts n at (Breed s plural singular) = made_claims (at + 2) (breed_with s plural singular [])
claims_of sorts n at (Procedure reporter name inputs tokens) = record { name = name; claim = claim.Word; place = at + 1 } ∷ inputs_claims (at + 2) n inputs

abbrev pub claims_from : List Sort → ℕ → ℕ → List Declaration → List Claimed
claims_from sorts n at [] = []
claims_from sorts n at (d ∷ ds) = claims_of sorts n at d ++ claims_from (sorts ++ sorts_of d) (n + procedures_of d) (at + length_of d) ds

abbrev pub claims : List Declaration → List Claimed
claims ds = claims_from [] 0 0 ds

abbrev pub widget_claim : Name → Claimed
widget_claim name = record { name = name; claim = claim.Widget; place = 0 }

-- the token of the first name that is declared twice, beside widgets with these names
abbrev pub duplicate_in : Names → List Declaration → Option ℕ
duplicate_in widgets ds = first_clash (map widget_claim widgets) (claims ds)
