-- How often declarations claim a name in each way: as often as they declare it so.
use Rattle.std.proofs.Common.{◌≡◌, ℕ, zero, suc, ◌+◌, ◌<◌, ◌≤◌, ◌==◌, Bool, true, false, not, ◌&&◌, List, [], ◌∷◌, ◌++◌, map, length, Option, Some, None, bytes_eq, get_or, sym, ap, subst, ◌∙◌, refl, arith, if◌then◌else◌, slice_get, append_assoc, length-append, codes}
use Rattle.std.proofs.lemmas.Bool.{eqb-true, eq-eqb, ne_eqb}
use Rattle.std.proofs.lemmas.Option.{slice_get-get_or}
use Rattle.nl_tree.specs.declared.declared.Breed.{Breed}
use Rattle.nl_tree.specs.declared.declared.Procedure.{Procedure}
use Rattle.nl_tree.specs.Tokens.{Lexeme}
use Rattle.nl_tree.specs.Vocabulary.{Pattern, patterns, made_name}
use Rattle.nl_decl_outline.specs.declared.declaration.Sort.{Sort}
use Rattle.nl_decl_outline.specs.declared.declaration.Sort.TheVariants as sort
use Rattle.nl_decl_outline.specs.declared.declaration.Owner.{Owner}
use Rattle.nl_decl_outline.specs.declared.declaration.Owner.TheVariants as owner
use Rattle.nl_decl_outline.specs.declared.declaration.Declaration.{Declaration}
use Rattle.nl_decl_outline.specs.declared.declaration.Declaration.TheVariants as declaration
use Rattle.nl_decl.specs.declared.claims.Claim.{Claim}
use Rattle.nl_decl.specs.declared.claims.Claim.TheVariants as claim
use Rattle.nl_decl.specs.declared.claims.Claimed.{Claimed}
use Rattle.nl_decl_outline.specs.Declarations.{plural_of, owning, one_later, breed_owning, owner_of_breed, owner_by, SpellAll}
use Rattle.nl_decl_outline.specs.Lengths.{length_of}
use Rattle.nl_decl.specs.Claims.{claimed_from, is_of_links, claim_of_breed, claim_of_owner, breed_with, made_claim, inputs_claims, sorts_of, procedures_of, claims_of, claims_from}
use Rattle.nl_decl_outline.specs.Named.{names_of_inputs}
use Rattle.nl_decl.specs.Gathered.{globals_in, same_owner, owned_in, breeds_from, procedures_from}
use Rattle.nl_decl.proofs.Often.{tick, often, often-append}
use Rattle.nl_decl.proofs.Clashes.{same_claim, same_claim-is, other_claim, claimed, claimed-append}

abbrev pub sorts_in : List Declaration → List Sort
sorts_in [] = []
sorts_in (d ∷ ds) = sorts_of d ++ sorts_in ds

pub self_claim : (c : Claim) → same_claim c c ≡ true
self_claim claim.Word = refl
self_claim claim.Widget = refl
self_claim claim.Global = refl
self_claim claim.Turtles = refl
self_claim claim.Patches = refl
self_claim claim.Links = refl
self_claim (claim.TurtleBreed i) = eq-eqb i i refl
self_claim (claim.LinkBreed i) = eq-eqb i i refl
self_claim (claim.Input i) = eq-eqb i i refl

-- names that are declared in one way are declared so as often as they stand in the list
pub claimed_names : (c : Claim) (n : List ℕ) (at : ℕ) (names : List (List ℕ)) → claimed c n (claimed_from at c names) ≡ often n names
claimed_names c n at [] = refl
claimed_names c n at (x ∷ names) = omega (arith, ap (λ b. tick (b && bytes_eq x n)) (self_claim c), claimed_names c n (at + 1) names)

-- and not at all in another way
pub other_names : (c e : Claim) (n : List ℕ) (at : ℕ) (names : List (List ℕ)) → same_claim c e ≡ false → claimed c n (claimed_from at e names) ≡ 0
other_names c e n at [] h = refl
other_names c e n at (x ∷ names) h = omega (arith, other_claim (same_claim c e) (bytes_eq x n) h, other_names c e n (at + 1) names h)

pub other_made : (c : Claim) (n : List ℕ) (at : ℕ) (b : Breed) (ps : List Pattern) → same_claim c claim.Word ≡ false → claimed c n (map (made_claim at b) ps) ≡ 0
other_made c n at b [] h = refl
other_made c n at b (p ∷ ps) h = omega (arith, other_claim (same_claim c claim.Word) (bytes_eq (made_name b p) n) h, other_made c n at b ps h)

pub other_inputs : (c : Claim) (n : List ℕ) (at k : ℕ) (inputs : Option (List (List ℕ))) → same_claim c (claim.Input k) ≡ false → claimed c n (inputs_claims at k inputs) ≡ 0
other_inputs c n at k None h = refl
other_inputs c n at k (Some names) h = other_names c (claim.Input k) n (at + 1) names h

other_procedure : (c : Claim) (n name : List ℕ) (at place k : ℕ) (inputs : Option (List (List ℕ))) → same_claim c claim.Word ≡ false → same_claim c (claim.Input k) ≡ false →
    claimed c n (record { name = name; claim = claim.Word; place = place } ∷ inputs_claims at k inputs) ≡ 0
other_procedure c n name at place k inputs word input = omega (arith, other_claim (same_claim c claim.Word) (bytes_eq name n) word, other_inputs c n at k inputs input)

-- variables that agents own
abbrev pub owns : Claim → Bool
owns claim.Turtles = true
owns claim.Patches = true
owns claim.Links = true
owns (claim.TurtleBreed j) = true
owns (claim.LinkBreed j) = true
owns c = false

breed_owns : (j : ℕ) (s : Option Sort) → owns (claim_of_breed j s) ≡ true
breed_owns j None = refl
breed_owns j (Some sort.Turtles) = refl
breed_owns j (Some sort.Directed) = refl
breed_owns j (Some sort.Undirected) = refl

owner_owns : (sorts : List Sort) (o : Owner) → owns (claim_of_owner sorts o) ≡ true
owner_owns sorts owner.AllTurtles = refl
owner_owns sorts owner.AllPatches = refl
owner_owns sorts owner.AllLinks = refl
owner_owns sorts (owner.BreedAt j) = breed_owns j (slice_get sorts j)

-- ways to declare that a test tells apart are two
unlike : (test : Claim → Bool) (c e : Claim) (b : Bool) → same_claim c e ≡ b → test c ≡ false → test e ≡ true → b ≡ false
unlike test c e true same none some = let it : test e ≡ false = subst (λ x. test x ≡ false) (same_claim-is c e same) none in cc
unlike test c e false same none some = refl

pub owned_otherwise : (c : Claim) (sorts : List Sort) (o : Owner) → owns c ≡ false → same_claim c (claim_of_owner sorts o) ≡ false
owned_otherwise c sorts o none = unlike owns c (claim_of_owner sorts o) (same_claim c (claim_of_owner sorts o)) refl none (owner_owns sorts o)

-- global variables
pub globals_claimed : (n : List ℕ) (sorts : List Sort) (k at : ℕ) (ds : List Declaration) → claimed claim.Global n (claims_from sorts k at ds) ≡ often n (globals_in ds)
globals_claimed n sorts k at [] = refl
globals_claimed n sorts k at (declaration.Globals names ∷ ds) =
    let d = declaration.Globals names in
    let rest = claims_from (sorts ++ sorts_of d) (k + procedures_of d) (at + length_of d) ds in
    omega (arith, often-append n names (globals_in ds), claimed-append claim.Global n (claims_of sorts k at d) rest, claimed_names claim.Global n (at + 2) names, globals_claimed n (sorts ++ sorts_of d) (k + procedures_of d) (at + length_of d) ds)
globals_claimed n sorts k at (declaration.Own o names ∷ ds) =
    let d = declaration.Own o names in
    let rest = claims_from (sorts ++ sorts_of d) (k + procedures_of d) (at + length_of d) ds in
    let here = other_names claim.Global (claim_of_owner sorts o) n (at + 2) names (owned_otherwise claim.Global sorts o refl) in
    omega (arith, claimed-append claim.Global n (claims_of sorts k at d) rest, here, globals_claimed n (sorts ++ sorts_of d) (k + procedures_of d) (at + length_of d) ds)
globals_claimed n sorts k at (declaration.Breed s plural singular ∷ ds) =
    let d = declaration.Breed s plural singular in
    let rest = claims_from (sorts ++ sorts_of d) (k + procedures_of d) (at + length_of d) ds in
    let b = breed_with s plural singular [] in
    omega (arith, claimed-append claim.Global n (claims_of sorts k at d) rest, other_made claim.Global n (at + 2) b (patterns b) refl, globals_claimed n (sorts ++ sorts_of d) (k + procedures_of d) (at + length_of d) ds)
globals_claimed n sorts k at (declaration.Procedure r name inputs tokens ∷ ds) =
    let d = declaration.Procedure r name inputs tokens in
    let rest = claims_from (sorts ++ sorts_of d) (k + procedures_of d) (at + length_of d) ds in
    omega (arith, claimed-append claim.Global n (claims_of sorts k at d) rest, other_procedure claim.Global n name (at + 2) (at + 1) k inputs refl refl, globals_claimed n (sorts ++ sorts_of d) (k + procedures_of d) (at + length_of d) ds)

-- a breed whose variables a word declares is declared before it
owning_step : (b : Bool) (o : Option ℕ) (j k : ℕ) → ((m : ℕ) → o ≡ Some m → m < k) → (if b then Some 0 else one_later o) ≡ Some j → j < suc k
owning_step true o j k h is = let it : 0 ≡ j = cc in omega (arith, it)
owning_step false None j k h is = cc
owning_step false (Some m) j k h is = let it : m + 1 ≡ j = cc in omega (arith, it, h m refl)

pub owning_within : (breeds : List (List ℕ)) (word : List ℕ) (j : ℕ) → breed_owning breeds word ≡ Some j → j < length breeds
owning_within [] word j h = cc
owning_within (p ∷ ps) word j h = owning_step (bytes_eq (owning p) word) (breed_owning ps word) j (length ps) (owning_within ps word) h

of_a_breed : (a b c : Bool) (o : Option ℕ) (j : ℕ) → (if a then Some owner.AllTurtles else (if b then Some owner.AllPatches else (if c then Some owner.AllLinks else owner_of_breed o))) ≡ Some (owner.BreedAt j) → o ≡ Some j
of_a_breed true b c o j h = cc
of_a_breed false true c o j h = cc
of_a_breed false false true o j h = cc
of_a_breed false false false None j h = cc
of_a_breed false false false (Some m) j h = cc

pub owner_within : (breeds : List (List ℕ)) (word : List ℕ) (j : ℕ) → owner_by breeds word ≡ Some (owner.BreedAt j) → j < length breeds
owner_within breeds word j h =
    owning_within breeds word j (of_a_breed (bytes_eq word (codes "turtles-own")) (bytes_eq word (codes "patches-own")) (bytes_eq word (codes "links-own")) (breed_owning breeds word) j h)

-- as many breeds as plurals
same_length : (breeds : List (List ℕ)) (sorts : List Sort) (d : Declaration) → length breeds ≡ length sorts → length (breeds ++ plural_of d) ≡ length (sorts ++ sorts_of d)
same_length breeds sorts d h = omega (arith, length-append breeds (plural_of d), length-append sorts (sorts_of d), one_each d, h)
  where
    one_each : (x : Declaration) → length (plural_of x) ≡ length (sorts_of x)
    one_each (declaration.Globals names) = refl
    one_each (declaration.Own o names) = refl
    one_each (declaration.Breed s plural singular) = refl
    one_each (declaration.Procedure r name inputs tokens) = refl

-- a number where the test is passed
abbrev pub when : Bool → ℕ → ℕ
when true x = x
when false x = 0

-- The variables of one owner, which are all names that are claimed in one way; or a way in which nothing is claimed.
module _ (whole : List Sort) (on : Bool) (o : Owner) (c : Claim) (n : List ℕ) (global : same_claim c claim.Global ≡ false) (word : same_claim c claim.Word ≡ false) (input : (k : ℕ) → same_claim c (claim.Input k) ≡ false)
    (means : (breeds : List (List ℕ)) (sorts more : List Sort) (p : Owner) (by : List ℕ) → length breeds ≡ length sorts → whole ≡ sorts ++ more → owner_by breeds by ≡ Some p → same_claim c (claim_of_owner sorts p) ≡ (on && same_owner p o)) where
  own_step : (e : Claim) (at : ℕ) (names rest : List (List ℕ)) (a b : Bool) (x : ℕ) → same_claim c e ≡ (a && b) → x ≡ when a (often n rest) → claimed c n (claimed_from at e names) + x ≡ when a (often n (if b then names ++ rest else rest))
  own_step e at names rest true true x same later = let here = ap (λ i. claimed c n (claimed_from at i names)) (same_claim-is c e same) in omega (arith, often-append n names rest, here, claimed_names c n at names, later)
  own_step e at names rest true false x other later = omega (arith, other_names c e n at names other, later)
  own_step e at names rest false b x other later = omega (arith, other_names c e n at names other, later)

  pub owned_claimed : (breeds : List (List ℕ)) (sorts : List Sort) (k at : ℕ) (ds : List Declaration) (ls : List Lexeme) → SpellAll breeds ds ls → length breeds ≡ length sorts → whole ≡ sorts ++ sorts_in ds → claimed c n (claims_from sorts k at ds) ≡ when on (often n (owned_in o ds))
  owned_claimed breeds sorts k at [] ls spelt fit all = nothing on
    where
      nothing : (b : Bool) → 0 ≡ when b 0
      nothing true = refl
      nothing false = refl
  owned_claimed breeds sorts k at (declaration.Own p names ∷ ds) ls spelt fit all =
      let d = declaration.Own p names in
      let later = owned_claimed (breeds ++ plural_of d) (sorts ++ sorts_of d) (k + procedures_of d) (at + length_of d) ds spelt.1 (spelt.2).2 (same_length breeds sorts d fit) (all ∙ sym (append_assoc sorts (sorts_of d) (sorts_in ds))) in
      let rest = claims_from (sorts ++ sorts_of d) (k + procedures_of d) (at + length_of d) ds in
      let same = means breeds sorts (sorts_in ds) p ((spelt.2).1).0 fit all (((spelt.2).1).1).0 in
      claimed-append c n (claims_of sorts k at d) rest ∙ own_step (claim_of_owner sorts p) (at + 2) names (owned_in o ds) on (same_owner p o) (claimed c n rest) same later
  owned_claimed breeds sorts k at (declaration.Globals names ∷ ds) ls spelt fit all =
      let d = declaration.Globals names in
      let later = owned_claimed (breeds ++ plural_of d) (sorts ++ sorts_of d) (k + procedures_of d) (at + length_of d) ds spelt.1 (spelt.2).2 (same_length breeds sorts d fit) (all ∙ sym (append_assoc sorts (sorts_of d) (sorts_in ds))) in
      let rest = claims_from (sorts ++ sorts_of d) (k + procedures_of d) (at + length_of d) ds in
      omega (arith, claimed-append c n (claims_of sorts k at d) rest, other_names c claim.Global n (at + 2) names global, later)
  owned_claimed breeds sorts k at (declaration.Breed s plural singular ∷ ds) ls spelt fit all =
      let d = declaration.Breed s plural singular in
      let later = owned_claimed (breeds ++ plural_of d) (sorts ++ sorts_of d) (k + procedures_of d) (at + length_of d) ds spelt.1 (spelt.2).2 (same_length breeds sorts d fit) (all ∙ sym (append_assoc sorts (sorts_of d) (sorts_in ds))) in
      let rest = claims_from (sorts ++ sorts_of d) (k + procedures_of d) (at + length_of d) ds in
      let b = breed_with s plural singular [] in
      omega (arith, claimed-append c n (claims_of sorts k at d) rest, other_made c n (at + 2) b (patterns b) word, later)
  owned_claimed breeds sorts k at (declaration.Procedure r name inputs tokens ∷ ds) ls spelt fit all =
      let d = declaration.Procedure r name inputs tokens in
      let later = owned_claimed (breeds ++ plural_of d) (sorts ++ sorts_of d) (k + procedures_of d) (at + length_of d) ds spelt.1 (spelt.2).2 (same_length breeds sorts d fit) (all ∙ sym (append_assoc sorts (sorts_of d) (sorts_in ds))) in
      let rest = claims_from (sorts ++ sorts_of d) (k + procedures_of d) (at + length_of d) ds in
      omega (arith, claimed-append c n (claims_of sorts k at d) rest, other_procedure c n name (at + 2) (at + 1) k inputs word (input k), later)

-- the variables of all turtles, of patches and of all links
abbrev is_of_breed : Claim → Bool
is_of_breed (claim.TurtleBreed j) = true
is_of_breed (claim.LinkBreed j) = true
is_of_breed c = false

breed_claims : (j : ℕ) (s : Option Sort) → is_of_breed (claim_of_breed j s) ≡ true
breed_claims j None = refl
breed_claims j (Some sort.Turtles) = refl
breed_claims j (Some sort.Directed) = refl
breed_claims j (Some sort.Undirected) = refl

no_breed : (c : Claim) → is_of_breed c ≡ false → (j : ℕ) (s : Option Sort) → same_claim c (claim_of_breed j s) ≡ false
no_breed c h j s = unlike is_of_breed c (claim_of_breed j s) (same_claim c (claim_of_breed j s)) refl h (breed_claims j s)

turtles_mean : (sorts : List Sort) (p : Owner) → same_claim claim.Turtles (claim_of_owner sorts p) ≡ same_owner p owner.AllTurtles
turtles_mean sorts owner.AllTurtles = refl
turtles_mean sorts owner.AllPatches = refl
turtles_mean sorts owner.AllLinks = refl
turtles_mean sorts (owner.BreedAt j) = no_breed claim.Turtles refl j (slice_get sorts j)

patches_mean : (sorts : List Sort) (p : Owner) → same_claim claim.Patches (claim_of_owner sorts p) ≡ same_owner p owner.AllPatches
patches_mean sorts owner.AllTurtles = refl
patches_mean sorts owner.AllPatches = refl
patches_mean sorts owner.AllLinks = refl
patches_mean sorts (owner.BreedAt j) = no_breed claim.Patches refl j (slice_get sorts j)

links_mean : (sorts : List Sort) (p : Owner) → same_claim claim.Links (claim_of_owner sorts p) ≡ same_owner p owner.AllLinks
links_mean sorts owner.AllTurtles = refl
links_mean sorts owner.AllPatches = refl
links_mean sorts owner.AllLinks = refl
links_mean sorts (owner.BreedAt j) = no_breed claim.Links refl j (slice_get sorts j)

module _ (ds : List Declaration) (ls : List Lexeme) (n : List ℕ) (spelt : SpellAll [] ds ls) where
  pub turtles_claimed : claimed claim.Turtles n (claims_from [] 0 0 ds) ≡ often n (owned_in owner.AllTurtles ds)
  turtles_claimed = owned_claimed (sorts_in ds) true owner.AllTurtles claim.Turtles n refl refl (λ k. refl) (λ breeds sorts more p by fit all is. turtles_mean sorts p) [] [] 0 0 ds ls spelt refl refl

  pub patches_claimed : claimed claim.Patches n (claims_from [] 0 0 ds) ≡ often n (owned_in owner.AllPatches ds)
  patches_claimed = owned_claimed (sorts_in ds) true owner.AllPatches claim.Patches n refl refl (λ k. refl) (λ breeds sorts more p by fit all is. patches_mean sorts p) [] [] 0 0 ds ls spelt refl refl

  pub links_claimed : claimed claim.Links n (claims_from [] 0 0 ds) ≡ often n (owned_in owner.AllLinks ds)
  links_claimed = owned_claimed (sorts_in ds) true owner.AllLinks claim.Links n refl refl (λ k. refl) (λ breeds sorts more p by fit all is. links_mean sorts p) [] [] 0 0 ds ls spelt refl refl

  -- no declaration declares a widget
  pub widgets_unclaimed : claimed claim.Widget n (claims_from [] 0 0 ds) ≡ 0
  widgets_unclaimed = owned_claimed (sorts_in ds) false owner.AllTurtles claim.Widget n refl refl (λ k. refl) (λ breeds sorts more p by fit all is. owned_otherwise claim.Widget sorts p refl) [] [] 0 0 ds ls spelt refl refl

-- the sort of a breed, among those before it and those after it
pub sort_before : (sorts more : List Sort) (j : ℕ) → j < length sorts → slice_get (sorts ++ more) j ≡ slice_get sorts j
sort_before [] more j h = absurd (omega (arith, h))
sort_before (s ∷ sorts) more zero h = refl
sort_before (s ∷ sorts) more (suc j) h = sort_before sorts more j (omega (arith, h))

sort_at : (sorts more : List Sort) (s : Sort) → slice_get (sorts ++ s ∷ more) (length sorts) ≡ Some s
sort_at [] more s = refl
sort_at (t ∷ sorts) more s = sort_at sorts more s

-- how a breed's variables are claimed
abbrev pub own_claim : Bool → ℕ → Claim
own_claim link j = if link then claim.LinkBreed j else claim.TurtleBreed j

-- there is a breed, of turtles or of links
abbrev pub agrees : Bool → Bool → Bool
agrees true b = b
agrees false b = not b

abbrev pub is_there : Bool → Option Sort → Bool
is_there link None = false
is_there link (Some s) = agrees link (is_of_links s)

never : (b : Bool) → false ≡ (b && false)
never true = refl
never false = refl

one_breed : (link : Bool) (j i : ℕ) (s : Sort) → same_claim (own_claim link j) (claim_of_breed i (Some s)) ≡ (is_there link (Some s) && (j == i))
one_breed true j i sort.Turtles = refl
one_breed true j i sort.Directed = refl
one_breed true j i sort.Undirected = refl
one_breed false j i sort.Turtles = refl
one_breed false j i sort.Directed = refl
one_breed false j i sort.Undirected = refl

no_turtles : (link : Bool) (j : ℕ) → same_claim (own_claim link j) claim.Turtles ≡ false
no_turtles true j = refl
no_turtles false j = refl

no_patches : (link : Bool) (j : ℕ) → same_claim (own_claim link j) claim.Patches ≡ false
no_patches true j = refl
no_patches false j = refl

no_links : (link : Bool) (j : ℕ) → same_claim (own_claim link j) claim.Links ≡ false
no_links true j = refl
no_links false j = refl

module _ (whole : List Sort) (link : Bool) (j : ℕ) where
  exchanged : (i : ℕ) (b : Bool) → (i == j) ≡ b → (is_there link (slice_get whole i) && (j == i)) ≡ (is_there link (slice_get whole j) && (i == j))
  exchanged i true h = subst (λ m. (is_there link (slice_get whole i) && (m == i)) ≡ (is_there link (slice_get whole m) && (i == m))) (eqb-true i j h) refl
  exchanged i false h =
      let other : (j == i) ≡ false = ne_eqb j i (λ same. let it = eq-eqb i j (sym same) in cc) in
      ap (λ b. is_there link (slice_get whole i) && b) other ∙ sym (never (is_there link (slice_get whole i))) ∙ never (is_there link (slice_get whole j)) ∙ ap (λ b. is_there link (slice_get whole j) && b) (sym h)

  own_means : (breeds : List (List ℕ)) (sorts more : List Sort) (p : Owner) (by : List ℕ) → length breeds ≡ length sorts → whole ≡ sorts ++ more → owner_by breeds by ≡ Some p → same_claim (own_claim link j) (claim_of_owner sorts p) ≡ (is_there link (slice_get whole j) && same_owner p (owner.BreedAt j))
  own_means breeds sorts more owner.AllTurtles by fit all is = no_turtles link j ∙ never (is_there link (slice_get whole j))
  own_means breeds sorts more owner.AllPatches by fit all is = no_patches link j ∙ never (is_there link (slice_get whole j))
  own_means breeds sorts more owner.AllLinks by fit all is = no_links link j ∙ never (is_there link (slice_get whole j))
  own_means breeds sorts more (owner.BreedAt i) by fit all is =
      let inside : i < length sorts = omega (arith, owner_within breeds by i is, fit) in
      let s = get_or sorts i sort.Turtles in
      let here : slice_get sorts i ≡ Some s = slice_get-get_or sorts i sort.Turtles inside in
      let there : slice_get whole i ≡ Some s = ap (λ ss. slice_get ss i) all ∙ (sort_before sorts more i inside ∙ here) in
      ap (λ x. same_claim (own_claim link j) (claim_of_breed i x)) here ∙ one_breed link j i s ∙ ap (λ x. is_there link x && (j == i)) (sym there) ∙ exchanged i (i == j) refl

-- a breed's variables are those that are declared for it, where it is there
own_global : (link : Bool) (j : ℕ) → same_claim (own_claim link j) claim.Global ≡ false
own_global true j = refl
own_global false j = refl

own_word : (link : Bool) (j : ℕ) → same_claim (own_claim link j) claim.Word ≡ false
own_word true j = refl
own_word false j = refl

own_input : (link : Bool) (j k : ℕ) → same_claim (own_claim link j) (claim.Input k) ≡ false
own_input true j k = refl
own_input false j k = refl

pub own_claimed : (ds : List Declaration) (ls : List Lexeme) (link : Bool) (j : ℕ) (n : List ℕ) → SpellAll [] ds ls →
    claimed (own_claim link j) n (claims_from [] 0 0 ds) ≡ when (is_there link (slice_get (sorts_in ds) j)) (often n (owned_in (owner.BreedAt j) ds))
own_claimed ds ls link j n spelt =
    owned_claimed (sorts_in ds) (is_there link (slice_get (sorts_in ds) j)) (owner.BreedAt j) (own_claim link j) n (own_global link j) (own_word link j) (own_input link j) (own_means (sorts_in ds) link j) [] [] 0 0 ds ls spelt refl refl

agrees_itself : (b : Bool) → agrees b b ≡ true
agrees_itself true = refl
agrees_itself false = refl

pub breed_owned : (ds : List Declaration) (ls : List Lexeme) (j : ℕ) (s : Sort) (n : List ℕ) → SpellAll [] ds ls → slice_get (sorts_in ds) j ≡ Some s → claimed (own_claim (is_of_links s) j) n (claims_from [] 0 0 ds) ≡ often n (owned_in (owner.BreedAt j) ds)
breed_owned ds ls j s n spelt is =
    own_claimed ds ls (is_of_links s) j n spelt ∙ ap (λ b. when b (often n (owned_in (owner.BreedAt j) ds))) (ap (is_there (is_of_links s)) is ∙ agrees_itself (is_of_links s))

-- each breed's variables are claimed for it
abbrev pub EachBreed : List Claimed → List Breed → Type 0
EachBreed all [] = Unit {0}
EachBreed all (b ∷ bs) = ((j : ℕ) × ((n : List ℕ) → often n b.own ≤ claimed (own_claim b.link j) n all)) × EachBreed all bs

module _ (all : List Claimed) (whole : List Sort) (ds : List Declaration) (owned : (j : ℕ) (s : Sort) → slice_get whole j ≡ Some s → (n : List ℕ) → claimed (own_claim (is_of_links s) j) n all ≡ often n (owned_in (owner.BreedAt j) ds)) where
  pub breeds_claimed : (sorts : List Sort) (j : ℕ) (es : List Declaration) → whole ≡ sorts ++ sorts_in es → j ≡ length sorts → EachBreed all (breeds_from j ds es)
  breeds_claimed sorts j [] split here = tt
  breeds_claimed sorts j (declaration.Breed s plural singular ∷ es) split here = (
    (j, λ n. omega (arith, owned j s (ap (λ ss. slice_get ss j) split ∙ (ap (slice_get (sorts ++ s ∷ sorts_in es)) here ∙ sort_at sorts (sorts_in es) s)) n)),
    breeds_claimed (sorts ++ s ∷ []) (j + 1) es (split ∙ sym (append_assoc sorts (s ∷ []) (sorts_in es))) (omega (arith, here, length-append sorts (s ∷ []))),
  )
  breeds_claimed sorts j (declaration.Globals names ∷ es) split here = breeds_claimed sorts j es split here
  breeds_claimed sorts j (declaration.Own o names ∷ es) split here = breeds_claimed sorts j es split here
  breeds_claimed sorts j (declaration.Procedure r name inputs tokens ∷ es) split here = breeds_claimed sorts j es split here

-- how often a name stands among the inputs of one of these procedures, of which the first has a number
abbrev pub input_often : ℕ → List ℕ → ℕ → List Procedure → ℕ
input_often i n k [] = 0
input_often i n k (p ∷ ps) = when (i == k) (often n p.inputs) + input_often i n (k + 1) ps

inputs_step : (i k : ℕ) (b : Bool) → (i == k) ≡ b → (n : List ℕ) (at : ℕ) (inputs : Option (List (List ℕ))) → claimed (claim.Input i) n (inputs_claims at k inputs) ≡ when b (often n (names_of_inputs inputs))
inputs_step i k true same n at None = refl
inputs_step i k true same n at (Some names) = ap (λ c. claimed (claim.Input i) n (claimed_from (at + 1) c names)) (sym (same_claim-is (claim.Input i) (claim.Input k) same)) ∙ claimed_names (claim.Input i) n (at + 1) names
inputs_step i k false other n at inputs = other_inputs (claim.Input i) n at k inputs other

-- a declaration of no procedure
no_procedure : (k : ℕ) (d : Declaration) → procedures_of d ≡ 0 → k + procedures_of d ≡ k
no_procedure k d h = omega (arith, h)

pub input_claimed : (i : ℕ) (n : List ℕ) (sorts : List Sort) (k at : ℕ) (ds : List Declaration) → claimed (claim.Input i) n (claims_from sorts k at ds) ≡ input_often i n k (procedures_from at ds)
input_claimed i n sorts k at [] = refl
input_claimed i n sorts k at (declaration.Procedure r name inputs tokens ∷ ds) =
    let d = declaration.Procedure r name inputs tokens in
    let rest = claims_from (sorts ++ sorts_of d) (k + procedures_of d) (at + length_of d) ds in
    omega (arith, claimed-append (claim.Input i) n (claims_of sorts k at d) rest, inputs_step i k (i == k) refl n (at + 2) inputs, input_claimed i n (sorts ++ sorts_of d) (k + procedures_of d) (at + length_of d) ds)
input_claimed i n sorts k at (declaration.Globals names ∷ ds) =
    let d = declaration.Globals names in
    let rest = claims_from (sorts ++ sorts_of d) (k + procedures_of d) (at + length_of d) ds in
    let same = ap (λ m. input_often i n m (procedures_from (at + length_of d) ds)) (no_procedure k d refl) in
    omega (arith, same, claimed-append (claim.Input i) n (claims_of sorts k at d) rest, other_names (claim.Input i) claim.Global n (at + 2) names refl, input_claimed i n (sorts ++ sorts_of d) (k + procedures_of d) (at + length_of d) ds)
input_claimed i n sorts k at (declaration.Own o names ∷ ds) =
    let d = declaration.Own o names in
    let rest = claims_from (sorts ++ sorts_of d) (k + procedures_of d) (at + length_of d) ds in
    let here = other_names (claim.Input i) (claim_of_owner sorts o) n (at + 2) names (owned_otherwise (claim.Input i) sorts o refl) in
    let same = ap (λ m. input_often i n m (procedures_from (at + length_of d) ds)) (no_procedure k d refl) in
    omega (arith, same, claimed-append (claim.Input i) n (claims_of sorts k at d) rest, here, input_claimed i n (sorts ++ sorts_of d) (k + procedures_of d) (at + length_of d) ds)
input_claimed i n sorts k at (declaration.Breed s plural singular ∷ ds) =
    let d = declaration.Breed s plural singular in
    let rest = claims_from (sorts ++ sorts_of d) (k + procedures_of d) (at + length_of d) ds in
    let b = breed_with s plural singular [] in
    let same = ap (λ m. input_often i n m (procedures_from (at + length_of d) ds)) (no_procedure k d refl) in
    omega (arith, same, claimed-append (claim.Input i) n (claims_of sorts k at d) rest, other_made (claim.Input i) n (at + 2) b (patterns b) refl, input_claimed i n (sorts ++ sorts_of d) (k + procedures_of d) (at + length_of d) ds)

-- each procedure's inputs are claimed for it
abbrev pub EachProcedure : List Claimed → List Procedure → Type 0
EachProcedure all [] = Unit {0}
EachProcedure all (p ∷ ps) = ((i : ℕ) × ((n : List ℕ) → often n p.inputs ≤ claimed (claim.Input i) n all)) × EachProcedure all ps

inputs_claimed : (k at : ℕ) (inputs : Option (List (List ℕ))) (n : List ℕ) → often n (names_of_inputs inputs) ≤ claimed (claim.Input k) n (inputs_claims at k inputs)
inputs_claimed k at None n = omega arith
inputs_claimed k at (Some names) n = omega (arith, claimed_names (claim.Input k) n (at + 1) names)

module _ (all : List Claimed) where
  later_within : (sorts : List Sort) (k at : ℕ) (d : Declaration) (ds : List Declaration) → ((c : Claim) (n : List ℕ) → claimed c n (claims_from sorts k at (d ∷ ds)) ≤ claimed c n all) → (c : Claim) (n : List ℕ) → claimed c n (claims_from (sorts ++ sorts_of d) (k + procedures_of d) (at + length_of d) ds) ≤ claimed c n all
  later_within sorts k at d ds within c n = omega (arith, within c n, claimed-append c n (claims_of sorts k at d) (claims_from (sorts ++ sorts_of d) (k + procedures_of d) (at + length_of d) ds))

  pub procedures_claimed : (sorts : List Sort) (k at : ℕ) (ds : List Declaration) → ((c : Claim) (n : List ℕ) → claimed c n (claims_from sorts k at ds) ≤ claimed c n all) → EachProcedure all (procedures_from at ds)
  procedures_claimed sorts k at [] within = tt
  procedures_claimed sorts k at (declaration.Procedure r name inputs tokens ∷ ds) within =
      let d = declaration.Procedure r name inputs tokens in (
        (k, λ n. omega (arith, within (claim.Input k) n, claimed-append (claim.Input k) n (claims_of sorts k at d) (claims_from (sorts ++ sorts_of d) (k + procedures_of d) (at + length_of d) ds), inputs_claimed k (at + 2) inputs n)),
        procedures_claimed (sorts ++ sorts_of d) (k + procedures_of d) (at + length_of d) ds (later_within sorts k at d ds within),
      )
  procedures_claimed sorts k at (declaration.Globals names ∷ ds) within = procedures_claimed _ _ _ ds (later_within sorts k at (declaration.Globals names) ds within)
  procedures_claimed sorts k at (declaration.Own o names ∷ ds) within = procedures_claimed _ _ _ ds (later_within sorts k at (declaration.Own o names) ds within)
  procedures_claimed sorts k at (declaration.Breed s plural singular ∷ ds) within = procedures_claimed _ _ _ ds (later_within sorts k at (declaration.Breed s plural singular) ds within)
