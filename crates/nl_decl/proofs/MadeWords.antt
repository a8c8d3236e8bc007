-- The names of a model's words, and how often each stands there.
use Rattle.std.proofs.Common.{◌≡◌, ℕ, ◌+◌, Bool, true, List, [], ◌∷◌, ◌++◌, map, Option, Some, None, bytes_eq, ap, ◌∙◌, refl, arith, is_some}
use Rattle.std.specs.List.{list_all}
use Rattle.std.specs.Cmp.{first_so, second_so}
use Rattle.std.proofs.lemmas.List.{map-append, map-id}
use Rattle.nl_words.specs.Row.{Row, row_named}
use Rattle.nl_words.specs.Rows.{rows}
use Rattle.nl_tree.specs.declared.declared.Declared.{Declared}
use Rattle.nl_tree.specs.Term.{Term}
use Rattle.nl_tree.specs.Vocabulary.{Pattern, turtle_patterns, undirected_patterns, directed_patterns, counted, global_names, global_term, owned_names, owned_term, made_as, made_name, made_terms, patterns, breed_terms, procedure_term, own_terms, base_term, terms}
use Rattle.nl_decl_outline.specs.declared.declaration.Sort.{Sort}
use Rattle.nl_decl_outline.specs.declared.declaration.Sort.TheVariants as sort
use Rattle.nl_decl_outline.specs.declared.declaration.Declaration.{Declaration}
use Rattle.nl_decl_outline.specs.declared.declaration.Declaration.TheVariants as declaration
use Rattle.nl_decl_outline.specs.declared.declaration.Owner.TheVariants as owner
use Rattle.nl_decl.specs.declared.claims.Claim.TheVariants as claim
use Rattle.nl_decl_outline.specs.Lengths.{length_of}
use Rattle.nl_decl.specs.Claims.{breed_with, claim_of_owner, made_claim, sorts_of, procedures_of, claims_of, claims_from}
use Rattle.nl_decl.specs.Gathered.{owned_in, breeds_from, procedures_from}
use Rattle.nl_tree.proofs.Lookup.{term_name}
use Rattle.nl_decl.proofs.Often.{tick, often, often-append}
use Rattle.nl_decl.proofs.Clashes.{claimed, claimed-append}
use Rattle.nl_decl.proofs.Linked.{other_names, other_inputs, owned_otherwise}

abbrev pub names_of : List Term → List (List ℕ)
names_of ts = map term_name ts

-- a row for each name has its name
counted_names : {A : Type 0} (f : ℕ → A → Term) (name : A → List ℕ) → ((m : ℕ) (x : A) → term_name (f m x) ≡ name x) → (m : ℕ) (xs : List A) → names_of (counted f m xs) ≡ map name xs
counted_names f name each m [] = refl
counted_names f name each m (x ∷ xs) = let later = counted_names f name each (m + 1) xs in let first = each m x in cc

-- each word of a breed has a built-in word whose rule it has
abbrev has_base : Pattern → Bool
has_base p = is_some (row_named rows p.base)

turtles_have : list_all has_base turtle_patterns ≡ true
unfolding rows
turtles_have = refl

undirected_have : list_all has_base undirected_patterns ≡ true
unfolding rows
undirected_have = refl

directed_have : list_all has_base directed_patterns ≡ true
unfolding rows
directed_have = refl

all_have : (s : Sort) (plural singular : List ℕ) (own : List (List ℕ)) → list_all has_base (patterns (breed_with s plural singular own)) ≡ true
all_have sort.Turtles plural singular own = turtles_have
all_have sort.Undirected plural singular own = undirected_have
all_have sort.Directed plural singular own = directed_have

-- so a breed makes as many rows of a name as it claims
one_row : (n name : List ℕ) (i : ℕ) (o : Option Row) → is_some o ≡ true → often n (names_of (made_as i name o)) ≡ tick (bytes_eq name n)
one_row n name i None h = cc
one_row n name i (Some r) h = omega arith

made_rows : (n : List ℕ) (i at : ℕ) (s : Sort) (plural singular : List ℕ) (own : List (List ℕ)) (ps : List Pattern) → list_all has_base ps ≡ true → claimed claim.Word n (map (made_claim at (breed_with s plural singular [])) ps) ≡ often n (names_of (made_terms i (breed_with s plural singular own) ps))
made_rows n i at s plural singular own [] h = refl
made_rows n i at s plural singular own (p ∷ ps) h =
    let b = breed_with s plural singular own in
    let here = made_as i (made_name b p) (row_named rows p.base) in
    let later = made_terms i b ps in
    let one = one_row n (made_name b p) i (row_named rows p.base) (first_so (has_base p) (list_all has_base ps) h) in
    omega (arith, ap (often n) (map-append term_name here later), often-append n (names_of here) (names_of later), one, made_rows n i at s plural singular own ps (second_so (has_base p) (list_all has_base ps) h))

-- and declarations as many as they claim, of breeds and procedures together
pub words_claimed : (n : List ℕ) (all : List Declaration) (i j m : ℕ) (sorts : List Sort) (k at : ℕ) (ds : List Declaration) →
    claimed claim.Word n (claims_from sorts k at ds) ≡ often n (names_of (breed_terms i (breeds_from j all ds))) + often n (names_of (counted procedure_term m (procedures_from at ds)))
words_claimed n all i j m sorts k at [] = refl
words_claimed n all i j m sorts k at (declaration.Breed s plural singular ∷ ds) =
    let d = declaration.Breed s plural singular in
    let b = breed_with s plural singular (owned_in (owner.BreedAt j) all) in
    let here = made_terms i b (patterns b) in
    let later = breed_terms (i + 1) (breeds_from (j + 1) all ds) in
    omega (
      arith,
      ap (often n) (map-append term_name here later),
      often-append n (names_of here) (names_of later),
      made_rows n i (at + 2) s plural singular (owned_in (owner.BreedAt j) all) (patterns b) (all_have s plural singular (owned_in (owner.BreedAt j) all)),
      claimed-append claim.Word n (claims_of sorts k at d) (claims_from (sorts ++ sorts_of d) (k + procedures_of d) (at + length_of d) ds),
      words_claimed n all (i + 1) (j + 1) m (sorts ++ sorts_of d) (k + procedures_of d) (at + length_of d) ds,
    )
words_claimed n all i j m sorts k at (declaration.Procedure r name inputs tokens ∷ ds) =
    let d = declaration.Procedure r name inputs tokens in
    omega (
      arith,
      claimed-append claim.Word n (claims_of sorts k at d) (claims_from (sorts ++ sorts_of d) (k + procedures_of d) (at + length_of d) ds),
      other_inputs claim.Word n (at + 2) k inputs refl,
      words_claimed n all i j (m + 1) (sorts ++ sorts_of d) (k + procedures_of d) (at + length_of d) ds,
    )
words_claimed n all i j m sorts k at (declaration.Globals names ∷ ds) =
    let d = declaration.Globals names in
    omega (
      arith,
      claimed-append claim.Word n (claims_of sorts k at d) (claims_from (sorts ++ sorts_of d) (k + procedures_of d) (at + length_of d) ds),
      other_names claim.Word claim.Global n (at + 2) names refl,
      words_claimed n all i j m (sorts ++ sorts_of d) (k + procedures_of d) (at + length_of d) ds,
    )
words_claimed n all i j m sorts k at (declaration.Own o names ∷ ds) =
    let d = declaration.Own o names in
    omega (
      arith,
      claimed-append claim.Word n (claims_of sorts k at d) (claims_from (sorts ++ sorts_of d) (k + procedures_of d) (at + length_of d) ds),
      other_names claim.Word (claim_of_owner sorts o) n (at + 2) names (owned_otherwise claim.Word sorts o refl),
      words_claimed n all i j m (sorts ++ sorts_of d) (k + procedures_of d) (at + length_of d) ds,
    )

base_names : (rs : List Row) → names_of (map base_term rs) ≡ map (λ (r : Row). r.name) rs
base_names [] = refl
base_names (r ∷ rs) = ap (λ ns. r.name ∷ ns) (base_names rs)

-- how often a name stands among a model's words: built-in words, global variables, variables of agents, words of breeds, procedures
pub terms_often : (d : Declared) (n : List ℕ) →
    often n (names_of (terms d)) ≡ often n (map (λ (r : Row). r.name) rows) + often n (global_names d) + often n (owned_names d) + (often n (names_of (breed_terms 1 d.breeds)) + often n (names_of (counted procedure_term 0 d.procedures)))
terms_often d n =
    let base = map base_term rows in
    let globals = counted global_term 0 (global_names d) in
    let owned = counted (owned_term d) 0 (owned_names d) in
    let made = breed_terms 1 d.breeds in
    let procedures = counted procedure_term 0 d.procedures in
    let global_rows : names_of globals ≡ global_names d = counted_names global_term (λ x. x) (λ m x. refl) 0 (global_names d) ∙ map-id (global_names d) in
    let owned_rows : names_of owned ≡ owned_names d = counted_names (owned_term d) (λ x. x) (λ m x. refl) 0 (owned_names d) ∙ map-id (owned_names d) in
    omega (
      arith,
      ap (often n) (map-append term_name base (own_terms d)),
      often-append n (names_of base) (names_of (own_terms d)),
      ap (often n) (base_names rows),
      ap (often n) (map-append term_name (globals ++ owned ++ made) procedures),
      often-append n (names_of (globals ++ owned ++ made)) (names_of procedures),
      ap (often n) (map-append term_name (globals ++ owned) made),
      often-append n (names_of (globals ++ owned)) (names_of made),
      ap (often n) (map-append term_name globals owned),
      often-append n (names_of globals) (names_of owned),
      ap (often n) global_rows,
      ap (often n) owned_rows,
    )
