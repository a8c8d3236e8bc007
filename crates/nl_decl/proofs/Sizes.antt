-- What declarations declare is no more than their tokens.
use Rattle.std.proofs.Common.{◌≡◌, ℕ, ◌+◌, ◌<◌, ◌≤◌, ◌==◌, Bool, true, false, List, [], ◌∷◌, ◌++◌, length, Option, Some, None, ap, refl, arith, if◌then◌else◌, length-append, codes}
use Rattle.std.proofs.lemmas.Bool.{eqb-true, ne_eqb}
use Rattle.nl_tree.specs.declared.declared.Breed.{Breed}
use Rattle.nl_tree.specs.Tokens.{Lexeme, Word}
use Rattle.nl_tree.specs.Names.{breeds_names, procedures_names}
use Rattle.nl_decl_outline.specs.declared.declaration.Owner.{Owner}
use Rattle.nl_decl_outline.specs.declared.declaration.Owner.TheVariants as owner
use Rattle.nl_decl_outline.specs.declared.declaration.Declaration.{Declaration}
use Rattle.nl_decl_outline.specs.declared.declaration.Declaration.TheVariants as declaration
use Rattle.nl_decl_outline.specs.Declarations.{plural_of, listed_or_none, SpellAll}
use Rattle.nl_decl_outline.specs.Lengths.{length_of}
use Rattle.nl_decl_outline.specs.Named.{names_of_inputs}
use Rattle.nl_decl_outline.proofs.Lengths.{listed_length}
use Rattle.nl_decl.specs.Gathered.{globals_in, owned_in, breeds_from, procedures_from}

-- how many variables breeds own, and how many are declared for breeds
abbrev pub own_total : List Breed → ℕ
own_total [] = 0
own_total (b ∷ bs) = length b.own + own_total bs

abbrev pub for_breed : Owner → ℕ → ℕ
for_breed (owner.BreedAt j) n = n
for_breed owner.AllTurtles n = 0
for_breed owner.AllPatches n = 0
for_breed owner.AllLinks n = 0

abbrev pub for_breeds : List Declaration → ℕ
for_breeds [] = 0
for_breeds (declaration.Own o names ∷ ds) = for_breed o (length names) + for_breeds ds
for_breeds (declaration.Globals names ∷ ds) = for_breeds ds
for_breeds (declaration.Breed s plural singular ∷ ds) = for_breeds ds
for_breeds (declaration.Procedure r name inputs tokens ∷ ds) = for_breeds ds

pub breeds_names_length : (bs : List Breed) → length (breeds_names bs) ≡ length bs + length bs + own_total bs
breeds_names_length [] = refl
breeds_names_length (b ∷ bs) = omega (arith, length-append b.own (breeds_names bs), breeds_names_length bs)

-- a declaration that is no breed's changes no breed
same_own : (all more : List Declaration) → ((j : ℕ) → owned_in (owner.BreedAt j) more ≡ owned_in (owner.BreedAt j) all) → (j : ℕ) (ds : List Declaration) → own_total (breeds_from j more ds) ≡ own_total (breeds_from j all ds)
same_own all more same j [] = refl
same_own all more same j (declaration.Breed s plural singular ∷ ds) = omega (arith, ap length (same j), same_own all more same (j + 1) ds)
same_own all more same j (declaration.Globals names ∷ ds) = same_own all more same j ds
same_own all more same j (declaration.Own o names ∷ ds) = same_own all more same j ds
same_own all more same j (declaration.Procedure r name inputs tokens ∷ ds) = same_own all more same j ds

skip_step : (b : Bool) (names rest : List (List ℕ)) → b ≡ false → length (if b then names ++ rest else rest) ≡ length rest
skip_step true names rest h = cc
skip_step false names rest h = refl

-- nor does one of a breed change a later breed
skipped : (i : ℕ) (names : List (List ℕ)) (all : List Declaration) (j : ℕ) (ds : List Declaration) → i < j → own_total (breeds_from j (declaration.Own (owner.BreedAt i) names ∷ all) ds) ≡ own_total (breeds_from j all ds)
skipped i names all j [] h = refl
skipped i names all j (declaration.Breed s plural singular ∷ ds) h =
    let other : (i == j) ≡ false = ne_eqb i j (λ same. omega (arith, h, same)) in
    omega (arith, skip_step (i == j) names (owned_in (owner.BreedAt j) all) other, skipped i names all (j + 1) ds (omega (arith, h)))
skipped i names all j (declaration.Globals other ∷ ds) h = skipped i names all j ds h
skipped i names all j (declaration.Own o other ∷ ds) h = skipped i names all j ds h
skipped i names all j (declaration.Procedure r name inputs tokens ∷ ds) h = skipped i names all j ds h

-- and it adds its names to one breed at most
add_step : (i j : ℕ) (b : Bool) (names rest : List (List ℕ)) (x y : ℕ) → (i == j) ≡ b → (i < j + 1 → x ≡ y) → x ≤ length names + y → length (if b then names ++ rest else rest) + x ≤ length names + (length rest + y)
add_step i j true names rest x y same skip h = let it = eqb-true i j same in omega (arith, length-append names rest, skip (omega (arith, it)))
add_step i j false names rest x y same skip h = omega (arith, h)

added : (i : ℕ) (names : List (List ℕ)) (all : List Declaration) (j : ℕ) (ds : List Declaration) → own_total (breeds_from j (declaration.Own (owner.BreedAt i) names ∷ all) ds) ≤ length names + own_total (breeds_from j all ds)
added i names all j [] = omega arith
added i names all j (declaration.Breed s plural singular ∷ ds) =
    add_step i j (i == j) names (owned_in (owner.BreedAt j) all) (own_total (breeds_from (j + 1) (declaration.Own (owner.BreedAt i) names ∷ all) ds)) (own_total (breeds_from (j + 1) all ds)) refl (skipped i names all (j + 1) ds) (added i names all (j + 1) ds)
added i names all j (declaration.Globals other ∷ ds) = added i names all j ds
added i names all j (declaration.Own o other ∷ ds) = added i names all j ds
added i names all j (declaration.Procedure r name inputs tokens ∷ ds) = added i names all j ds

nothing_owned : (j : ℕ) (ds : List Declaration) → own_total (breeds_from j [] ds) ≡ 0
nothing_owned j [] = refl
nothing_owned j (declaration.Breed s plural singular ∷ ds) = omega (arith, nothing_owned (j + 1) ds)
nothing_owned j (declaration.Globals names ∷ ds) = nothing_owned j ds
nothing_owned j (declaration.Own o names ∷ ds) = nothing_owned j ds
nothing_owned j (declaration.Procedure r name inputs tokens ∷ ds) = nothing_owned j ds

pub owned_total : (all : List Declaration) (j : ℕ) (ds : List Declaration) → own_total (breeds_from j all ds) ≤ for_breeds all
owned_total [] j ds = omega (arith, nothing_owned j ds)
owned_total (declaration.Own (owner.BreedAt i) names ∷ all) j ds = omega (arith, added i names all j ds, owned_total all j ds)
owned_total (declaration.Own owner.AllTurtles names ∷ all) j ds = omega (arith, same_own all (declaration.Own owner.AllTurtles names ∷ all) (λ k. refl) j ds, owned_total all j ds)
owned_total (declaration.Own owner.AllPatches names ∷ all) j ds = omega (arith, same_own all (declaration.Own owner.AllPatches names ∷ all) (λ k. refl) j ds, owned_total all j ds)
owned_total (declaration.Own owner.AllLinks names ∷ all) j ds = omega (arith, same_own all (declaration.Own owner.AllLinks names ∷ all) (λ k. refl) j ds, owned_total all j ds)
owned_total (declaration.Globals names ∷ all) j ds = omega (arith, same_own all (declaration.Globals names ∷ all) (λ k. refl) j ds, owned_total all j ds)
owned_total (declaration.Breed s plural singular ∷ all) j ds = omega (arith, same_own all (declaration.Breed s plural singular ∷ all) (λ k. refl) j ds, owned_total all j ds)
owned_total (declaration.Procedure r name inputs tokens ∷ all) j ds = omega (arith, same_own all (declaration.Procedure r name inputs tokens ∷ all) (λ k. refl) j ds, owned_total all j ds)

-- the tokens of a declaration
inputs_tokens : (inputs : Option (List (List ℕ))) → length (names_of_inputs inputs) ≤ length (listed_or_none inputs)
inputs_tokens None = omega arith
inputs_tokens (Some names) = omega (arith, listed_length names)

abbrev pub total : (all : List Declaration) (j at : ℕ) → List Declaration → ℕ
total all j at ds =
    length (globals_in ds) + length (owned_in owner.AllTurtles ds) + length (owned_in owner.AllPatches ds) + length (owned_in owner.AllLinks ds) + for_breeds ds
    + (length (breeds_from j all ds) + length (breeds_from j all ds) + length (breeds_from j all ds))
    + (length (procedures_names (procedures_from at ds)) + length (procedures_from at ds))

pub total_within : (all : List Declaration) (breeds : List (List ℕ)) (j at : ℕ) (ds : List Declaration) (ls : List Lexeme) → SpellAll breeds ds ls → total all j at ds ≤ length ls
total_within all breeds j at [] ls spelt = omega arith
total_within all breeds j at (declaration.Globals names ∷ ds) ls spelt =
    omega (
      arith,
      ap length (spelt.2).0,
      length-append spelt.0 spelt.1,
      ap length (spelt.2).1,
      listed_length names,
      length-append names (globals_in ds),
      total_within all (breeds ++ plural_of (declaration.Globals names)) j (at + length_of (declaration.Globals names)) ds spelt.1 (spelt.2).2,
    )
total_within all breeds j at (declaration.Own owner.AllTurtles names ∷ ds) ls spelt =
    omega (
      arith,
      ap length (spelt.2).0,
      length-append spelt.0 spelt.1,
      ap length (((spelt.2).1).1).1,
      listed_length names,
      length-append names (owned_in owner.AllTurtles ds),
      total_within all (breeds ++ plural_of (declaration.Own owner.AllTurtles names)) j (at + length_of (declaration.Own owner.AllTurtles names)) ds spelt.1 (spelt.2).2,
    )
total_within all breeds j at (declaration.Own owner.AllPatches names ∷ ds) ls spelt =
    omega (
      arith,
      ap length (spelt.2).0,
      length-append spelt.0 spelt.1,
      ap length (((spelt.2).1).1).1,
      listed_length names,
      length-append names (owned_in owner.AllPatches ds),
      total_within all (breeds ++ plural_of (declaration.Own owner.AllPatches names)) j (at + length_of (declaration.Own owner.AllPatches names)) ds spelt.1 (spelt.2).2,
    )
total_within all breeds j at (declaration.Own owner.AllLinks names ∷ ds) ls spelt =
    omega (
      arith,
      ap length (spelt.2).0,
      length-append spelt.0 spelt.1,
      ap length (((spelt.2).1).1).1,
      listed_length names,
      length-append names (owned_in owner.AllLinks ds),
      total_within all (breeds ++ plural_of (declaration.Own owner.AllLinks names)) j (at + length_of (declaration.Own owner.AllLinks names)) ds spelt.1 (spelt.2).2,
    )
total_within all breeds j at (declaration.Own (owner.BreedAt i) names ∷ ds) ls spelt =
    omega (
      arith,
      ap length (spelt.2).0,
      length-append spelt.0 spelt.1,
      ap length (((spelt.2).1).1).1,
      listed_length names,
      total_within all (breeds ++ plural_of (declaration.Own (owner.BreedAt i) names)) j (at + length_of (declaration.Own (owner.BreedAt i) names)) ds spelt.1 (spelt.2).2,
    )
total_within all breeds j at (declaration.Breed s plural singular ∷ ds) ls spelt =
    omega (
      arith,
      ap length (spelt.2).0,
      length-append spelt.0 spelt.1,
      ap length (spelt.2).1,
      total_within all (breeds ++ plural_of (declaration.Breed s plural singular)) (j + 1) (at + length_of (declaration.Breed s plural singular)) ds spelt.1 (spelt.2).2,
    )
total_within all breeds j at (declaration.Procedure r name inputs tokens ∷ ds) ls spelt =
    let d = declaration.Procedure r name inputs tokens in
    let body = ((spelt.2).1).0 in
    omega (
      arith,
      ap length (spelt.2).0,
      length-append spelt.0 spelt.1,
      ap length (((spelt.2).1).1).2,
      inputs_tokens inputs,
      length-append (listed_or_none inputs ++ body) (Word (codes "end") ∷ []),
      length-append (listed_or_none inputs) body,
      length-append (names_of_inputs inputs) (procedures_names (procedures_from (at + length_of d) ds)),
      total_within all (breeds ++ plural_of d) j (at + length_of d) ds spelt.1 (spelt.2).2,
    )
