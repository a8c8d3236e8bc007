-- Each name that declarations declare is a word of their tokens.
use Rattle.std.proofs.Common.{◌≡◌, ℕ, suc, ◌+◌, Bool, true, false, not, ◌||◌, ◌&&◌, List, [], ◌∷◌, ◌++◌, Option, Some, None, All, sym, subst, ◌∙◌, refl, arith, if◌then◌else◌, codes}
use Rattle.std.specs.List.{list_all}
use Rattle.std.specs.Cmp.{first_so, second_so}
use Rattle.std.specs.Cmp.Derive.{both_true}
use Rattle.std.proofs.lemmas.List.Folds.{list_all-append, list_all-map}
use Rattle.nl_words.specs.Table.{is_name}
use Rattle.nl_tree.specs.declared.declared.Breed.{Breed}
use Rattle.nl_tree.specs.Tokens.{Lexeme, Word, Number, Text, Open, Close, OpenParen, CloseParen, End, IsLexeme}
use Rattle.nl_tree.specs.Names.{breeds_names, procedures_names}
use Rattle.nl_decl_outline.specs.declared.declaration.Sort.{Sort}
use Rattle.nl_decl_outline.specs.declared.declaration.Sort.TheVariants as sort
use Rattle.nl_decl_outline.specs.declared.declaration.Owner.{Owner}
use Rattle.nl_decl_outline.specs.declared.declaration.Owner.TheVariants as owner
use Rattle.nl_decl_outline.specs.declared.declaration.Declaration.{Declaration}
use Rattle.nl_decl_outline.specs.declared.declaration.Declaration.TheVariants as declaration
use Rattle.nl_decl_outline.specs.Declarations.{plural_of, words, listed, listed_or_none, word_of_sort, word_of_procedure, Spells, SpellAll}
use Rattle.nl_decl_outline.specs.Lengths.{length_of}
use Rattle.nl_decl.specs.Claims.{is_of_links, is_directed}
use Rattle.nl_decl_outline.specs.Named.{names_of_inputs}
use Rattle.nl_decl.specs.Gathered.{globals_in, same_owner, owned_in, breeds_from, procedures_from}

-- a token has a name's form where it is a word
abbrev pub is_named : Lexeme → Bool
is_named (Word name) = is_name name
is_named (Number n) = true
is_named (Text bytes) = true
is_named Open = true
is_named Close = true
is_named OpenParen = true
is_named CloseParen = true
is_named End = true

one_named : (l : Lexeme) → IsLexeme l → is_named l ≡ true
one_named (Word name) h = h
one_named (Number n) h = refl
one_named (Text bytes) h = refl
one_named Open h = refl
one_named Close h = refl
one_named OpenParen h = refl
one_named CloseParen h = refl
one_named End h = refl

pub all_named : (ls : List Lexeme) → All IsLexeme ls → list_all is_named ls ≡ true
all_named [] h = refl
all_named (l ∷ ls) h = both_true (one_named l (h 0 l (omega arith))) (all_named ls (λ k d within. h (suc k) d (omega (arith, within))))

-- a test that all of two lists pass
pub all_both : {X : Type 0} (test : X → Bool) (xs ys : List X) → list_all test xs ≡ true → list_all test ys ≡ true → list_all test (xs ++ ys) ≡ true
all_both test xs ys h k = list_all-append test xs ys ∙ both_true h k

all_first : {X : Type 0} (test : X → Bool) (xs ys : List X) → list_all test (xs ++ ys) ≡ true → list_all test xs ≡ true
all_first test xs ys h = first_so (list_all test xs) (list_all test ys) (sym (list_all-append test xs ys) ∙ h)

all_second : {X : Type 0} (test : X → Bool) (xs ys : List X) → list_all test (xs ++ ys) ≡ true → list_all test ys ≡ true
all_second test xs ys h = second_so (list_all test xs) (list_all test ys) (sym (list_all-append test xs ys) ∙ h)

-- the names of a declaration
abbrev pub has_names : Declaration → Bool
has_names (declaration.Globals names) = list_all is_name names
has_names (declaration.Own o names) = list_all is_name names
has_names (declaration.Breed s plural singular) = is_name plural && is_name singular
has_names (declaration.Procedure r name inputs tokens) = is_name name && list_all is_name (names_of_inputs inputs)

listed_named : (names : List (List ℕ)) → list_all is_named (listed names) ≡ true → list_all is_name names ≡ true
listed_named names h = sym (list_all-map is_named Word names) ∙ all_first is_named (words names) (Close ∷ []) h

inputs_named : (inputs : Option (List (List ℕ))) → list_all is_named (listed_or_none inputs) ≡ true → list_all is_name (names_of_inputs inputs) ≡ true
inputs_named None h = refl
inputs_named (Some names) h = listed_named names h

-- without the word in front
tail_named : (word : List ℕ) (names : List (List ℕ)) → list_all is_named (Word word ∷ listed names) ≡ true → list_all is_name names ≡ true
tail_named word names h = listed_named names (second_so (is_name word) (list_all is_named (listed names)) h)

front_named : (breeds : List (List ℕ)) (d : Declaration) (front : List Lexeme) → Spells breeds d front → list_all is_named front ≡ true → has_names d ≡ true
front_named breeds (declaration.Globals names) front spelt h = tail_named (codes "globals") names (subst (λ ls. list_all is_named ls ≡ true) spelt h)
front_named breeds (declaration.Own o names) front spelt h = tail_named spelt.0 names (subst (λ ls. list_all is_named ls ≡ true) (spelt.1).1 h)
front_named breeds (declaration.Breed s plural singular) front spelt h =
    let both = tail_named (word_of_sort s) (plural ∷ singular ∷ []) (subst (λ ls. list_all is_named ls ≡ true) spelt h) in
    both_true (first_so (is_name plural) (is_name singular && true) both) (first_so (is_name singular) true (second_so (is_name plural) (is_name singular && true) both))
front_named breeds (declaration.Procedure r name inputs tokens) front spelt h =
    let body = spelt.0 in
    let last = Word (codes "end") ∷ [] in
    let tail = listed_or_none inputs ++ body ++ last in
    let all : list_all is_named (Word (word_of_procedure r) ∷ Word name ∷ tail) ≡ true = subst (λ ls. list_all is_named ls ≡ true) (spelt.1).2 h in
    let rest = second_so (is_name (word_of_procedure r)) (is_name name && list_all is_named tail) all in
    both_true (first_so (is_name name) (list_all is_named tail) rest)
    (inputs_named inputs (all_first is_named (listed_or_none inputs) body (all_first is_named (listed_or_none inputs ++ body) last (second_so (is_name name) (list_all is_named tail) rest))))

-- the names of all declarations
pub declarations_named : (breeds : List (List ℕ)) (ds : List Declaration) (ls : List Lexeme) → SpellAll breeds ds ls → list_all is_named ls ≡ true → list_all has_names ds ≡ true
declarations_named breeds [] ls spelt h = refl
declarations_named breeds (d ∷ ds) ls spelt h =
    let both : list_all is_named (spelt.0 ++ spelt.1) ≡ true = subst (λ x. list_all is_named x ≡ true) (spelt.2).0 h in
    both_true (front_named breeds d spelt.0 (spelt.2).1 (all_first is_named spelt.0 spelt.1 both))
    (declarations_named (breeds ++ plural_of d) ds spelt.1 (spelt.2).2 (all_second is_named spelt.0 spelt.1 both))

pub globals_named : (ds : List Declaration) → list_all has_names ds ≡ true → list_all is_name (globals_in ds) ≡ true
globals_named [] h = refl
globals_named (declaration.Globals names ∷ ds) h = all_both is_name names (globals_in ds) (first_so (list_all is_name names) (list_all has_names ds) h) (globals_named ds (second_so (list_all is_name names) (list_all has_names ds) h))
globals_named (d ∷ ds) h = globals_named ds (second_so (has_names d) (list_all has_names ds) h)

own_named : (b : Bool) (names rest : List (List ℕ)) → list_all is_name names ≡ true → list_all is_name rest ≡ true → list_all is_name (if b then names ++ rest else rest) ≡ true
own_named true names rest h k = all_both is_name names rest h k
own_named false names rest h k = k

pub owned_named : (o : Owner) (ds : List Declaration) → list_all has_names ds ≡ true → list_all is_name (owned_in o ds) ≡ true
owned_named o [] h = refl
owned_named o (declaration.Own p names ∷ ds) h = own_named (same_owner p o) names (owned_in o ds) (first_so (list_all is_name names) (list_all has_names ds) h) (owned_named o ds (second_so (list_all is_name names) (list_all has_names ds) h))
owned_named o (d ∷ ds) h = owned_named o ds (second_so (has_names d) (list_all has_names ds) h)

pub breeds_named : (all : List Declaration) → list_all has_names all ≡ true → (j : ℕ) (ds : List Declaration) → list_all has_names ds ≡ true → list_all is_name (breeds_names (breeds_from j all ds)) ≡ true
breeds_named all each j [] h = refl
breeds_named all each j (declaration.Breed s plural singular ∷ ds) h =
    let both = first_so (is_name plural && is_name singular) (list_all has_names ds) h in
    both_true (first_so (is_name plural) (is_name singular) both)
    (both_true (second_so (is_name plural) (is_name singular) both)
    (all_both is_name (owned_in (owner.BreedAt j) all) _ (owned_named (owner.BreedAt j) all each) (breeds_named all each (j + 1) ds (second_so (is_name plural && is_name singular) (list_all has_names ds) h))))
breeds_named all each j (d ∷ ds) h = breeds_named all each j ds (second_so (has_names d) (list_all has_names ds) h)

pub procedures_named : (at : ℕ) (ds : List Declaration) → list_all has_names ds ≡ true → list_all is_name (procedures_names (procedures_from at ds)) ≡ true
procedures_named at [] h = refl
procedures_named at (declaration.Procedure r name inputs tokens ∷ ds) h =
    let own = is_name name && list_all is_name (names_of_inputs inputs) in
    let both = first_so own (list_all has_names ds) h in
    both_true (first_so (is_name name) (list_all is_name (names_of_inputs inputs)) both)
    (all_both is_name (names_of_inputs inputs) _ (second_so (is_name name) (list_all is_name (names_of_inputs inputs)) both) (procedures_named (at + length_of (declaration.Procedure r name inputs tokens)) ds (second_so own (list_all has_names ds) h)))
procedures_named at (d ∷ ds) h = procedures_named (at + length_of d) ds (second_so (has_names d) (list_all has_names ds) h)

-- only a breed of links has a direction
one_direction : (s : Sort) → (is_of_links s || not (is_directed s)) ≡ true
one_direction sort.Turtles = refl
one_direction sort.Directed = refl
one_direction sort.Undirected = refl

pub directions_named : (all : List Declaration) (j : ℕ) (ds : List Declaration) → list_all (λ (b : Breed). b.link || not b.directed) (breeds_from j all ds) ≡ true
directions_named all j [] = refl
directions_named all j (declaration.Breed s plural singular ∷ ds) = both_true (one_direction s) (directions_named all (j + 1) ds)
directions_named all j (d ∷ ds) = directions_named all j ds
