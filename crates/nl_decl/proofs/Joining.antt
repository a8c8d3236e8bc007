-- How the names of a model's variables are gathered.
use Rattle.std.proofs.Common.{◌≡◌, ℕ, ◌+◌, ◌≤◌, Bool, true, false, not, ◌||◌, if◌then◌else◌, List, [], ◌∷◌, ◌++◌, length, ap, sym, refl, ◌∙◌, append_assoc, arith, length-append}
use Rattle.std.specs.List.{filter}
use Rattle.std.proofs.lemmas.List.Elements.{filter-append}
use Rattle.std.proofs.lemmas.List.Filters.{length-filter_both}
use Rattle.nl_tree.specs.declared.declared.Breed.{Breed}
use Rattle.nl_tree.specs.declared.declared.Declared.{Declared}
use Rattle.nl_tree.specs.Names.{all_names, breeds_names, procedures_names}
use Rattle.nl_tree.specs.Vocabulary.{among, breed_names, global_names, joined, owned_by, owned_names}
use Rattle.nl_decl.specs.declared.name_set.NameSet.{NameSet}
use Rattle.nl_decl.specs.declared.variables.Owned.{Owned}
use Rattle.nl_decl.specs.declared.variables.Variables.{Variables}
use Rattle.nl_decl.specs.inner.Index.{has, beyond, AddsOwn, Joins, Owns}
use Rattle.nl_decl.proofs.Sets.{or_false, among_joined, filter_both, filter_none}

pub joins : (old new : Variables) (xs : List (List ℕ)) → new.names ≡ old.names ++ beyond old.seen xs → ((q : List ℕ) → has new.seen q ≡ (among q xs || has old.seen q)) → Joins old xs new
joins old new xs names seen rest =
    let others : List (List ℕ) = filter (λ y. not (among y xs)) rest in
    ap (λ ns. ns ++ beyond new.seen rest) names
    ∙ append_assoc old.names (beyond old.seen xs) (beyond new.seen rest)
    ∙ ap (λ ys. old.names ++ (beyond old.seen xs ++ ys)) (filter_both (has old.seen) (λ q. among q xs) (has new.seen) rest seen)
    ∙ ap (λ ys. old.names ++ ys) (sym (filter-append (λ x. not (has old.seen x)) xs others))

-- the first list, where nothing stands before it
pub begun : (old new : Variables) (xs ys : List (List ℕ)) → old.names ≡ [] → ((q : List ℕ) → has old.seen q ≡ false) → Joins old xs new → new.names ++ beyond new.seen ys ≡ joined xs ys
begun old new xs ys names seen next =
    next ys ∙ ap (λ ns. ns ++ beyond old.seen (joined xs ys)) names ∙ filter_none (has old.seen) (joined xs ys) seen

-- ---- the owners of variables

owned_first : (q : List ℕ) (link : Bool) (b : Breed) (bs : List Breed) → among q (owned_by link (b ∷ bs)) ≡ (among q (owned_by link (b ∷ [])) || among q (owned_by link bs))
owned_first q link b bs = at (if b.link then link else not link)
  where
    at : (t : Bool) → among q (if t then joined b.own (owned_by link bs) else owned_by link bs) ≡ (among q (if t then joined b.own [] else []) || among q (owned_by link bs))
    at true = among_joined q b.own (owned_by link bs) ∙ ap (λ c. c || among q (owned_by link bs)) (sym (or_false (among q b.own)) ∙ sym (among_joined q b.own []))
    at false = refl

turn : (a b c : Bool) → (b || (a || c)) ≡ ((a || b) || c)
turn true true c = refl
turn true false c = refl
turn false true c = refl
turn false false c = refl

flip : (a b : Bool) → (a || b) ≡ (b || a)
flip true true = refl
flip true false = refl
flip false true = refl
flip false false = refl

pub adds_more : (old mid new : Owned) (b : Breed) (bs : List Breed) → AddsOwn old (b ∷ []) mid → AddsOwn mid bs new → AddsOwn old (b ∷ bs) new
adds_more old mid new b bs first later =
    record {
      turtles = λ q.
          later.turtles q ∙ ap (λ c. among q (owned_by false bs) || c) (first.turtles q)
          ∙ turn (among q (owned_by false (b ∷ []))) (among q (owned_by false bs)) (has old.turtles q)
          ∙ ap (λ c. c || has old.turtles q) (sym (owned_first q false b bs));
      patches = λ q. later.patches q ∙ first.patches q;
      links = λ q.
          later.links q ∙ ap (λ c. among q (owned_by true bs) || c) (first.links q)
          ∙ turn (among q (owned_by true (b ∷ []))) (among q (owned_by true bs)) (has old.links q)
          ∙ ap (λ c. c || has old.links q) (sym (owned_first q true b bs));
    }

-- the names of one list alone
pub filled : (old new : NameSet) (names : List (List ℕ)) → ((q : List ℕ) → has old q ≡ false) → ((q : List ℕ) → has new q ≡ (among q names || has old q)) → (q : List ℕ) → has new q ≡ among q names
filled old new names none adds q = adds q ∙ ap (λ b. among q names || b) (none q) ∙ or_false (among q names)

pub owns : (d : Declared) (mid new : Owned) → ((q : List ℕ) → has mid.turtles q ≡ among q d.turtles_own) → ((q : List ℕ) → has mid.patches q ≡ among q d.patches_own) → ((q : List ℕ) → has mid.links q ≡ among q d.links_own)
    → AddsOwn mid d.breeds new → Owns d new
owns d mid new turtles patches links adds =
    record {
      turtles = λ q.
          adds.turtles q ∙ ap (λ c. among q (owned_by false d.breeds) || c) (turtles q)
          ∙ flip (among q (owned_by false d.breeds)) (among q d.turtles_own) ∙ sym (among_joined q d.turtles_own (owned_by false d.breeds));
      patches = λ q. adds.patches q ∙ patches q;
      links = λ q.
          adds.links q ∙ ap (λ c. among q (owned_by true d.breeds) || c) (links q)
          ∙ flip (among q (owned_by true d.breeds)) (among q d.links_own) ∙ sym (among_joined q d.links_own (owned_by true d.breeds));
    }

-- ---- how many variables there are

joined-le : (xs ys : List (List ℕ)) → length (joined xs ys) ≤ length xs + length ys
joined-le xs ys =
    let p : List ℕ → Bool = λ y. not (among y xs) in
    omega (arith, length-append xs (filter p ys), length-filter_both p (λ y. not (p y)) (λ y. refl) ys)

breed_names-le : (bs : List Breed) → length (breed_names bs) ≤ length (breeds_names bs)
breed_names-le [] = omega arith
breed_names-le (b ∷ bs) = omega (arith, joined-le b.own (breed_names bs), length-append b.own (breeds_names bs), breed_names-le bs)

all-length : (d : Declared) →
    length (all_names d) ≡ length d.widgets + (length d.globals + (length d.turtles_own + (length d.patches_own + (length d.links_own + (length (breeds_names d.breeds) + length (procedures_names d.procedures))))))
all-length d =
    let globals = d.widgets ++ d.globals in
    let turtles = globals ++ d.turtles_own in
    let patches = turtles ++ d.patches_own in
    let links = patches ++ d.links_own in
    omega (
      arith,
      length-append d.widgets d.globals,
      length-append globals d.turtles_own,
      length-append turtles d.patches_own,
      length-append patches d.links_own,
      length-append links (breeds_names d.breeds),
      length-append (links ++ breeds_names d.breeds) (procedures_names d.procedures),
    )

pub global_names-le : (d : Declared) → length (global_names d) ≤ length (all_names d)
global_names-le d = omega (arith, all-length d, joined-le d.widgets d.globals)

pub owned_names-le : (d : Declared) → length (owned_names d) ≤ length (all_names d)
owned_names-le d =
    let links = joined d.links_own (breed_names d.breeds) in
    let patches = joined d.patches_own links in
    omega (arith, all-length d, joined-le d.turtles_own patches, joined-le d.patches_own links, joined-le d.links_own (breed_names d.breeds), breed_names-le d.breeds)

pub procedures_names-le : (d : Declared) → length (procedures_names d.procedures) ≤ length (all_names d)
procedures_names-le d = omega (arith, all-length d)
