-- How the variables of breeds are spread over them.
use Rattle.std.proofs.Common.{◌≡◌, ℕ, zero, suc, ◌+◌, ◌<◌, ◌≤◌, if◌then◌else◌, List, [], ◌∷◌, ◌++◌, length, get_or, slice_set, sym, ap, subst, ◌∙◌, refl, arith, Some, None}
use Rattle.std.proofs.lemmas.Bool.{eq-eqb, ne_eqb}
use Rattle.std.proofs.lemmas.List.{append_assoc, append-nil}
use Rattle.nl_tree.specs.declared.declared.Breed.{Breed}
use Rattle.nl_decl_outline.specs.declared.declaration.Owner.{Owner}
use Rattle.nl_decl_outline.specs.declared.declaration.Owner.TheVariants.{AllTurtles, AllPatches, AllLinks, BreedAt}
use Rattle.nl_decl_outline.specs.declared.declaration.Declaration.{Declaration}
use Rattle.nl_decl_outline.specs.declared.declaration.Declaration.TheVariants as declaration
use Rattle.nl_decl.specs.Claims.{breed_with}
use Rattle.nl_decl.specs.Gathered.{owned_in, breeds_from}
use Rattle.nl_decl.specs.inner.Gathering.{bare_breeds, breed_at, with_names, with_owned}

module _ (names : List (List ℕ)) (ds : List Declaration) where
  abbrev own : ℕ → Declaration
  own m = declaration.Own (BreedAt m) names

  other : (m n : ℕ) → (m ≡ n → ⊥) → owned_in (BreedAt n) (own m ∷ ds) ≡ owned_in (BreedAt n) ds
  other m n apart = ap (λ b. if b then names ++ owned_in (BreedAt n) ds else owned_in (BreedAt n) ds) (ne_eqb m n apart)

  same : (n : ℕ) → owned_in (BreedAt n) (own n ∷ ds) ≡ names ++ owned_in (BreedAt n) ds
  same n = ap (λ b. if b then names ++ owned_in (BreedAt n) ds else owned_in (BreedAt n) ds) (eq-eqb n n refl)

  -- breeds before and behind the one stay as they are
  below : (m n : ℕ) (bs : List Breed) → m < n → with_owned n (own m ∷ ds) bs ≡ with_owned n ds bs
  below m n [] h = refl
  below m n (b ∷ bs) h = ap (λ x. with_names b x ∷ with_owned (n + 1) (own m ∷ ds) bs) (other m n (λ e. omega (arith, h, e))) ∙ ap (λ r. with_names b (owned_in (BreedAt n) ds) ∷ r) (below m (n + 1) bs (omega (arith, h)))

  pub above : (m n : ℕ) (bs : List Breed) → n + length bs ≤ m → with_owned n (own m ∷ ds) bs ≡ with_owned n ds bs
  above m n [] h = refl
  above m n (b ∷ bs) h = ap (λ x. with_names b x ∷ with_owned (n + 1) (own m ∷ ds) bs) (other m n (λ e. omega (arith, h, e))) ∙ ap (λ r. with_names b (owned_in (BreedAt n) ds) ∷ r) (above m (n + 1) bs (omega (arith, h)))

  twice : (b : Breed) (x : List (List ℕ)) → with_names b (names ++ x) ≡ with_names (with_names b names) x
  twice b x = ap (λ o. record { plural = b.plural; singular = b.singular; link = b.link; directed = b.directed; own = o }) (sym (append_assoc b.own names x))

  pub given_from : (k m n : ℕ) (bs : List Breed) (d : Breed) → m ≡ n + k → k < length bs → with_owned n (own m ∷ ds) bs ≡ with_owned n ds (slice_set bs k (with_names (get_or bs k d) names))
  given_from k m n [] d is h = absurd (omega (arith, h))
  given_from zero m n (b ∷ bs) d is h =
      let here : m ≡ n = omega (arith, is) in
      ap (λ x. with_names b x ∷ with_owned (n + 1) (own m ∷ ds) bs) (ap (λ j. owned_in (BreedAt n) (own j ∷ ds)) here ∙ same n)
      ∙ ap (λ r. with_names b (names ++ owned_in (BreedAt n) ds) ∷ r) (below m (n + 1) bs (omega (arith, here)))
      ∙ ap (λ x. x ∷ with_owned (n + 1) ds bs) (twice b (owned_in (BreedAt n) ds))
  given_from (suc k) m n (b ∷ bs) d is h =
      ap (λ x. with_names b x ∷ with_owned (n + 1) (own m ∷ ds) bs) (other m n (λ e. omega (arith, is, e)))
      ∙ ap (λ r. with_names b (owned_in (BreedAt n) ds) ∷ r) (given_from k m (n + 1) bs d (omega (arith, is)) (omega (arith, h)))

-- a declaration of no breed's variables changes none
pub plain : (d : Declaration) (ds : List Declaration) (n : ℕ) (bs : List Breed) → ((m : ℕ) → owned_in (BreedAt m) (d ∷ ds) ≡ owned_in (BreedAt m) ds) → with_owned n (d ∷ ds) bs ≡ with_owned n ds bs
plain d ds n [] h = refl
plain d ds n (b ∷ bs) h = ap (λ x. with_names b x ∷ with_owned (n + 1) (d ∷ ds) bs) (h n) ∙ ap (λ r. with_names b (owned_in (BreedAt n) ds) ∷ r) (plain d ds (n + 1) bs h)

-- the owner is a breed or not
pub given_none : (o : Owner) (names : List (List ℕ)) (ds : List Declaration) (bs : List Breed) → breed_at o ≡ None → with_owned 0 (declaration.Own o names ∷ ds) bs ≡ with_owned 0 ds bs
given_none AllTurtles names ds bs h = plain (declaration.Own AllTurtles names) ds 0 bs (λ m. refl)
given_none AllPatches names ds bs h = plain (declaration.Own AllPatches names) ds 0 bs (λ m. refl)
given_none AllLinks names ds bs h = plain (declaration.Own AllLinks names) ds 0 bs (λ m. refl)
given_none (BreedAt n) names ds bs h = cc

owner_is : (o : Owner) (k : ℕ) → breed_at o ≡ Some k → o ≡ BreedAt k
owner_is AllTurtles k h = cc
owner_is AllPatches k h = cc
owner_is AllLinks k h = cc
owner_is (BreedAt n) k h = cc

pub given_some : (o : Owner) (k : ℕ) (names : List (List ℕ)) (ds : List Declaration) (bs : List Breed) (d : Breed) → breed_at o ≡ Some k → k < length bs
    → with_owned 0 (declaration.Own o names ∷ ds) bs ≡ with_owned 0 ds (slice_set bs k (with_names (get_or bs k d) names))
given_some o k names ds bs d some h = subst (λ p. with_owned 0 (declaration.Own p names ∷ ds) bs ≡ with_owned 0 ds (slice_set bs k (with_names (get_or bs k d) names))) (sym (owner_is o k some)) (given_from names ds k k 0 bs d (omega arith) h)

pub given_past : (o : Owner) (k : ℕ) (names : List (List ℕ)) (ds : List Declaration) (bs : List Breed) → breed_at o ≡ Some k → length bs ≤ k → with_owned 0 (declaration.Own o names ∷ ds) bs ≡ with_owned 0 ds bs
given_past o k names ds bs some h = subst (λ p. with_owned 0 (declaration.Own p names ∷ ds) bs ≡ with_owned 0 ds bs) (sym (owner_is o k some)) (above names ds k 0 bs (omega (arith, h)))

-- no declarations give nothing
pub given_nothing : (n : ℕ) (bs : List Breed) → with_owned n [] bs ≡ bs
given_nothing n [] = refl
given_nothing n (b ∷ bs) =
    ap (λ o. record { plural = b.plural; singular = b.singular; link = b.link; directed = b.directed; own = o } ∷ with_owned (n + 1) [] bs) (append-nil b.own)
    ∙ ap (λ r. b ∷ r) (given_nothing (n + 1) bs)

-- with all variables they are the breeds that are declared
pub all_given : (n : ℕ) (all ds : List Declaration) → with_owned n all (bare_breeds ds) ≡ breeds_from n all ds
all_given n all [] = refl
all_given n all (declaration.Breed s plural singular ∷ ds) = ap (λ r. with_names (breed_with s plural singular []) (owned_in (BreedAt n) all) ∷ r) (all_given (n + 1) all ds)
all_given n all (declaration.Globals names ∷ ds) = all_given n all ds
all_given n all (declaration.Own o names ∷ ds) = all_given n all ds
all_given n all (declaration.Procedure reporter name inputs tokens ∷ ds) = all_given n all ds
