-- A list of names, and a set of the same names by which one is found.
use Rattle.std.proofs.Common.{◌≡◌, ℕ, Bool, true, false, not, ◌||◌, List, [], ◌∷◌, ◌++◌, bytes_eq, ap, sym, subst, refl, ◌∙◌}
use Rattle.std.specs.List.{list_any}
use Rattle.std.specs.List.Sorted.{IsPermutation}
use Rattle.std.specs.Bool.{MatchBool}
use Rattle.std.specs.Cmp.Lexicographic.{nat_list_eq_equiv}
use Rattle.std.proofs.lemmas.Slice.Eq.{bytes_eq-Decides}
use Rattle.std.proofs.lemmas.List.Folds.{list_any-append}
use Rattle.std.proofs.lemmas.List.Sorted.{list_any-IsPermutation}
use Rattle.nl_tree.specs.Vocabulary.{among}

not_not : (b : Bool) → false ≡ not b → b ≡ true
not_not true h = refl
not_not false h = h

swap : (a b : Bool) → (a || b) ≡ (b || (a || false))
swap true true = refl
swap true false = refl
swap false true = refl
swap false false = refl

module _ {K : Type 0} (bytes : K → List ℕ) where
  -- the keys have one of these bytes
  abbrev pub found : List K → List ℕ → Bool
  found keys q = list_any (λ y. bytes_eq q (bytes y)) keys

  -- one key more, which may be there already
  inserted : (k : K) (old new : List K) (added : Bool) → added ≡ not (found old (bytes k)) → MatchBool added (IsPermutation (k ∷ old) new) (new ≡ old) → (q : List ℕ) → found new q ≡ (bytes_eq (bytes k) q || found old q)
  inserted k old new true anew put q = sym (list_any-IsPermutation (λ y. bytes_eq q (bytes y)) (k ∷ old) new put) ∙ ap (λ b. b || found old q) (nat_list_eq_equiv.symm q (bytes k))
  inserted k old new false again put q = ap (list_any (λ y. bytes_eq q (bytes y))) put ∙ at (bytes_eq (bytes k) q) refl
    where
      at : (b : Bool) → bytes_eq (bytes k) q ≡ b → found old q ≡ (b || found old q)
      at false e = refl
      at true e = subst (λ (v : List ℕ). found old v ≡ true) ((bytes_eq-Decides (bytes k) q).0 e) (not_not (found old (bytes k)) again)

  -- a name more in the list, and its key in the set
  pub both_pushed : (ns : List (List ℕ)) (n : List ℕ) (k : K) (old new : List K) (added : Bool) → bytes k ≡ n → added ≡ not (found old (bytes k)) → MatchBool added (IsPermutation (k ∷ old) new) (new ≡ old) → ((q : List ℕ) → found old q ≡ among q ns) → (q : List ℕ) → found new q ≡ among q (ns ++ n ∷ [])
  both_pushed ns n k old new added copied anew put same q =
      inserted k old new added anew put q
      ∙ ap (λ b. bytes_eq (bytes k) q || b) (same q)
      ∙ ap (λ (v : List ℕ). bytes_eq v q || among q ns) copied
      ∙ swap (bytes_eq n q) (among q ns)
      ∙ sym (list_any-append (λ v. bytes_eq v q) ns (n ∷ []))
