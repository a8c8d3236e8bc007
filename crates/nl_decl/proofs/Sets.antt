-- What sets of names tell of lists of names.
use Rattle.std.proofs.Common.{◌≡◌, ℕ, Bool, true, false, not, ◌||◌, if◌then◌else◌, List, [], ◌∷◌, bytes_eq, ap, sym, subst, refl, ◌∙◌}
use Rattle.std.specs.List.{list_any, filter}
use Rattle.std.specs.List.Sorted.{IsPermutation}
use Rattle.std.specs.Bool.{MatchBool}
use Rattle.std.specs.Cmp.Lexicographic.{nat_list_eq_equiv}
use Rattle.std.proofs.lemmas.Slice.Eq.{bytes_eq-Decides}
use Rattle.std.proofs.lemmas.List.Folds.{list_any-append}
use Rattle.std.proofs.lemmas.List.Sorted.{list_any-IsPermutation}
use Rattle.nl_tree.specs.Vocabulary.{among, joined}

pub same : (w v : List ℕ) → bytes_eq w v ≡ true → w ≡ v
same w v h = (bytes_eq-Decides w v).0 h

pub or_false : (b : Bool) → (b || false) ≡ b
or_false true = refl
or_false false = refl

not_not : (a b : Bool) → a ≡ not b → b ≡ not a
not_not a true h = ap not (sym h)
not_not a false h = ap not (sym h)

-- a set with one key more, by the bytes of its keys
pub inserted : {K : Type 0} (bytes : K → List ℕ) (k : K) (old new : List K) (added : Bool) → added ≡ not (list_any (λ y. bytes_eq (bytes k) (bytes y)) old)
    → MatchBool added (IsPermutation (k ∷ old) new) (new ≡ old)
    → (q : List ℕ) → list_any (λ y. bytes_eq q (bytes y)) new ≡ (bytes_eq (bytes k) q || list_any (λ y. bytes_eq q (bytes y)) old)
inserted bytes k old new true anew put q =
    sym (list_any-IsPermutation (λ y. bytes_eq q (bytes y)) (k ∷ old) new put) ∙ ap (λ b. b || list_any (λ y. bytes_eq q (bytes y)) old) (nat_list_eq_equiv.symm q (bytes k))
inserted bytes k old new false again put q = ap (list_any (λ y. bytes_eq q (bytes y))) put ∙ at (bytes_eq (bytes k) q) refl
  where
    at : (b : Bool) → bytes_eq (bytes k) q ≡ b → list_any (λ y. bytes_eq q (bytes y)) old ≡ (b || list_any (λ y. bytes_eq q (bytes y)) old)
    at false e = refl
    at true e = subst (λ (v : List ℕ). list_any (λ y. bytes_eq v (bytes y)) old ≡ true) (same (bytes k) q e) (not_not false (list_any (λ y. bytes_eq (bytes k) (bytes y)) old) again)

-- ---- lists that are joined

-- a name of the first list is none of those that aren't in it
apart : (q y : List ℕ) (xs : List (List ℕ)) → among q xs ≡ false → among y xs ≡ true → bytes_eq y q ≡ false
apart q y xs none there = tell (bytes_eq y q) refl
  where
    tell : (c : Bool) → bytes_eq y q ≡ c → c ≡ false
    tell false f = refl
    tell true f = sym there ∙ ap (λ (v : List ℕ). among v xs) (same y q f) ∙ none

kept : (q : List ℕ) (xs zs : List (List ℕ)) → among q xs ≡ false → among q (filter (λ y. not (among y xs)) zs) ≡ among q zs
kept q xs [] none = refl
kept q xs (z ∷ zs) none = step (among z xs) refl (kept q xs zs none)
  where
    step : (b : Bool) → among z xs ≡ b → among q (filter (λ y. not (among y xs)) zs) ≡ among q zs
        → among q (if not b then z ∷ filter (λ y. not (among y xs)) zs else filter (λ y. not (among y xs)) zs) ≡ (bytes_eq z q || among q zs)
    step false e later = ap (λ b. bytes_eq z q || b) later
    step true e later = later ∙ ap (λ b. b || among q zs) (sym (apart q z xs none e))

pub among_joined : (q : List ℕ) (xs ys : List (List ℕ)) → among q (joined xs ys) ≡ (among q xs || among q ys)
among_joined q xs ys = list_any-append (λ n. bytes_eq n q) xs (filter (λ y. not (among y xs)) ys) ∙ at (among q xs) refl
  where
    at : (b : Bool) → among q xs ≡ b → (b || among q (filter (λ y. not (among y xs)) ys)) ≡ (b || among q ys)
    at true e = refl
    at false e = kept q xs ys e

-- two tests one after another
both_step : (x : List ℕ) (ys zs : List (List ℕ)) (p : List ℕ → Bool) (b c : Bool) → c ≡ (b || p x) → ys ≡ filter (λ y. not (p y)) zs
    → (if not c then x ∷ ys else ys) ≡ filter (λ y. not (p y)) (if not b then x ∷ zs else zs)
both_step x ys zs p true c e later = ap (λ z. if not z then x ∷ ys else ys) e ∙ later
both_step x ys zs p false c e later = ap (λ z. if not z then x ∷ ys else ys) e ∙ ap (λ us. if not (p x) then x ∷ us else us) later

pub filter_both : (p q r : List ℕ → Bool) (xs : List (List ℕ)) → ((x : List ℕ) → r x ≡ (q x || p x)) → filter (λ x. not (r x)) xs ≡ filter (λ x. not (p x)) (filter (λ x. not (q x)) xs)
filter_both p q r [] both = refl
filter_both p q r (x ∷ xs) both = both_step x (filter (λ y. not (r y)) xs) (filter (λ y. not (q y)) xs) p (q x) (r x) (both x) (filter_both p q r xs both)

pub filter_none : (p : List ℕ → Bool) (xs : List (List ℕ)) → ((x : List ℕ) → p x ≡ false) → filter (λ x. not (p x)) xs ≡ xs
filter_none p [] none = refl
filter_none p (x ∷ xs) none = ap (λ z. if not z then x ∷ filter (λ y. not (p y)) xs else filter (λ y. not (p y)) xs) (none x) ∙ ap (λ ys. x ∷ ys) (filter_none p xs none)
