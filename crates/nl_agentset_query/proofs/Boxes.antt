-- Agents of a list that a function puts on patches: those on the patches of a list, patch by patch.
use Rattle.std.specs.Prelude.{◌≡◌, ℕ, ◌+◌, ◌≤◌, ◌==◌, ◌||◌, Bool, true, false, if◌then◌else◌, List, [], ◌∷◌, ◌++◌, map, filter, length, refl}
use Rattle.std.proofs.Common.{ap, sym, ◌∙◌, arith}
use Rattle.std.specs.List.{flat_map}
use Rattle.std.specs.List.Sorted.{IsStrictlyIncreasing}
use Rattle.std.proofs.lemmas.Bool.{eq-eqb, eqb-true, false_from_ne_true}
use Rattle.std.proofs.lemmas.List.{length-append}
use Rattle.nl_agents.proofs.Ascending.{has, rest_ascends, first_is_below}

eqb_turned : (a b : ℕ) → (a == b) ≡ (b == a)
eqb_turned a b = by (a == b) refl (b == a) refl
  where
    by : (x : Bool) → (a == b) ≡ x → (y : Bool) → (b == a) ≡ y → x ≡ y
    by true p true q = refl
    by false p false q = refl
    by true p false q = sym (eq-eqb b a (sym (eqb-true a b p))) ∙ q
    by false p true q = sym p ∙ eq-eqb a b (sym (eqb-true b a q))

pub has_append : (xs ys : List ℕ) (z : ℕ) → has (xs ++ ys) z ≡ (has xs z || has ys z)
has_append [] ys z = refl
has_append (x ∷ xs) ys z = by (x == z) (has_append xs ys z)
  where
    by : (b : Bool) → has (xs ++ ys) z ≡ (has xs z || has ys z) → (b || has (xs ++ ys) z) ≡ ((b || has xs z) || has ys z)
    by true later = refl
    by false later = later

module _ {X : Type 0} (serial place : X → ℕ) where
  abbrev pub on : List X → ℕ → List ℕ
  on xs patch = map serial (filter (λ x. place x == patch) xs)

  abbrev pub on_any : List X → List ℕ → List ℕ
  on_any xs patches = map serial (filter (λ x. has patches (place x)) xs)

  abbrev pub on_each : List X → List ℕ → List ℕ
  on_each xs patches = flat_map (on xs) patches

  on_none : (xs : List X) → on_any xs [] ≡ []
  on_none [] = refl
  on_none (x ∷ xs) = on_none xs

  -- one patch more
  first_or_rest : (patch : ℕ) (patches : List ℕ) (xs : List X) (z : ℕ) → has (on_any xs (patch ∷ patches)) z ≡ (has (on xs patch) z || has (on_any xs patches) z)
  first_or_rest patch patches [] z = refl
  first_or_rest patch patches (x ∷ xs) z =
      by (patch == place x) (place x == patch) (has patches (place x)) (serial x == z) (eqb_turned patch (place x)) (first_or_rest patch patches xs z)
    where
      more : Bool → List ℕ → List ℕ
      more b l = if b then serial x ∷ l else l

      by : (a a' b c : Bool) → a ≡ a' → has (on_any xs (patch ∷ patches)) z ≡ (has (on xs patch) z || has (on_any xs patches) z)
          → has (map serial (if (a || b) then x ∷ filter (λ y. has (patch ∷ patches) (place y)) xs else filter (λ y. has (patch ∷ patches) (place y)) xs)) z
          ≡ (has (map serial (if a' then x ∷ filter (λ y. place y == patch) xs else filter (λ y. place y == patch) xs)) z
          || has (map serial (if b then x ∷ filter (λ y. has patches (place y)) xs else filter (λ y. has patches (place y)) xs)) z)
      by true true true c same later = sides (serial x == z) (has (on_any xs (patch ∷ patches)) z) (has (on xs patch) z) (has (on_any xs patches) z) later
        where
          sides : (d e f g : Bool) → e ≡ (f || g) → (d || e) ≡ ((d || f) || (d || g))
          sides true e f g h = refl
          sides false e f g h = h
      by true true false c same later = sides (serial x == z) (has (on_any xs (patch ∷ patches)) z) (has (on xs patch) z) (has (on_any xs patches) z) later
        where
          sides : (d e f g : Bool) → e ≡ (f || g) → (d || e) ≡ ((d || f) || g)
          sides true e f g h = refl
          sides false e f g h = h
      by false false true c same later = sides (serial x == z) (has (on_any xs (patch ∷ patches)) z) (has (on xs patch) z) (has (on_any xs patches) z) later
        where
          sides : (d e f g : Bool) → e ≡ (f || g) → (d || e) ≡ (f || (d || g))
          sides true e true g h = refl
          sides true e false g h = refl
          sides false e f g h = h
      by false false false c same later = later
      by true false b c same later = cc
      by false true b c same later = cc

  -- who stands on one of the patches stands in one of the lists
  pub each_has : (xs : List X) (patches : List ℕ) (z : ℕ) → has (on_each xs patches) z ≡ has (on_any xs patches) z
  each_has xs [] z = sym (ap (λ l. has l z) (on_none xs))
  each_has xs (patch ∷ patches) z =
      has_append (on xs patch) (on_each xs patches) z
      ∙ ap (λ b. has (on xs patch) z || b) (each_has xs patches z)
      ∙ sym (first_or_rest patch patches xs z)

  -- no agent stands on two patches
  counted : (patch : ℕ) (patches : List ℕ) (xs : List X) → has patches patch ≡ false
      → length (on xs patch) + length (on_any xs patches) ≤ length (on_any xs (patch ∷ patches))
  counted patch patches [] apart = omega arith
  counted patch patches (x ∷ xs) apart =
      by (patch == place x) refl (place x == patch) (has patches (place x)) refl (eqb_turned patch (place x)) (counted patch patches xs apart)
    where
      by : (a : Bool) → (patch == place x) ≡ a → (a' b : Bool) → has patches (place x) ≡ b → a ≡ a'
          → length (on xs patch) + length (on_any xs patches) ≤ length (on_any xs (patch ∷ patches))
          → length (map serial (if a' then x ∷ filter (λ y. place y == patch) xs else filter (λ y. place y == patch) xs))
          + length (map serial (if b then x ∷ filter (λ y. has patches (place y)) xs else filter (λ y. has patches (place y)) xs))
          ≤ length (map serial (if (a || b) then x ∷ filter (λ y. has (patch ∷ patches) (place y)) xs else filter (λ y. has (patch ∷ patches) (place y)) xs))
      by true here true true both same later =
          absurd (let wrong : true ≡ false = sym both ∙ ap (has patches) (sym (eqb-true patch (place x) here)) ∙ apart in cc)
      by true here true false both same later = omega (arith, later)
      by false here false true both same later = omega (arith, later)
      by false here false false both same later = later
      by true here false b both same later = cc
      by false here true b both same later = cc

  first_is_apart : (patch : ℕ) (patches : List ℕ) → IsStrictlyIncreasing (patch ∷ patches) → has patches patch ≡ false
  first_is_apart patch patches up =
      false_from_ne_true (has patches patch) (λ h. let below = first_is_below patch patches up patch h in omega (arith, below))

  pub each_counted : (xs : List X) (patches : List ℕ) → IsStrictlyIncreasing patches → length (on_each xs patches) ≤ length (on_any xs patches)
  each_counted xs [] up = omega arith
  each_counted xs (patch ∷ patches) up =
      let later = each_counted xs patches (rest_ascends patch patches up) in
      let here = counted patch patches xs (first_is_apart patch patches up) in
      omega (arith, later, here, length-append (on xs patch) (on_each xs patches))
