-- A code for plain values, by which a proof tells them apart: the value written out as numbers. The model of `Items` wants one.
use Rattle.std.specs.Prelude.{◌≡◌, ℕ, zero, suc, ◌+◌, ◌≤◌, pos, negsuc, true, false, List, [], ◌∷◌, ◌++◌, length, take, drop, refl}
use Rattle.std.proofs.Common.{ap, arith}
use Rattle.std.specs.Coded.{Coded, code_by, coded_list, coded_ℕ}
use Rattle.nl_value.specs.declared.sets.AgentSet.{AgentSet}
use Rattle.nl_value.specs.declared.sets.AgentSet.TheVariants.{Turtles, Breed, Patches, Links, LinkBreed, SomeTurtles, SomePatches, SomeLinks}
use Rattle.nl_value.specs.Plain.{Plain, Plains, PlainNumber, PlainTruth, PlainWords, PlainItems, PlainTurtle, PlainPatch, PlainLink, PlainNobody, PlainSet, no_items, item_then}

-- a value without items is a kind, a number and a list of numbers
abbrev pub leaf_written : ℕ → ℕ → List ℕ → List ℕ → List ℕ
leaf_written kind n xs r = suc kind ∷ n ∷ length xs ∷ (xs ++ r)

abbrev pub set_written : AgentSet → List ℕ → List ℕ
set_written Turtles r = leaf_written 9 0 [] r
set_written (Breed breed) r = leaf_written 10 breed [] r
set_written Patches r = leaf_written 11 0 [] r
set_written Links r = leaf_written 12 0 [] r
set_written (LinkBreed breed) r = leaf_written 13 breed [] r
set_written (SomeTurtles xs) r = leaf_written 14 0 xs r
set_written (SomePatches xs) r = leaf_written 15 0 xs r
set_written (SomeLinks xs) r = leaf_written 16 0 xs r

abbrev mutual
  pub written : Plain → List ℕ → List ℕ
  written (PlainNumber (pos n)) r = leaf_written 0 n [] r
  written (PlainNumber (negsuc n)) r = leaf_written 1 n [] r
  written (PlainTruth true) r = leaf_written 2 0 [] r
  written (PlainTruth false) r = leaf_written 3 0 [] r
  written (PlainWords bytes) r = leaf_written 4 0 bytes r
  written (PlainItems items) r = 0 ∷ all_written items r
  written (PlainTurtle turtle) r = leaf_written 5 turtle [] r
  written (PlainPatch patch) r = leaf_written 6 patch [] r
  written (PlainLink link) r = leaf_written 7 link [] r
  written PlainNobody r = leaf_written 8 0 [] r
  written (PlainSet set) r = set_written set r

  pub all_written : Plains → List ℕ → List ℕ
  all_written no_items r = 0 ∷ r
  all_written (item_then p ps) r = 1 ∷ written p (all_written ps r)

-- the set of a kind, counted from that of all turtles
abbrev pub set_of : ℕ → ℕ → List ℕ → AgentSet
set_of zero n xs = Turtles
set_of (suc zero) n xs = Breed n
set_of (suc (suc zero)) n xs = Patches
set_of (suc (suc (suc zero))) n xs = Links
set_of (suc (suc (suc (suc zero)))) n xs = LinkBreed n
set_of (suc (suc (suc (suc (suc zero))))) n xs = SomeTurtles xs
set_of (suc (suc (suc (suc (suc (suc zero)))))) n xs = SomePatches xs
set_of (suc (suc (suc (suc (suc (suc (suc kind))))))) n xs = SomeLinks xs

abbrev pub leaf_of : ℕ → ℕ → List ℕ → Plain
leaf_of zero n xs = PlainNumber (pos n)
leaf_of (suc zero) n xs = PlainNumber (negsuc n)
leaf_of (suc (suc zero)) n xs = PlainTruth true
leaf_of (suc (suc (suc zero))) n xs = PlainTruth false
leaf_of (suc (suc (suc (suc zero)))) n xs = PlainWords xs
leaf_of (suc (suc (suc (suc (suc zero))))) n xs = PlainTurtle n
leaf_of (suc (suc (suc (suc (suc (suc zero)))))) n xs = PlainPatch n
leaf_of (suc (suc (suc (suc (suc (suc (suc zero))))))) n xs = PlainLink n
leaf_of (suc (suc (suc (suc (suc (suc (suc (suc zero)))))))) n xs = PlainNobody
leaf_of (suc (suc (suc (suc (suc (suc (suc (suc (suc kind))))))))) n xs = PlainSet (set_of kind n xs)

abbrev mutual
  pub reach : Plain → ℕ
  reach (PlainNumber count) = 1
  reach (PlainTruth truth) = 1
  reach (PlainWords bytes) = 1
  reach (PlainItems items) = suc (reaches items)
  reach (PlainTurtle turtle) = 1
  reach (PlainPatch patch) = 1
  reach (PlainLink link) = 1
  reach PlainNobody = 1
  reach (PlainSet set) = 1

  pub reaches : Plains → ℕ
  reaches no_items = 1
  reaches (item_then p ps) = suc (reach p + reaches ps)

abbrev pub nothing_read : Plain × List ℕ
nothing_read = (PlainNobody, [])

abbrev pub leaf_from : ℕ → List ℕ → Plain × List ℕ
leaf_from kind [] = nothing_read
leaf_from kind (n ∷ []) = nothing_read
leaf_from kind (n ∷ m ∷ xs) = (leaf_of kind n (take m xs), drop m xs)

abbrev pub as_items : Plains × List ℕ → Plain × List ℕ
as_items q = (PlainItems q.0, q.1)

abbrev pub with_first : Plain → Plains × List ℕ → Plains × List ℕ
with_first p q = (item_then p q.0, q.1)

abbrev mutual
  pub read : ℕ → List ℕ → Plain × List ℕ
  read zero xs = nothing_read
  read (suc f) [] = nothing_read
  read (suc f) (zero ∷ xs) = as_items (read_all f xs)
  read (suc f) (suc kind ∷ xs) = leaf_from kind xs

  pub read_all : ℕ → List ℕ → Plains × List ℕ
  read_all zero xs = (no_items, [])
  read_all (suc f) [] = (no_items, [])
  read_all (suc f) (zero ∷ xs) = (no_items, xs)
  read_all (suc f) (suc t ∷ xs) = with_first ((read f xs).0) (read_all f ((read f xs).1))

take-front : (a r : List ℕ) → take (length a) (a ++ r) ≡ a
take-front [] r = refl
take-front (x ∷ a) r = ap (λ xs. x ∷ xs) (take-front a r)

drop-front : (a r : List ℕ) → drop (length a) (a ++ r) ≡ r
drop-front [] r = refl
drop-front (x ∷ a) r = drop-front a r

leaf-again : (kind n : ℕ) (xs r : List ℕ) (f : ℕ) → 1 ≤ f → read f (leaf_written kind n xs r) ≡ (leaf_of kind n xs, r)
leaf-again kind n xs r zero h = absurd (omega (arith, h))
leaf-again kind n xs r (suc f) h = rw (take-front xs r, drop-front xs r) refl

set-again : (set : AgentSet) (r : List ℕ) (f : ℕ) → 1 ≤ f → read f (set_written set r) ≡ (PlainSet set, r)
set-again Turtles r f h = leaf-again 9 0 [] r f h
set-again (Breed breed) r f h = leaf-again 10 breed [] r f h
set-again Patches r f h = leaf-again 11 0 [] r f h
set-again Links r f h = leaf-again 12 0 [] r f h
set-again (LinkBreed breed) r f h = leaf-again 13 breed [] r f h
set-again (SomeTurtles xs) r f h = leaf-again 14 0 xs r f h
set-again (SomePatches xs) r f h = leaf-again 15 0 xs r f h
set-again (SomeLinks xs) r f h = leaf-again 16 0 xs r f h

mutual
  pub read-written : (p : Plain) (f : ℕ) (r : List ℕ) → reach p ≤ f → read f (written p r) ≡ (p, r)
  read-written (PlainNumber (pos n)) f r h = leaf-again 0 n [] r f h
  read-written (PlainNumber (negsuc n)) f r h = leaf-again 1 n [] r f h
  read-written (PlainTruth true) f r h = leaf-again 2 0 [] r f h
  read-written (PlainTruth false) f r h = leaf-again 3 0 [] r f h
  read-written (PlainWords bytes) f r h = leaf-again 4 0 bytes r f h
  read-written (PlainItems items) zero r h = absurd (omega (arith, h))
  read-written (PlainItems items) (suc f) r h = ap as_items (read_all-written items f r (omega (arith, h)))
  read-written (PlainTurtle turtle) f r h = leaf-again 5 turtle [] r f h
  read-written (PlainPatch patch) f r h = leaf-again 6 patch [] r f h
  read-written (PlainLink link) f r h = leaf-again 7 link [] r f h
  read-written PlainNobody f r h = leaf-again 8 0 [] r f h
  read-written (PlainSet set) f r h = set-again set r f h

  pub read_all-written : (ps : Plains) (f : ℕ) (r : List ℕ) → reaches ps ≤ f → read_all f (all_written ps r) ≡ (ps, r)
  read_all-written no_items zero r h = absurd (omega (arith, h))
  read_all-written no_items (suc f) r h = refl
  read_all-written (item_then p ps) zero r h = absurd (omega (arith, h))
  read_all-written (item_then p ps) (suc f) r h =
      let first = read-written p f (all_written ps r) (omega (arith, h)) in
      rw (first, read_all-written ps f r (omega (arith, h))) refl

abbrev pub to_code : Plain → List ℕ
to_code p = reach p ∷ written p []

abbrev pub from_code : List ℕ → Plain
from_code [] = PlainNobody
from_code (f ∷ xs) = (read f xs).0

pub again : (p : Plain) → from_code (to_code p) ≡ p
again p = ap (λ q. q.0) (read-written p (reach p) [] (omega arith))

abbrev pub plain_code : Coded Plain
plain_code = code_by (List ℕ) (coded_list coded_ℕ) to_code from_code again
