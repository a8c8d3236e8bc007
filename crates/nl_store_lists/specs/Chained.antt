-- Lists of keys, kept as what stands after and before each key.
--
-- A place is a key, or `None`: the border of a list, which stands before its first key and behind its last one. So the first, a middle
-- and the last key of a list are one case. Each key is in one list at most, and lists have numbers.
use Rattle.std.specs.Prelude.{◌≡◌, ◌≢◌, ℕ, Bool, true, false, List, [], ◌∷◌, ◌++◌, Option, Some, None, eqb, if◌then◌else◌}

-- the key is in the list
abbrev pub has : List ℕ → ℕ → Bool
has [] key = false
has (x ∷ xs) key = if eqb key x then true else has xs key

-- no key is in the list twice
abbrev pub IsOnce : List ℕ → Type 0
IsOnce [] = Unit {0}
IsOnce (x ∷ xs) = (has xs x ≡ false) × IsOnce xs

-- the list with the key taken out
abbrev pub without : ℕ → List ℕ → List ℕ
without key [] = []
without key (x ∷ xs) = if eqb key x then xs else x ∷ without key xs

-- the function with another value at this number
abbrev pub at_number : {A : Type 0} → (ℕ → A) → ℕ → A → ℕ → A
at_number f number value n = if eqb n number then value else f n

-- the lists with a key at the end of one of them
abbrev pub put_last : (ℕ → List ℕ) → ℕ → ℕ → ℕ → List ℕ
put_last lists number key = at_number lists number (lists number ++ key ∷ [])

-- the lists with a key taken out of one of them
abbrev pub take_out : (ℕ → List ℕ) → ℕ → ℕ → ℕ → List ℕ
take_out lists number key = at_number lists number (without key (lists number))

-- what a step leads to from a place: the keys of the list one after the other, and then the border
abbrev pub IsWalk : (Option ℕ → Option ℕ) → Option ℕ → List ℕ → Type 0
IsWalk step from [] = step from ≡ None
IsWalk step from (x ∷ xs) = (step from ≡ Some x) × IsWalk step (Some x) xs

-- the number of the list that a key is in is this one
abbrev pub is_in : Option ℕ → ℕ → Bool
is_in None number = false
is_in (Some n) number = eqb n number

-- the place is one of this list: its border, or a key that is in it
abbrev pub IsPlace : (ℕ → Option ℕ) → ℕ → Option ℕ → Type 0
IsPlace home number None = Unit {0}
IsPlace home number (Some key) = home key ≡ Some number

-- a step leads from each place of a list to one of the same list, and the other step leads back
pub record IsInverse (home : ℕ → Option ℕ) (step back : ℕ → Option ℕ → Option ℕ) : Type 0 where
  pub stays : (number : ℕ) (place : Option ℕ) → IsPlace home number place → IsPlace home number (step number place)
  pub undone : (number : ℕ) (place : Option ℕ) → IsPlace home number place → back number (step number place) ≡ place

-- Each key is in the list that `home` tells, once, and in no other; `next` walks through each list from its border to its border, and
-- `previous` is its inverse.
pub record IsThreaded (home : ℕ → Option ℕ) (next previous : ℕ → Option ℕ → Option ℕ) (lists : ℕ → List ℕ) : Type 0 where
  pub members : (number key : ℕ) → has (lists number) key ≡ is_in (home key) number
  pub once : (number : ℕ) → IsOnce (lists number)
  pub walk : (number : ℕ) → IsWalk (next number) None (lists number)
  pub forth : IsInverse home next previous
  pub back : IsInverse home previous next

-- the step leads elsewhere from one place of one list, and from every other place where it led before
pub record Turns (home : ℕ → Option ℕ) (number : ℕ) (place to : Option ℕ) (old new : ℕ → Option ℕ → Option ℕ) : Type 0 where
  pub hit : new number place ≡ to
  pub miss : (n : ℕ) (a : Option ℕ) → IsPlace home n a → (n ≡ number → a ≢ place) → new n a ≡ old n a
