-- What holds of lists that are kept as what stands after and before each key, and of lists in order.
use Rattle.std.specs.Prelude.{◌≡◌, ◌↔◌, ℕ, ◌<◌, ◌+◌, true, List, [], length, Option, Some, None}
use Rattle.std.specs.List.Sorted.{IsPermutation, IsNonDecreasing}
use Rattle.nl_store_lists.specs.Chained.{has, IsOnce, without, at_number, put_last, take_out, IsThreaded, Turns}
use Rattle.nl_store_lists.specs.Rising.{IsRisingBy, collect}

-- where no key is in a list and each border leads to itself, all lists are empty
abbrev pub NoKeysAtFirst : Type 0
NoKeysAtFirst =
    (home : ℕ → Option ℕ) (next previous : ℕ → Option ℕ → Option ℕ) → ((key : ℕ) → home key ≡ None) →
    ((number : ℕ) → next number None ≡ None) → ((number : ℕ) → previous number None ≡ None) → IsThreaded home next previous (λ _. [])

-- A key is taken out: what stood before it leads to what stood after it, and back. The other keys keep their order, and the other lists
-- are as they were.
abbrev pub KeysAreTakenOut : Type 0
KeysAreTakenOut =
    (home : ℕ → Option ℕ) (next previous next' previous' : ℕ → Option ℕ → Option ℕ) (lists : ℕ → List ℕ) (number key : ℕ) →
    IsThreaded home next previous lists → home key ≡ Some number →
    Turns (at_number home key None) number (previous number (Some key)) (next number (Some key)) next next' →
    Turns (at_number home key None) number (next number (Some key)) (previous number (Some key)) previous previous' →
    IsThreaded (at_number home key None) next' previous' (take_out lists number key)

-- A key that is in no list is put at the end of one: the last place leads to it, and it leads to the border, and back.
abbrev pub KeysArePutLast : Type 0
KeysArePutLast =
    (home : ℕ → Option ℕ) (next previous next' previous' : ℕ → Option ℕ → Option ℕ) (lists : ℕ → List ℕ) (number key : ℕ) →
    IsThreaded home next previous lists → home key ≡ None →
    Turns home number (previous number None) (Some key) next next' → next' number (Some key) ≡ None →
    Turns home number None (Some key) previous previous' → previous' number (Some key) ≡ previous number None →
    IsThreaded (at_number home key (Some number)) next' previous' (put_last lists number key)

-- what stands after each key tells the lists
abbrev pub ListsAreOne : Type 0
ListsAreOne =
    (home other : ℕ → Option ℕ) (next previous before : ℕ → Option ℕ → Option ℕ) (xs ys : ℕ → List ℕ) →
    IsThreaded home next previous xs → IsThreaded other next before ys → (number : ℕ) → xs number ≡ ys number

-- lists that rise are the same where they have the same keys, and have each key once
abbrev pub RisingListsAreOne : Type 0
RisingListsAreOne =
    (measure : ℕ → ℕ) (xs ys : List ℕ) → IsRisingBy measure xs → IsRisingBy measure ys → ((key : ℕ) → has xs key ≡ has ys key) → xs ≡ ys

abbrev pub RisingListsHaveKeysOnce : Type 0
RisingListsHaveKeysOnce = (measure : ℕ → ℕ) (xs : List ℕ) → IsRisingBy measure xs → IsOnce xs

-- a list rises without a key, and with a key behind it that is above all others
abbrev pub TakingKeepsOrder : Type 0
TakingKeepsOrder = (measure : ℕ → ℕ) (xs : List ℕ) (key : ℕ) → IsRisingBy measure xs → IsRisingBy measure (without key xs)

abbrev pub PuttingKeepsOrder : Type 0
PuttingKeepsOrder =
    (measure : ℕ → ℕ) (lists : ℕ → List ℕ) (number key : ℕ) → IsRisingBy measure (lists number) →
    ((other : ℕ) → has (lists number) other ≡ true → measure other < measure key) →
    IsRisingBy measure (put_last lists number key number)

-- a list of different numbers that is sorted rises, and has the numbers that it had
pub record IsInOrder (xs ys : List ℕ) : Type 0 where
  pub rises : IsRisingBy (λ number. number) ys
  pub same : (number : ℕ) → has ys number ≡ has xs number

abbrev pub SortedListsRise : Type 0
SortedListsRise = (xs ys : List ℕ) → IsOnce xs → IsPermutation xs ys → IsNonDecreasing ys → IsInOrder xs ys

-- What is collected is what the function has, and rises by the numbers for which it has it.
abbrev pub CollectedKeysAreThose : Type 0
CollectedKeysAreThose =
    (f : ℕ → Option ℕ) (n key : ℕ) → (has (collect f n) key ≡ true) ↔ ((number : ℕ) × (number < n) × (f number ≡ Some key))

abbrev pub CollectedKeysRise : Type 0
CollectedKeysRise =
    (measure : ℕ → ℕ) (f : ℕ → Option ℕ) (n : ℕ) → ((number key : ℕ) → f number ≡ Some key → measure key ≡ number) →
    IsRisingBy measure (collect f n)

-- where the function has nothing for a number any more, its key is gone
abbrev pub CollectingLeavesOut : Type 0
CollectingLeavesOut =
    (measure : ℕ → ℕ) (f : ℕ → Option ℕ) (n number key : ℕ) → ((m k : ℕ) → f m ≡ Some k → measure k ≡ m) →
    f number ≡ Some key → collect (at_number f number None) n ≡ without key (collect f n)

-- a list without one of its keys is shorter by one
abbrev pub TakingShortens : Type 0
TakingShortens = (key : ℕ) (xs : List ℕ) → has xs key ≡ true → length (without key xs) + 1 ≡ length xs
