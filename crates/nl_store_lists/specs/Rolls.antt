-- Items under keys, each with a number of its own, and the list of them in the order of their numbers.
--
-- Items stand under keys as they come; which key the item of a number has is kept beside them.
use Rattle.std.specs.Prelude.{◌≡◌, ℕ, ◌<◌, Bool, false, List, Option, Some, None}
use Rattle.nl_store_lists.specs.Rising.{collect}

-- the item under a key, where there is one
abbrev pub under : {X : Type 0} → (ℕ → Option X) → Option ℕ → Option X
under item None = None
under item (Some key) = item key

-- the item of each number
abbrev pub numbered : {X : Type 0} → (ℕ → Option X) → (ℕ → Option ℕ) → ℕ → Option X
numbered item key_of number = under item (key_of number)

-- the items of the numbers below n, in their order
abbrev pub roll : {X : Type 0} → (ℕ → Option X) → (ℕ → Option ℕ) → ℕ → List X
roll item key_of n = collect (numbered item key_of) n

-- there is an item, and it passes the test
abbrev pub passes : {X : Type 0} → (X → Bool) → Option X → Bool
passes test None = false
passes test (Some x) = test x

-- the number of an item, and 0 where there is none
abbrev pub listed_serial : {X : Type 0} → (X → ℕ) → Option X → ℕ
listed_serial number_of None = 0
listed_serial number_of (Some x) = number_of x

-- there is an item, and it has this number
pub record HasNumber {X : Type 0} (number_of : X → ℕ) (slot : Option X) (number : ℕ) : Type 0 where
  pub item : X
  pub is : slot ≡ Some item
  pub number_is : number_of item ≡ number

-- Each item is found under its number, which no other one has and which is below n; and a number without an item has no key.
pub record IsRoll {X : Type 0} (number_of : X → ℕ) (item : ℕ → Option X) (key_of : ℕ → Option ℕ) (n : ℕ) : Type 0 where
  pub right : (number key : ℕ) → key_of number ≡ Some key → HasNumber number_of (item key) number
  pub found : (key : ℕ) (x : X) → item key ≡ Some x → key_of (number_of x) ≡ Some key
  pub below : (number key : ℕ) → key_of number ≡ Some key → number < n
