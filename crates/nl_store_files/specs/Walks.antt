-- Walks along a chain of records.
use Rattle.std.specs.Prelude.{◌≡◌, ℕ, ◌≤◌, List, [], ◌∷◌, ◌++◌, length, map, Option, Some, None, IsSome}
use Rattle.nl_store_lists.specs.Chained.{IsOnce}
use Rattle.nl_store_lists.specs.Rising.{IsRisingBy}
use Rattle.nl_store_records.specs.Filed.{next_of}
use Rattle.nl_store_records.specs.declared.record.Record.{Record}
use Rattle.nl_index.specs.Index.{serial_at}

-- from the first key the next places of the kind lead through these keys
abbrev pub IsPath : ℕ → (ℕ → Option Record) → Option ℕ → List ℕ → Type 0
IsPath chain at first [] = first ≡ None
IsPath chain at first (k ∷ ks) = (first ≡ Some k) × IsSome (at k) × IsPath chain at (next_of chain (at k)) ks

-- a path of at most so many keys
pub record HasPath (chain : ℕ) (at : ℕ → Option Record) (first : Option ℕ) (most : ℕ) : Type 0 where
  pub keys : List ℕ
  pub path : IsPath chain at first keys
  pub short : length keys ≤ most

-- the serials of the records under these keys
abbrev pub serials_of : (ℕ → Option Record) → List ℕ → List ℕ
serials_of at ks = map (serial_at at) ks

-- a path of at most so many keys, whose serials rise
pub record HasRisingPath (chain : ℕ) (at : ℕ → Option Record) (first : Option ℕ) (most : ℕ) : Type 0 where
  pub keys : List ℕ
  pub path : IsPath chain at first keys
  pub short : length keys ≤ most
  pub rises : IsRisingBy (serial_at at) keys

-- a path of at most so many keys, whose serials differ
pub record HasMixedPath (chain : ℕ) (at : ℕ → Option Record) (first : Option ℕ) (most : ℕ) : Type 0 where
  pub keys : List ℕ
  pub path : IsPath chain at first keys
  pub short : length keys ≤ most
  pub once : IsOnce (serials_of at keys)

-- two paths of at most so many keys, by first and by second ends, whose serials all differ
pub record HaveMixedPaths (at : ℕ → Option Record) (first second : Option ℕ) (most : ℕ) : Type 0 where
  pub ones : List ℕ
  pub others : List ℕ
  pub path : IsPath 3 at first ones
  pub path_2 : IsPath 4 at second others
  pub short : length ones ≤ most
  pub short_2 : length others ≤ most
  pub once : IsOnce (serials_of at (ones ++ others))
