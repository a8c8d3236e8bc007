-- Rows of chains of one kind, and the lists that they hold.
use Rattle.std.specs.Prelude.{◌≡◌, ℕ, List, Option, Some, None, slice_index_or}
use Rattle.nl_store_lists.specs.Chained.{put_last, take_out}
use Rattle.nl_store_records.specs.Filed.{no_keys, IsFiled}
use Rattle.nl_store_records.specs.declared.record.Record.{Record}
use Rattle.nl_store_records.specs.declared.places.Border.{Border}

-- the border of each chain of a row
abbrev pub borders_in : List Border → ℕ → Border
borders_in row number = slice_index_or row number no_keys

-- the lists with a key at the end of one of them, or of none
abbrev pub put_in : Option ℕ → ℕ → (ℕ → List ℕ) → ℕ → List ℕ
put_in None key lists = lists
put_in (Some number) key lists = put_last lists number key

-- the lists with a key taken out of one of them, or of none
abbrev pub take_from : Option ℕ → ℕ → (ℕ → List ℕ) → ℕ → List ℕ
take_from None key lists = lists
take_from (Some number) key lists = take_out lists number key

-- some lists are held, and the key is in the chain of this number, or in none
pub record IsIn (chain : ℕ) (row : List Border) (at : ℕ → Option Record) (number : Option ℕ) (key : ℕ) : Type 0 where
  pub home : ℕ → Option ℕ
  pub lists : ℕ → List ℕ
  pub filed : IsFiled chain (borders_in row) at home lists
  pub here : home key ≡ number
