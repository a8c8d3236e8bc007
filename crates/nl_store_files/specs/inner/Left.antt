-- How far a walk has come.
use Rattle.std.specs.Prelude.{◌≡◌, ℕ, ◌+◌, List, ◌++◌, length, Option}
use Rattle.nl_store_records.specs.declared.record.Record.{Record}
use Rattle.nl_store_files.specs.Walks.{IsPath, serials_of}

-- after so many of the keys these are left
pub record IsLeft (chain : ℕ) (at : ℕ → Option Record) (here : Option ℕ) (keys was now : List ℕ) (before after passed : ℕ) : Type 0 where
  pub rest : List ℕ
  pub path : IsPath chain at here rest
  pub told : now ++ serials_of at rest ≡ was ++ serials_of at keys
  pub reads : after + length rest ≡ before + length keys
  pub far : length rest + passed ≡ length keys
