-- Steps of gathering settings and entries.
use Rattle.std.proofs.Common.{◌≡◌, ℕ, ◌+◌, List, [], ◌∷◌, ◌++◌, length, Some, Result, Ok, String, Global, string_bytes, sym, ap, ◌∙◌, arith}
use Rattle.std.specs.Prelude.{IsTrue}
use Rattle.std.specs.Option.{unwrap_or}
use Rattle.std.specs.Cmp.{second_so}
use Rattle.toml.specs.Data.{Data, string, integer, float, boolean, datetime, array, table, as_table, Members, no_members}
use Rattle.toml.specs.View.{items_view, members_view, view}
use Rattle.toml.specs.declared.value.Value.{Value}
use Rattle.nl_fixed.specs.Nouns.{Name, Names}
use Rattle.nl_experiment_sweep.specs.Varied.{PlainSetting}
use Rattle.nl_experiment_sweep.specs.declared.varied.Vary.{Vary}
use Rattle.nl_experiment_keys.specs.Reading.{told_at}
use Rattle.nl_experiment_keys.specs.declared.faults.KeyFault.{KeyFault}
use Rattle.nl_experiment_fields.specs.Entries.{entries_from, entry_by, in_entry, setting_in, settings_in}
use Rattle.nl_experiment_fields.specs.Keys.{in_globals}
use Rattle.nl_experiment_fields.specs.Names.{lowered}
use Rattle.nl_experiment_fields.specs.inner.Tables.{are_tables, is_table, tables_of}
use Rattle.nl_experiment_fields.proofs.Walks.{behind, behind_one}

-- one more setting, of the first key that is left
pub setting_more : (known known' : Names) (so_far so_far' : List PlainSetting) (entries rest : List (String Global × Value)) (key : String Global) (value : Value)
    (name : Name) (one : PlainSetting) (total : Result (List PlainSetting) KeyFault)
    → entries ≡ (key, value) ∷ rest → name ≡ lowered (string_bytes key) → told_at (in_globals ++ name) (setting_in known name (view value)) ≡ Ok one
    → so_far' ≡ so_far ++ one ∷ [] → known' ≡ known ++ name ∷ []
    → behind so_far (settings_in known (members_view entries)) ≡ total → behind so_far' (settings_in known' (members_view rest)) ≡ total
setting_more known known' so_far so_far' entries rest key value name one total first named read pushed learned is =
    let read' = rw named at read in
    let is' = rw (first, read') at is in
    rw (pushed, learned, named) (behind_one so_far one (settings_in (known ++ lowered (string_bytes key) ∷ []) (members_view rest)) ∙ is')

-- the members of a value that is a table
table_is : (d : Data) (inside : Members) → Some inside ≡ as_table d → d ≡ table inside
table_is (string text) inside is = cc
table_is (integer n) inside is = cc
table_is (float x) inside is = cc
table_is (boolean truth) inside is = cc
table_is (datetime date) inside is = cc
table_is (array ds) inside is = cc
table_is (table ms) inside is = ap (λ o. table (unwrap_or o no_members)) (sym is)

-- one more entry, of the first item that is left
pub entry_more : (number : ℕ) (known known' : Names) (so_far so_far' : List Vary) (left rest : List Value) (value : Value) (inside : Members)
    (one : Vary) (total : Result (List Vary) KeyFault)
    → left ≡ value ∷ rest → Some inside ≡ as_table (view value) → entry_by (in_entry number) known inside ≡ Ok one
    → so_far' ≡ so_far ++ one ∷ [] → known' ≡ known ++ one.name ∷ []
    → behind so_far (entries_from number known (tables_of (items_view left))) ≡ total
    → behind so_far' (entries_from (number + 1) known' (tables_of (items_view rest))) ≡ total
entry_more number known known' so_far so_far' left rest value inside one total first is_table' read pushed learned is =
    let seen = table_is (view value) inside is_table' in
    let is' = rw (first, seen, read) at is in
    rw (pushed, learned) (behind_one so_far one (entries_from (number + 1) (known ++ one.name ∷ []) (tables_of (items_view rest))) ∙ is')

-- the items that are left are tables
pub tables_more : (left rest : List Value) (value : Value) → left ≡ value ∷ rest → IsTrue (are_tables (items_view left)) → IsTrue (are_tables (items_view rest))
tables_more left rest value first all = let all' = rw first at all in second_so (is_table (view value)) (are_tables (items_view rest)) all'

-- and are counted
pub counted_more : (left rest : List Value) (value : Value) (number all : ℕ) → left ≡ value ∷ rest → number + length left ≡ all → number + 1 + length rest ≡ all
counted_more left rest value number all first is = let is' = rw first at is in omega (arith, is')
