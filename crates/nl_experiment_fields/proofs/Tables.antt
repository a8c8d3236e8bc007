-- An array of tables, whose items are their members.
use Rattle.std.proofs.Common.{◌≡◌, Bool, false, true, refl, sym, ap}
use Rattle.std.specs.Prelude.{if◌then◌else◌, Some, Ok, Err}
use Rattle.std.specs.Option.{unwrap_or}
use Rattle.toml.specs.Data.{Data, string, integer, float, boolean, datetime, array, table, as_array, Items, no_items, item}
use Rattle.nl_experiment_keys.specs.Reading.{each_item, has_float, members_in}
use Rattle.nl_experiment_keys.specs.declared.faults.PlanKind.TheVariants.{WrongKind}
use Rattle.nl_experiment_fields.specs.Entries.{tables_in}
use Rattle.nl_experiment_fields.specs.inner.Tables.{are_tables, tables_of}

-- where no item is a floating-point number, all are tables, or one is of another kind
tables_read : (items : Items) → has_float items ≡ false → each_item members_in items ≡ (if are_tables items then Ok (tables_of items) else Err WrongKind)
tables_read no_items none = refl
tables_read (item (string text) items) none = refl
tables_read (item (integer n) items) none = refl
tables_read (item (float x) items) none = cc
tables_read (item (boolean truth) items) none = refl
tables_read (item (datetime date) items) none = refl
tables_read (item (array inner) items) none = refl
tables_read (item (table inside) items) none = by (are_tables items) refl (tables_read items none)
  where
    by : (all : Bool) → are_tables items ≡ all → each_item members_in items ≡ (if are_tables items then Ok (tables_of items) else Err WrongKind)
        → each_item members_in (item (table inside) items) ≡ (if are_tables (item (table inside) items) then Ok (tables_of (item (table inside) items)) else Err WrongKind)
    by true is read = let read' = rw is at read in rw (is, read') refl
    by false is read = let read' = rw is at read in rw (is, read') refl

-- the items of a value that is an array
array_is : (d : Data) (items : Items) → Some items ≡ as_array d → d ≡ array items
array_is (string text) items is = cc
array_is (integer n) items is = cc
array_is (float x) items is = cc
array_is (boolean truth) items is = cc
array_is (datetime date) items is = cc
array_is (array ds) items is = ap (λ o. array (unwrap_or o no_items)) (sym is)
array_is (table ms) items is = cc

pub tables_good : (d : Data) (items : Items) → Some items ≡ as_array d → has_float items ≡ false → are_tables items ≡ true → tables_in d ≡ Ok (tables_of items)
tables_good d items is none all = let read = rw all at (tables_read items none) in rw (array_is d items is, none, read) refl

pub tables_bad : (d : Data) (items : Items) → Some items ≡ as_array d → has_float items ≡ false → are_tables items ≡ false → tables_in d ≡ Err WrongKind
tables_bad d items is none all = let read = rw all at (tables_read items none) in rw (array_is d items is, none, read) refl
