-- The tables among the items of an array, as the code takes them.
use Rattle.std.specs.Prelude.{Bool, true, false, ◌&&◌, List, [], ◌∷◌}
use Rattle.toml.specs.Data.{Data, table, Items, no_items, item, Members}

abbrev pub is_table : Data → Bool
is_table (table ms) = true
is_table other = false

abbrev pub are_tables : Items → Bool
are_tables no_items = true
are_tables (item d ds) = is_table d && are_tables ds

-- the members of a table before those of others
abbrev pub before_others : Data → List Members → List Members
before_others (table ms) others = ms ∷ others
before_others other others = others

abbrev pub tables_of : Items → List Members
tables_of no_items = []
tables_of (item d ds) = before_others d (tables_of ds)
