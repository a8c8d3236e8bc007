-- Plain documents: those that are written in one way and read back as what they were.
use Rattle.std.specs.Prelude.{◌≡◌, ◌≤◌, Bool, true, false, ◌&&◌}
use Rattle.toml.specs.Data.{Data, string, integer, float, boolean, datetime, array, table, Items, no_items, item, Members, no_members, member, members_depth}

-- a text, a whole number, a truth, or an array or a table of such: no floating-point number and no date
abbrev mutual
  pub is_plain : Data → Bool
  is_plain (string text) = true
  is_plain (integer n) = true
  is_plain (float x) = false
  is_plain (boolean truth) = true
  is_plain (datetime date) = false
  is_plain (array items) = items_are_plain items
  is_plain (table members) = members_are_plain members

  pub items_are_plain : Items → Bool
  items_are_plain no_items = true
  items_are_plain (item d ds) = is_plain d && items_are_plain ds

  pub members_are_plain : Members → Bool
  members_are_plain no_members = true
  members_are_plain (member key d rest) = is_plain d && members_are_plain rest

-- the members of a plain document: the values of an entry of a list of entries lie three deep
pub record ArePlain (members : Members) : Type 0 where
  pub plain : members_are_plain members ≡ true
  pub shallow : members_depth members ≤ 3
