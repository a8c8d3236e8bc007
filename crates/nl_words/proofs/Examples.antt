-- The definitions at examples.
use Rattle.std.proofs.Common.{◌≡◌, true, false, [], ◌∷◌, None, length, slice_get, codes, refl}
use Rattle.std.specs.List.{list_any, list_all}
use Rattle.nl_words.specs.declared.codes.TheConstants.{ARROW, FOREACH, MINUS, SORT_BY, SPROUT, YELLOW}
use Rattle.nl_words.specs.Row.{row_named, row_at}
use Rattle.nl_words.specs.Rows.{rows}
use Rattle.nl_words.specs.Table.{is_number, is_name}

numbers : list_all is_number (codes "0" ∷ codes "12" ∷ codes "-3." ∷ codes ".5" ∷ codes "-.5" ∷ codes "1e3" ∷ codes "1.5E-12" ∷ codes "2.e+07" ∷ []) ≡ true
numbers = refl

no_numbers : list_any is_number (codes "" ∷ codes "-" ∷ codes "." ∷ codes "e" ∷ codes "1e" ∷ codes "1e123" ∷ codes "--1" ∷ codes "1-" ∷ codes "1.2.3" ∷ codes "+1" ∷ codes "-.e5" ∷ codes "1e3x" ∷ []) ≡ false
no_numbers = refl

names : list_all is_name (codes "x-1" ∷ codes "-" ∷ codes "->" ∷ codes "<=" ∷ codes "any?" ∷ codes "1-" ∷ codes "a.b" ∷ []) ≡ true
names = refl

no_names : list_any is_name (codes "" ∷ codes "FD" ∷ codes "a b" ∷ codes "(" ∷ codes "12" ∷ codes "a,b" ∷ codes "a;b" ∷ []) ≡ false
no_names = refl

rows_number : length rows ≡ 341
unfolding rows
rows_number = refl

ask_is_found : row_named rows (codes "ask") ≡ slice_get rows 16
unfolding rows
ask_is_found = refl

minus_is_named : row_named rows (codes "-") ≡ row_at rows MINUS
unfolding rows
minus_is_named = refl

sprout_is_named : row_named rows (codes "sprout") ≡ row_at rows SPROUT
unfolding rows
sprout_is_named = refl

yellow_is_named : row_named rows (codes "yellow") ≡ row_at rows YELLOW
unfolding rows
yellow_is_named = refl

front_is_not_found : row_named rows (codes "as") ≡ None
unfolding rows
front_is_not_found = refl

-- the words whose blocks are run in turns, and the sign in a block's head, are in their places
foreach_is_named : row_named rows (codes "foreach") ≡ row_at rows FOREACH
unfolding rows
foreach_is_named = refl

sort_by_is_named : row_named rows (codes "sort-by") ≡ row_at rows SORT_BY
unfolding rows
sort_by_is_named = refl

arrow_is_named : row_named rows (codes "->") ≡ row_at rows ARROW
unfolding rows
arrow_is_named = refl
