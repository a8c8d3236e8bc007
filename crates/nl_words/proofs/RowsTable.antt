-- The built-in words are a table, and what each row says fits together: the tests compute.
use Rattle.std.proofs.Common.{◌≡◌, true, refl}
use Rattle.std.specs.List.{list_all}
use Rattle.nl_words.specs.Rows.{rows}
use Rattle.nl_words.specs.Table.{is_table, is_fitting}

pub rows_are_a_table : is_table rows ≡ true
unfolding rows
rows_are_a_table = refl

pub rows_fit : list_all is_fitting rows ≡ true
unfolding rows
rows_fit = refl
