-- Names of rows.
use Rattle.std.proofs.Common.{◌≡◌, Bool, true, false, List, [], ◌∷◌, map, Option, Some, None, bytes_eq, is_some, refl}
use Rattle.std.specs.Borrow.{Bor}
use Rattle.nl_fixed.specs.Nouns.{Name}
use Rattle.nl_words.specs.Row.{Row, row_in, row_named}
use Rattle.nl_words.specs.declared.entry.Entry.{Entry}
use Rattle.nl_tree.specs.Vocabulary.{among}

found_step : (r : Row) (rs : List Row) (name : Name) (b : Bool) → bytes_eq r.name name ≡ b → is_some (row_named rs name) ≡ among name (map (λ (x : Row). x.name) rs)
    → is_some (row_named (r ∷ rs) name) ≡ among name (map (λ (x : Row). x.name) (r ∷ rs))
found_step r rs name true is more = rw is refl
found_step r rs name false is more = rw is more

-- a row is found exactly where one has the name
pub found_among : (rs : List Row) (name : Name) → is_some (row_named rs name) ≡ among name (map (λ r. r.name) rs)
found_among [] name = refl
found_among (r ∷ rs) name = found_step r rs name (bytes_eq r.name name) refl (found_among rs name)

pub found_is : (found : Option (Bor Entry)) → is_some (row_in found) ≡ is_some found
found_is None = refl
found_is (Some entry) = refl
