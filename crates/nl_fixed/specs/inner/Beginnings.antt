-- The search for the byte at which a character begins, behind the first byte of a text.
use Rattle.std.specs.Prelude.{ℕ, suc, ◌-◌, ◌==◌, Option, Some, None, [], ◌∷◌, if◌then◌else◌}
use Rattle.std.specs.Option.{option_map}
use Rattle.nl_fixed.specs.Nouns.{Bytes}
use Rattle.nl_fixed.specs.Characters.{begins}

-- the place of the beginning byte before which so many others stand, or the length where just so many stand in all
unfoldable pub beginning_place : Bytes → ℕ → Option ℕ
beginning_place [] n = if n == 0 then Some 0 else None
beginning_place (byte ∷ bytes) n =
    if begins byte
    then (if n == 0 then Some 0 else option_map suc (beginning_place bytes (n - 1)))
    else option_map suc (beginning_place bytes n)
