-- What the walks of queries give on their way.
use Rattle.std.specs.Prelude.{ℕ, ℤ, pos, ◌||◌, not, int_lt, unsigned_abs, Option, Some, None, if◌then◌else◌}
use Rattle.nl_fixed.specs.Numbers.{whole_part, is_whole}

-- a number as a whole one from 0 on
abbrev pub whole_from_zero : ℤ → Option ℕ
whole_from_zero number = if int_lt (whole_part number) (pos 0) || not (is_whole number) then None else Some (unsigned_abs (whole_part number))
