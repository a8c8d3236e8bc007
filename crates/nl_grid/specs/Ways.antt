-- Differences of coordinates by their size.
use Rattle.std.specs.Prelude.{ℤ, nat_lt, unsigned_abs, if◌then◌else◌}
use Rattle.std.specs.Int.{int_max}

-- of two differences the one of the lesser size, and of two of one size the greater one, which is positive
abbrev pub shorter : ℤ → ℤ → ℤ
shorter a b = if nat_lt (unsigned_abs a) (unsigned_abs b) then a else if nat_lt (unsigned_abs b) (unsigned_abs a) then b else int_max a b
