-- The limits on values. They are this project's own choice: what is made of values stays small, and what walks a value recurses
-- no deeper than this.
use Rattle.std.specs.Prelude.{ℕ, ◌-◌, Bool, ◌&&◌, nat_le}
use Rattle.nl_value.specs.Plain.{Plain}
use Rattle.nl_value.specs.Measures.{size_of, depth_of}

abbrev pub most_size : ℕ
most_size = 1000000

abbrev pub most_depth : ℕ
most_depth = 200

abbrev pub within_limits : Plain → Bool
within_limits value = nat_le (size_of value) most_size && nat_le (depth_of value) most_depth

-- a text has at most so many bytes: one less than the size of a value, since a text has the size 1 besides its bytes
abbrev pub most_bytes : ℕ
most_bytes = most_size - 1
