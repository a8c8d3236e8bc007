-- How long an input may be, and how large the measure.
use Rattle.std.specs.Prelude.{ℕ}
use Rattle.nl_scan.specs.Tokens.{text_limit}

-- a model or an experiment of more bytes is too long
abbrev pub file_limit : ℕ
file_limit = text_limit

-- the measure is made of a size from 1 on
abbrev pub most_size : ℕ
most_size = 1000
