-- Bytes, cut into pieces behind the line feeds that stand outside of quotes.
use Rattle.std.specs.Prelude.{ℕ, ◌+◌, ◌-◌, ◌%◌, ◌==◌, ◌&&◌, Bool, List, [], ◌∷◌, Option, map, take, drop, length, get_or, slice_get}
use Rattle.std.specs.List.{count_by, filter, range_with_len}
use Rattle.nl_fixed.specs.Nouns.{Bytes}
use Rattle.nl_table.specs.Lines.{quote, line_feed}

-- how many quotes bytes have
abbrev pub quotes_in : Bytes → ℕ
quotes_in bytes = count_by (λ byte. byte == quote) bytes

-- whether a line feed stands at a place, with an even number of quotes before it
abbrev pub ends_at : Bytes → ℕ → Bool
ends_at bytes place = (get_or bytes place 0 == line_feed) && (quotes_in (take place bytes) % 2 == 0)

-- the places behind such line feeds, ascending
abbrev pub ends : Bytes → List ℕ
ends bytes = map (λ place. place + 1) (filter (ends_at bytes) (range_with_len 0 (length bytes)))

-- the least of them
abbrev pub first_end : Bytes → Option ℕ
first_end bytes = slice_get (ends bytes) 0

-- the parts of bytes that end at these places, each of which begins where the one before ends
abbrev pub parts : ℕ → List ℕ → Bytes → List Bytes
parts begin [] bytes = []
parts begin (end ∷ places) bytes = take (end - begin) (drop begin bytes) ∷ parts end places bytes

-- the last of places, or where the first part begins
abbrev pub last_end : ℕ → List ℕ → ℕ
last_end begin [] = begin
last_end begin (end ∷ places) = last_end end places

-- the whole pieces of bytes, and what is left over behind them
abbrev pub pieces : Bytes → List Bytes
pieces bytes = parts 0 (ends bytes) bytes

abbrev pub left_over : Bytes → Bytes
left_over bytes = drop (last_end 0 (ends bytes)) bytes
