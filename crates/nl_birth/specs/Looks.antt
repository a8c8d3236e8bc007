-- What new turtles look like: their colors and headings, drawn or in order.
use Rattle.std.specs.Prelude.{ℕ, ◌*◌, ◌%◌, ℤ, pos, slice_index_or, None}
use Rattle.std.specs.Int.{int_rem_euclid}
use Rattle.nl_fixed.specs.Numbers.{one, rounded_quotient}
use Rattle.nl_fixed.specs.Sines.{degrees}
use Rattle.nl_value.specs.Plain.{PlainNumber}
use Rattle.nl_value.specs.Colors.{primary_numbers}
use Rattle.nl_grid.specs.declared.point.Point.{Point}
use Rattle.nl_draw.specs.Stream.{drawn}
use Rattle.nl_agents_layout.specs.Nouns.{BreedNumber, Slot}
use Rattle.nl_agents_layout.specs.BuiltIn.{color_slot, heading_slot}
use Rattle.nl_agents.specs.World.{World}
use Rattle.nl_agents.specs.Changes.{born, revalued}
use Rattle.nl_agents.specs.declared.agents.Owner.TheVariants as owner
use Rattle.nl_birth.specs.declared.looks.Looks.{Looks}

-- the primary color of an index below 14
abbrev pub primary : ℕ → ℤ
primary index = slice_index_or primary_numbers index (pos 0)

-- a primary color is drawn first, then a heading of whole degrees: the looks, and the state of the stream after both
unfoldable pub drawn_looks : ℕ → Looks × ℕ
drawn_looks stream =
    let color = drawn 14 stream in
    let heading = drawn 360 color.1 in
    (record { color = primary color.0; heading = degrees (pos heading.0) }, heading.1)

-- the heading of the turtle of this index among so many: its share of a turn, rounded to millionths, and kept below a turn
unfoldable pub heading_in_order : ℕ → ℕ → ℤ
heading_in_order count index = int_rem_euclid (rounded_quotient (pos (360 * one * index)) count) (degrees (pos 360))

-- the looks of that turtle: the primary colors come in turn
unfoldable pub looks_in_order : ℕ → ℕ → Looks
looks_in_order count index = record { color = primary (index % 14); heading = heading_in_order count index }

-- a variable of the turtle becomes the number, where the turtle owns it
abbrev pub numbered : ℕ → Slot → ℤ → World → World
numbered turtle slot number = revalued (owner.Turtle turtle) slot (PlainNumber number)

-- the turtle has these looks, as far as it owns what they are kept in
abbrev pub dressed : ℕ → Looks → World → World
dressed turtle looks w = numbered turtle heading_slot looks.heading (numbered turtle color_slot looks.color w)

-- a turtle more, of no parent and with these looks
abbrev pub born_with : BreedNumber → Point → Looks → World → World
born_with breed at looks w = dressed w.rest.turtles_given looks (born breed at None w)
