-- The model and the experiment of the measure.
use Rattle.std.specs.Prelude.{ℕ, ◌*◌, [], ◌∷◌, ◌++◌, codes}
use Rattle.std.specs.Fmt.{decimal}
use Rattle.nl_fixed.specs.Nouns.{Bytes, Texts}

-- each line with a line feed behind it
abbrev pub lines : Texts → Bytes
lines [] = []
lines (line ∷ rest) = line ++ 10 ∷ lines rest

unfoldable pub model_text : Bytes
model_text = lines (
    codes "to setup clear-all crt crowd [ setxy random-xcor random-ycor ] reset-ticks end"
    ∷ codes "to go"
    ∷ codes "  ask turtles [ rt random 90 fd 1"
    ∷ codes "    if any? other turtles-here [ create-links-with other turtles-here ]"
    ∷ codes "    if count my-links > 3 [ die ] ]"
    ∷ codes "  ask turtles with [ count my-links = 0 and who mod 7 = 0 ] [ hatch 1 [ fd 1 ] ]"
    ∷ codes "  tick"
    ∷ codes "end"
    ∷ [])

-- the size is the seed, and there are 20 turtles for each one of it
unfoldable pub experiment_text : ℕ → Bytes
experiment_text size = lines (
    codes "name = \"bench\""
    ∷ (codes "seed = " ++ decimal size)
    ∷ codes "repetitions = 4"
    ∷ codes "steps = 20"
    ∷ codes "metrics = [\"count turtles\", \"count links\"]"
    ∷ []
    ∷ codes "[world]"
    ∷ codes "min-pxcor = -50"
    ∷ codes "max-pxcor = 50"
    ∷ codes "min-pycor = -50"
    ∷ codes "max-pycor = 50"
    ∷ []
    ∷ codes "[globals]"
    ∷ (codes "crowd = " ++ decimal (20 * size))
    ∷ [])
