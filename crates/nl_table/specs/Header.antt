-- The header of a table.
use Rattle.std.specs.Prelude.{ℤ, List, [], ◌∷◌, ◌++◌, codes, map}
use Rattle.std.specs.Fmt.{signed_decimal}
use Rattle.nl_fixed.specs.Nouns.{Bytes, Names, Texts}
use Rattle.nl_table.specs.Lines.{lines_text}

-- the columns: the run's number, the varied variables, the count of steps, the metrics, and the end
abbrev pub columns : Names → Names → Texts
columns variables metrics = codes "[run number]" ∷ variables ++ codes "[step]" ∷ metrics ++ codes "[end]" ∷ []

abbrev pub names_of_bounds : Texts
names_of_bounds = codes "min-pxcor" ∷ codes "max-pxcor" ∷ codes "min-pycor" ∷ codes "max-pycor" ∷ []

-- the lines of a header: title, model, experiment, the names of the bounds of the world and their numbers, and the columns
abbrev pub header_lines : Bytes → Bytes → List ℤ → Names → Names → List Texts
header_lines model name bounds variables metrics =
    (codes "BehaviorSpace results (fixed-point profile)" ∷ [])
    ∷ (model ∷ [])
    ∷ (name ∷ [])
    ∷ names_of_bounds
    ∷ map signed_decimal bounds
    ∷ columns variables metrics
    ∷ []

unfoldable pub header_text : Bytes → Bytes → List ℤ → Names → Names → Bytes
header_text model name bounds variables metrics = lines_text (header_lines model name bounds variables metrics)
