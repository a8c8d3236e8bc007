-- The steps of reading a literal, as the code takes them.
use Rattle.std.specs.Prelude.{◌≡◌, ℕ, List, [], ◌∷◌, ◌++◌, Option, Some, None}
use Rattle.nl_fixed.specs.Nouns.{Bytes}
use Rattle.nl_scan.specs.declared.token.Token.{Token}
use Rattle.nl_value.specs.Limits.{most_depth}
use Rattle.nl_value.specs.Plain.{Plain}
use Rattle.nl_value.specs.Views.{plain}
use Rattle.nl_value.specs.declared.values.Value.{Value}
use Rattle.std.specs.Option.{option_and_then}
use Rattle.nl_experiment_keys.specs.Literals.{fit, literal_from}
use Rattle.nl_experiment_keys.specs.declared.literals.Taken.{Taken}
use Rattle.nl_experiment_keys.specs.declared.literals.Taken.TheVariants.{Further, Whole, Bad}

-- a whole literal, behind which nothing may stand
abbrev pub whole_before : List Token → Plain → Option Plain
whole_before [] value = Some value
whole_before (token ∷ tokens) value = None

-- the literal that is read behind a step
abbrev pub behind : Taken → Bytes → List Token → List (List Plain) → Option Plain
behind Further text tokens lists = literal_from text tokens lists
behind (Whole value) text tokens lists = whole_before tokens (plain value)
behind Bad text tokens lists = None

-- a value lies behind the others of the innermost list, or is handed back where no list is open
abbrev pub Lands : Value → List (List Plain) → List (List Plain) → Option Value → Type 0
Lands value before after None = (items : List Plain) × (outer : List (List Plain)) × (before ≡ items ∷ outer) × (after ≡ (items ++ plain value ∷ []) ∷ outer)
Lands value before after (Some back) = (before ≡ []) × (after ≡ []) × (back ≡ value)

-- both are the same literal within the limits, or neither is one
abbrev pub AreAlike : Option Plain → Option Plain → Type 0
AreAlike found other = option_and_then fit found ≡ option_and_then fit other

-- so many lists may be open: a literal in which more are nests deeper than a value may
abbrev pub most_open : ℕ
most_open = most_depth
