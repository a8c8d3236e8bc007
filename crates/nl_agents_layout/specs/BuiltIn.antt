-- The variables that agents have from the start and that are kept under slots.
-- Which they are, what each may hold and most first values are those of the NetLogo Dictionary; the slots, the shape of a turtle and that
-- a new turtle has the color and the heading 0 until its maker sets them are this project's own choice.
use Rattle.std.specs.Prelude.{ℕ, ◌+◌, ◌==◌, pos, Bool, false, if◌then◌else◌, List, [], ◌∷◌, Option, Some, None, codes, slice_get, is_some}
use Rattle.std.specs.Option.{option_and_then}
use Rattle.nl_words.specs.Row.{Code}
use Rattle.nl_words.specs.declared.codes.TheConstants.{COLOR, HEADING, SHAPE, LABEL, LABEL_COLOR, HIDDEN, SIZE, PEN_SIZE, PEN_MODE, PCOLOR, PLABEL, PLABEL_COLOR, THICKNESS, TIE_MODE}
use Rattle.nl_value.specs.Plain.{Plain, PlainNumber, PlainTruth, PlainWords}
use Rattle.nl_agents_layout.specs.Nouns.{Slot}
use Rattle.nl_agents_layout.specs.declared.rule.Rule.{Rule}
use Rattle.nl_agents_layout.specs.declared.rule.Rule.TheVariants as rule

-- a variable: the code of its word, its first value on each kind of agents that has it, and what it may hold
pub record BuiltIn : Type 0 where
  pub code : Code
  pub turtle : Option Plain
  pub patch : Option Plain
  pub link : Option Plain
  pub rule : Rule

-- the value of a variable that a model declares, before it is set
abbrev pub zero_value : Plain
zero_value = PlainNumber (pos 0)

-- the color number 9.9, in millionths
abbrev pub white : Plain
white = PlainNumber (pos 9_900_000)

-- the color number 5
abbrev pub gray : Plain
gray = PlainNumber (pos 5_000_000)

abbrev pub one_value : Plain
one_value = PlainNumber (pos 1_000_000)

abbrev pub empty_text : Plain
empty_text = PlainWords []

abbrev pub default_shape : Plain
default_shape = PlainWords (codes "default")

abbrev of_turtles : Code → Plain → Rule → BuiltIn
of_turtles code first rule = record { code = code; turtle = Some first; patch = None; link = None; rule = rule }

abbrev of_patches : Code → Plain → Rule → BuiltIn
of_patches code first rule = record { code = code; turtle = None; patch = Some first; link = None; rule = rule }

abbrev of_links : Code → Plain → Rule → BuiltIn
of_links code first rule = record { code = code; turtle = None; patch = None; link = Some first; rule = rule }

-- of turtles and links
abbrev of_both : Code → Plain → Plain → Rule → BuiltIn
of_both code turtle link rule = record { code = code; turtle = Some turtle; patch = None; link = Some link; rule = rule }

-- the variables, each under the slot that is its place in the list
abbrev pub built_in : List BuiltIn
built_in =
    of_both COLOR zero_value gray rule.Color
    ∷ of_turtles HEADING zero_value rule.Heading
    ∷ of_both SHAPE default_shape default_shape rule.Words
    ∷ of_both LABEL empty_text empty_text rule.Anything
    ∷ of_both LABEL_COLOR white white rule.Color
    ∷ of_both HIDDEN (PlainTruth false) (PlainTruth false) rule.Truth
    ∷ of_turtles SIZE one_value rule.Number
    ∷ of_turtles PEN_SIZE one_value rule.Number
    ∷ of_turtles PEN_MODE (PlainWords (codes "up")) rule.Words
    ∷ of_patches PCOLOR zero_value rule.Color
    ∷ of_patches PLABEL empty_text rule.Anything
    ∷ of_patches PLABEL_COLOR white rule.Color
    ∷ of_links THICKNESS zero_value rule.Number
    ∷ of_links TIE_MODE (PlainWords (codes "none")) rule.Words
    ∷ []

-- how many they are: the slots from here on are those of the variables that a model declares
abbrev pub built_in_count : ℕ
built_in_count = 14

abbrev pub color_slot : Slot
color_slot = 0

abbrev pub heading_slot : Slot
heading_slot = 1

-- the first value under a slot, of those of a column of the table; a variable that the model declares holds 0
abbrev pub first_in : (BuiltIn → Option Plain) → Slot → Option Plain
first_in column slot = option_and_then column (slice_get built_in slot)

abbrev pub value_or_zero : Option Plain → Plain
value_or_zero None = zero_value
value_or_zero (Some value) = value

abbrev pub first_of_turtle : Slot → Plain
first_of_turtle slot = value_or_zero (first_in (λ row. row.turtle) slot)

abbrev pub first_of_patch : Slot → Plain
first_of_patch slot = value_or_zero (first_in (λ row. row.patch) slot)

abbrev pub first_of_link : Slot → Plain
first_of_link slot = value_or_zero (first_in (λ row. row.link) slot)

-- every turtle, every patch, every link has a built-in variable under the slot
abbrev pub is_of_turtles : Slot → Bool
is_of_turtles slot = is_some (first_in (λ row. row.turtle) slot)

abbrev pub is_of_patches : Slot → Bool
is_of_patches slot = is_some (first_in (λ row. row.patch) slot)

abbrev pub is_of_links : Slot → Bool
is_of_links slot = is_some (first_in (λ row. row.link) slot)

abbrev rule_in : Option BuiltIn → Rule
rule_in None = rule.Anything
rule_in (Some row) = row.rule

-- what a slot may hold; a variable that the model declares holds anything
abbrev pub rule_of : Slot → Rule
rule_of slot = rule_in (slice_get built_in slot)

-- the place of the built-in variable with this code, counted on from a slot
abbrev pub slot_from : Slot → List BuiltIn → Code → Option Slot
slot_from slot [] code = None
slot_from slot (row ∷ rows) code = if row.code == code then Some slot else slot_from (slot + 1) rows code

-- the slot of a built-in variable
abbrev pub slot_of_code : Code → Option Slot
slot_of_code code = slot_from 0 built_in code
