-- What makes a list of rows a table: a test that computes.
use Rattle.std.specs.Prelude.{ℕ, ◌+◌, ◌==◌, Bool, true, false, not, ◌&&◌, ◌||◌, if◌then◌else◌, List, [], ◌∷◌, codes}
use Rattle.std.specs.List.{list_any, list_all}
use Rattle.std.specs.Char.{is_ascii_digit, is_ascii_uppercase, is_ascii_alphanumeric}
use Rattle.std.specs.Ordering.{is_lt, nat_cmp}
use Rattle.std.specs.Cmp.Lexicographic.{slice_cmp}
use Rattle.nl_fixed.specs.Nouns.{Bytes}
use Rattle.nl_words.specs.declared.entry.Role.{Role}
use Rattle.nl_words.specs.declared.entry.Role.TheVariants as role
use Rattle.nl_words.specs.declared.entry.Input.{Input}
use Rattle.nl_words.specs.declared.entry.Input.TheVariants as input
use Rattle.nl_words.specs.declared.entry.Runner.{Runner}
use Rattle.nl_words.specs.declared.entry.Runner.TheVariants as runner
use Rattle.nl_words.specs.declared.entry.Turns.{Turns}
use Rattle.nl_words.specs.declared.entry.Turns.TheVariants as turns
use Rattle.nl_words.specs.declared.entry.Manner.{Manner}
use Rattle.nl_words.specs.declared.entry.Manner.TheVariants as manner
use Rattle.nl_words.specs.declared.entry.Leaving.{Leaving}
use Rattle.nl_words.specs.declared.entry.Leaving.TheVariants as leaving
use Rattle.nl_words.specs.Row.{Row, Code}

-- the first text stands before the second in the order of their bytes
abbrev pub is_before : Bytes → Bytes → Bool
is_before xs ys = is_lt (slice_cmp nat_cmp xs ys)

-- each name stands before the next
abbrev pub ascends : List Row → Bool
ascends [] = true
ascends (row ∷ []) = true
ascends (row ∷ next ∷ rows) = is_before row.name next.name && ascends (next ∷ rows)

-- the codes count up from this place
abbrev pub counts_from : Code → List Row → Bool
counts_from place [] = true
counts_from place (row ∷ rows) = (row.code == place) && counts_from (place + 1) rows

-- the byte may stand in a word: ASCII letters, digits and these signs
abbrev pub is_word_byte : ℕ → Bool
is_word_byte b = is_ascii_alphanumeric b || list_any (λ sign. sign == b) (codes ".?=*!<>:#+/%$_^'&-")

-- one or more bytes, each of which may stand in a word
abbrev pub is_word : Bytes → Bool
is_word [] = false
is_word (b ∷ bs) = list_all is_word_byte (b ∷ bs)

abbrev pub begins_with : (ℕ → Bool) → Bytes → Bool
begins_with test [] = false
begins_with test (b ∷ bs) = test b

-- without the first byte where it passes the test
abbrev pub without_one : (ℕ → Bool) → Bytes → Bytes
without_one test [] = []
without_one test (b ∷ bs) = if test b then bs else b ∷ bs

-- without the digits in front
abbrev pub after_digits : Bytes → Bytes
after_digits [] = []
after_digits (b ∷ bs) = if is_ascii_digit b then after_digits bs else b ∷ bs

-- one or two digits
abbrev pub is_short : Bytes → Bool
is_short [] = false
is_short (b ∷ []) = is_ascii_digit b
is_short (b ∷ c ∷ []) = is_ascii_digit b && is_ascii_digit c
is_short (b ∷ c ∷ d ∷ bs) = false

-- nothing, or `e` or `E`, perhaps a sign, and one or two digits
abbrev pub is_exponent : Bytes → Bool
is_exponent [] = true
is_exponent (b ∷ bs) = ((b == 101) || (b == 69)) && is_short (without_one (λ sign. (sign == 43) || (sign == 45)) bs)

-- digits and perhaps a point and more digits, or a point and digits; then perhaps an exponent
abbrev pub is_unsigned_number : Bytes → Bool
is_unsigned_number bs =
    let is_point : ℕ → Bool = λ b. b == 46 in
    if begins_with is_ascii_digit bs
    then is_exponent (after_digits (without_one is_point (after_digits bs)))
    else (begins_with is_point bs && begins_with is_ascii_digit (without_one is_point bs) && is_exponent (after_digits (without_one is_point bs)))

-- the form of a number: perhaps a minus sign, and an unsigned number
abbrev pub is_number : Bytes → Bool
is_number bs = is_unsigned_number (without_one (λ b. b == 45) bs)

-- a word in lower case that is no number
abbrev pub is_name : Bytes → Bool
is_name bs = is_word bs && not (list_any is_ascii_uppercase bs) && not (is_number bs)

-- the names ascend strictly, each has a name's form, and each code is the row's place
abbrev pub is_table : List Row → Bool
is_table rows = ascends rows && list_all (λ row. is_name row.name) rows && counts_from 0 rows

-- What fits together in a row.

-- a block, or cases, which have blocks
abbrev pub is_block : Input → Bool
is_block input.Commands = true
is_block input.MaybeCommands = true
is_block input.Reporter = true
is_block input.ArrowCommands = true
is_block input.ArrowReporter = true
is_block input.Cases = true
is_block input.Value = false
is_block input.Expression = false
is_block input.Variable = false
is_block input.Fresh = false

abbrev pub is_variable_name : Input → Bool
is_variable_name input.Variable = true
is_variable_name input.Value = false
is_variable_name input.Expression = false
is_variable_name input.Commands = false
is_variable_name input.MaybeCommands = false
is_variable_name input.Reporter = false
is_variable_name input.Fresh = false
is_variable_name input.ArrowCommands = false
is_variable_name input.ArrowReporter = false
is_variable_name input.Cases = false

abbrev pub is_arrow_block : Input → Bool
is_arrow_block input.ArrowCommands = true
is_arrow_block input.ArrowReporter = true
is_arrow_block input.Value = false
is_arrow_block input.Expression = false
is_arrow_block input.Commands = false
is_arrow_block input.MaybeCommands = false
is_arrow_block input.Reporter = false
is_arrow_block input.Variable = false
is_arrow_block input.Fresh = false
is_arrow_block input.Cases = false

abbrev pub is_cases : Input → Bool
is_cases input.Cases = true
is_cases input.Value = false
is_cases input.Expression = false
is_cases input.Commands = false
is_cases input.MaybeCommands = false
is_cases input.Reporter = false
is_cases input.Variable = false
is_cases input.Fresh = false
is_cases input.ArrowCommands = false
is_cases input.ArrowReporter = false

-- cases among the inputs before the last one
abbrev pub has_inner_cases : List Input → Bool
has_inner_cases [] = false
has_inner_cases (i ∷ []) = false
has_inner_cases (i ∷ j ∷ is) = is_cases i || has_inner_cases (j ∷ is)

abbrev pub has_runner : Runner → Bool
has_runner runner.NoBlock = false
has_runner runner.Same = true
has_runner runner.Turtles = true
has_runner runner.Links = true
has_runner runner.Given = true

abbrev pub has_turns : Turns → Bool
has_turns turns.NoTurn = false
has_turns turns.OneValue = true
has_turns turns.TwoValues = true
has_turns turns.ValueOfEachList = true

abbrev pub has_manner : Manner → Bool
has_manner manner.Run = false
has_manner manner.Set = true
has_manner manner.Spread = true

abbrev pub does_leave : Leaving → Bool
does_leave leaving.Stays = false
does_leave leaving.Reports = true
does_leave leaving.Stops = true

abbrev pub is_variable : Role → Bool
is_variable role.Variable = true
is_variable (role.Operator level) = false
is_variable role.Command = false
is_variable role.Reporter = false
is_variable role.Constant = false
is_variable role.Reserved = false

abbrev pub is_command : Role → Bool
is_command role.Command = true
is_command (role.Operator level) = false
is_command role.Reporter = false
is_command role.Constant = false
is_command role.Variable = false
is_command role.Reserved = false

abbrev same : Bool → Bool → Bool
same true b = b
same false b = not b

-- Blocks have one who runs them, and where there are none nobody is told; turns are told of where an input is an arrow block; cases are the
-- last input, and read in parentheses alone; a variable that the word names is set or spread; only a variable is fixed, and only a command
-- leaves.
abbrev pub is_fitting : Row → Bool
is_fitting row =
    same (list_any is_block row.inputs) (has_runner row.blocks)
    && same (list_any is_arrow_block row.inputs) (has_turns row.turns)
    && not (has_inner_cases row.inputs)
    && (not (list_any is_cases row.inputs) || row.many)
    && same (list_any is_variable_name row.inputs) (has_manner row.manner)
    && (not row.fixed || is_variable row.role)
    && (not (does_leave row.leaving) || is_command row.role)
