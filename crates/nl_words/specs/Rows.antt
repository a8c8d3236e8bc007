-- The built-in words, in the order of their bytes.
-- Names, inputs and who may run a word are those of the NetLogo Dictionary, as far as this profile has them.
-- The levels of operators and what a row tells of the agents in an answer are this project's own choice.
use Rattle.std.specs.Prelude.{ℕ, ◌+◌, true, false, List, [], ◌∷◌, codes}
use Prim.Native.String.{String}
use Rattle.nl_words.specs.Kinds.{none, everyone, observers, turtles, patches, links, turtles_and_patches, turtles_and_links, agents, not_links}
use Rattle.nl_words.specs.Row.{Row}
use Rattle.nl_words.specs.declared.entry.Role.{Role}
use Rattle.nl_words.specs.declared.entry.Role.TheVariants as role
use Rattle.nl_words.specs.declared.entry.Input.{Input}
use Rattle.nl_words.specs.declared.entry.Input.TheVariants.{Value, Expression, Commands, MaybeCommands, Reporter, Variable, Fresh, ArrowCommands, ArrowReporter}
use Rattle.nl_words.specs.declared.entry.Kinds.{Kinds}
use Rattle.nl_words.specs.declared.entry.Runner.{Runner}
use Rattle.nl_words.specs.declared.entry.Runner.TheVariants as runner
use Rattle.nl_words.specs.declared.entry.Turns.{Turns}
use Rattle.nl_words.specs.declared.entry.Turns.TheVariants as turns
use Rattle.nl_words.specs.declared.entry.Manner.{Manner}
use Rattle.nl_words.specs.declared.entry.Manner.TheVariants as manner
use Rattle.nl_words.specs.declared.entry.Leaving.{Leaving}
use Rattle.nl_words.specs.declared.entry.Leaving.TheVariants as leaving

-- a row without its place: role, name, inputs, who may run the word, what it gives; what else a row says is as for most words
abbrev word : Role → String → List Input → Kinds → Kinds → ℕ → Row
word role text inputs runs gives code =
    record {
      name = codes text;
      role = role;
      inputs = inputs;
      many = false;
      runs = runs;
      gives = gives;
      blocks = runner.NoBlock;
      turns = turns.NoTurn;
      manner = manner.Run;
      fixed = false;
      leaving = leaving.Stays;
      code = code;
    }

-- What isn't as for most words: who runs the blocks, how many values a turn has, that there may be more in parentheses, what is done with the variable that the word names, how it leaves a procedure.

abbrev run_by : Runner → (ℕ → Row) → ℕ → Row
run_by who word code = record (word code) { blocks = who }

abbrev opened : (ℕ → Row) → ℕ → Row
opened word code = record (word code) { many = true }

-- turns of so many values, which the same agent takes
abbrev in_turns : Turns → (ℕ → Row) → ℕ → Row
in_turns values word code = record (word code) { blocks = runner.Same; turns = values }

abbrev naming : Manner → (ℕ → Row) → ℕ → Row
naming how word code = record (word code) { manner = how }

abbrev leaves : Leaving → (ℕ → Row) → ℕ → Row
leaves how word code = record (word code) { leaving = how }

-- Kinds of rows.

abbrev command : String → List Input → Kinds → ℕ → Row
command text inputs runs = word role.Command text inputs runs none

-- a command whose blocks the same agent runs
abbrev control : String → List Input → ℕ → Row
control text inputs = run_by runner.Same (command text inputs everyone)

-- a command that makes so many turtles, which run the block
abbrev births : String → Kinds → ℕ → Row
births text runs = run_by runner.Turtles (command text (Value ∷ MaybeCommands ∷ []) runs)

-- a command that links a turtle with others; the new links run the block
abbrev link_making : String → ℕ → Row
link_making text = run_by runner.Links (command text (Value ∷ MaybeCommands ∷ []) turtles)

-- a command that reads or writes a variable on patches
abbrev spreading : String → List Input → Kinds → ℕ → Row
spreading text inputs runs = naming manner.Spread (command text inputs runs)

abbrev reporter : String → List Input → Kinds → Kinds → ℕ → Row
reporter text inputs runs gives = word role.Reporter text inputs runs gives

-- a reporter that may be given more or fewer of its last input, with parentheses round the whole
abbrev open_reporter : String → List Input → Kinds → Kinds → ℕ → Row
open_reporter text inputs runs gives = opened (reporter text inputs runs gives)

-- an operator of a level, with the inputs of both its sides
abbrev operator : ℕ → String → List Input → Kinds → Kinds → ℕ → Row
operator level text inputs runs gives = word (role.Operator level) text inputs runs gives

abbrev constant : String → ℕ → Row
constant text = word role.Constant text [] everyone none

abbrev variable : String → Kinds → ℕ → Row
variable text runs = word role.Variable text [] runs none

-- a variable that no text sets
abbrev fixed_variable : String → Kinds → ℕ → Row
fixed_variable text runs code = record (variable text runs code) { fixed = true }

abbrev reserved : String → ℕ → Row
reserved text = word role.Reserved text [] everyone none

-- each word with its place, counted from the first number
abbrev numbered : ℕ → List (ℕ → Row) → List Row
numbered place [] = []
numbered place (word ∷ words) = word place ∷ numbered (place + 1) words

unfoldable pub rows : List Row
rows = numbered 0 (
    operator 8 "!=" (Value ∷ Value ∷ []) everyone none
    ∷ operator 5 "*" (Value ∷ Value ∷ []) everyone none
    ∷ operator 6 "+" (Value ∷ Value ∷ []) everyone none
    ∷ operator 6 "-" (Value ∷ Value ∷ []) everyone none
    ∷ reserved "->"
    ∷ operator 5 "/" (Value ∷ Value ∷ []) everyone none
    ∷ operator 7 "<" (Value ∷ Value ∷ []) everyone none
    ∷ operator 7 "<=" (Value ∷ Value ∷ []) everyone none
    ∷ operator 8 "=" (Value ∷ Value ∷ []) everyone none
    ∷ operator 7 ">" (Value ∷ Value ∷ []) everyone none
    ∷ operator 7 ">=" (Value ∷ Value ∷ []) everyone none
    ∷ operator 4 "^" (Value ∷ Value ∷ []) everyone none
    ∷ reporter "abs" (Value ∷ []) everyone none
    ∷ run_by runner.Given (reporter "all?" (Value ∷ Reporter ∷ []) everyone none)
    ∷ operator 9 "and" (Value ∷ Value ∷ []) everyone none
    ∷ reporter "any?" (Value ∷ []) everyone none
    ∷ run_by runner.Given (command "ask" (Value ∷ Commands ∷ []) everyone)
    ∷ operator 1 "at-points" (Value ∷ Value ∷ []) not_links agents
    ∷ reporter "atan" (Value ∷ Value ∷ []) everyone none
    ∷ command "auto-plot-off" [] everyone
    ∷ command "auto-plot-on" [] everyone
    ∷ command "back" (Value ∷ []) turtles
    ∷ reporter "base-colors" [] everyone none
    ∷ reporter "behaviorspace-experiment-name" [] everyone none
    ∷ reporter "behaviorspace-run-number" [] everyone none
    ∷ reporter "bf" (Value ∷ []) everyone none
    ∷ command "bk" (Value ∷ []) turtles
    ∷ reporter "bl" (Value ∷ []) everyone none
    ∷ constant "black"
    ∷ constant "blue"
    ∷ reporter "both-ends" [] links turtles
    ∷ variable "breed" turtles_and_links
    ∷ constant "brown"
    ∷ reporter "but-first" (Value ∷ []) everyone none
    ∷ reporter "but-last" (Value ∷ []) everyone none
    ∷ reporter "butfirst" (Value ∷ []) everyone none
    ∷ reporter "butlast" (Value ∷ []) everyone none
    ∷ command "ca" [] observers
    ∷ reporter "can-move?" (Value ∷ []) turtles none
    ∷ command "cd" [] observers
    ∷ reporter "ceiling" (Value ∷ []) everyone none
    ∷ command "clear-all" [] observers
    ∷ command "clear-all-plots" [] everyone
    ∷ command "clear-drawing" [] observers
    ∷ command "clear-globals" [] observers
    ∷ command "clear-links" [] observers
    ∷ command "clear-output" [] everyone
    ∷ command "clear-patches" [] observers
    ∷ command "clear-plot" [] everyone
    ∷ command "clear-ticks" [] observers
    ∷ command "clear-turtles" [] observers
    ∷ variable "color" turtles_and_links
    ∷ reporter "cos" (Value ∷ []) everyone none
    ∷ reporter "count" (Value ∷ []) everyone none
    ∷ command "cp" [] observers
    ∷ link_making "create-link-from"
    ∷ link_making "create-link-to"
    ∷ link_making "create-link-with"
    ∷ link_making "create-links-from"
    ∷ link_making "create-links-to"
    ∷ link_making "create-links-with"
    ∷ births "create-ordered-turtles" observers
    ∷ command "create-temporary-plot-pen" (Value ∷ []) everyone
    ∷ births "create-turtles" observers
    ∷ births "cro" observers
    ∷ births "crt" observers
    ∷ command "ct" [] observers
    ∷ constant "cyan"
    ∷ command "die" [] turtles_and_links
    ∷ spreading "diffuse" (Variable ∷ Value ∷ []) observers
    ∷ spreading "diffuse4" (Variable ∷ Value ∷ []) observers
    ∷ reserved "directed-link-breed"
    ∷ command "display" [] everyone
    ∷ reporter "distance" (Value ∷ []) turtles_and_patches none
    ∷ reporter "distancexy" (Value ∷ Value ∷ []) turtles_and_patches none
    ∷ spreading "downhill" (Variable ∷ []) turtles
    ∷ spreading "downhill4" (Variable ∷ []) turtles
    ∷ reporter "dx" [] turtles none
    ∷ reporter "dy" [] turtles none
    ∷ reporter "e" [] everyone none
    ∷ reporter "empty?" (Value ∷ []) everyone none
    ∷ reserved "end"
    ∷ fixed_variable "end1" links
    ∷ fixed_variable "end2" links
    ∷ command "face" (Value ∷ []) turtles
    ∷ command "facexy" (Value ∷ Value ∷ []) turtles
    ∷ constant "false"
    ∷ command "fd" (Value ∷ []) turtles
    ∷ in_turns turns.OneValue (reporter "filter" (ArrowReporter ∷ Value ∷ []) everyone none)
    ∷ reporter "first" (Value ∷ []) everyone none
    ∷ reporter "floor" (Value ∷ []) everyone none
    ∷ command "follow" (Value ∷ []) observers
    ∷ command "follow-me" [] turtles
    ∷ in_turns turns.ValueOfEachList (opened (command "foreach" (Value ∷ ArrowCommands ∷ []) everyone))
    ∷ command "forward" (Value ∷ []) turtles
    ∷ reporter "fput" (Value ∷ Value ∷ []) everyone none
    ∷ reserved "globals"
    ∷ constant "gray"
    ∷ constant "green"
    ∷ constant "grey"
    ∷ births "hatch" turtles
    ∷ variable "heading" turtles
    ∷ variable "hidden?" turtles_and_links
    ∷ command "hide-link" [] links
    ∷ command "hide-turtle" [] turtles
    ∷ command "histogram" (Value ∷ []) everyone
    ∷ command "home" [] turtles
    ∷ command "ht" [] turtles
    ∷ control "if" (Value ∷ Commands ∷ [])
    ∷ control "ifelse" (Value ∷ Commands ∷ Commands ∷ [])
    ∷ run_by runner.Same (reporter "ifelse-value" (Expression ∷ Reporter ∷ Reporter ∷ []) everyone none)
    ∷ operator 1 "in-cone" (Value ∷ Value ∷ Value ∷ []) turtles agents
    ∷ reporter "in-link-from" (Value ∷ []) turtles links
    ∷ reporter "in-link-neighbor?" (Value ∷ []) turtles none
    ∷ reporter "in-link-neighbors" [] turtles turtles
    ∷ operator 1 "in-radius" (Value ∷ Value ∷ []) turtles_and_patches agents
    ∷ reporter "insert-item" (Value ∷ Value ∷ Value ∷ []) everyone none
    ∷ reporter "int" (Value ∷ []) everyone none
    ∷ reporter "is-agent?" (Value ∷ []) everyone none
    ∷ reporter "is-agentset?" (Value ∷ []) everyone none
    ∷ reporter "is-boolean?" (Value ∷ []) everyone none
    ∷ reporter "is-directed-link?" (Value ∷ []) everyone none
    ∷ reporter "is-link-set?" (Value ∷ []) everyone none
    ∷ reporter "is-link?" (Value ∷ []) everyone none
    ∷ reporter "is-list?" (Value ∷ []) everyone none
    ∷ reporter "is-number?" (Value ∷ []) everyone none
    ∷ reporter "is-patch-set?" (Value ∷ []) everyone none
    ∷ reporter "is-patch?" (Value ∷ []) everyone none
    ∷ reporter "is-string?" (Value ∷ []) everyone none
    ∷ reporter "is-turtle-set?" (Value ∷ []) everyone none
    ∷ reporter "is-turtle?" (Value ∷ []) everyone none
    ∷ reporter "is-undirected-link?" (Value ∷ []) everyone none
    ∷ reporter "item" (Value ∷ Value ∷ []) everyone none
    ∷ command "jump" (Value ∷ []) turtles
    ∷ variable "label" turtles_and_links
    ∷ variable "label-color" turtles_and_links
    ∷ reporter "last" (Value ∷ []) everyone none
    ∷ command "left" (Value ∷ []) turtles
    ∷ reporter "length" (Value ∷ []) everyone none
    ∷ command "let" (Fresh ∷ Value ∷ []) everyone
    ∷ constant "lime"
    ∷ reporter "link" (Value ∷ Value ∷ []) everyone links
    ∷ reporter "link-heading" [] links none
    ∷ reporter "link-length" [] links none
    ∷ reporter "link-neighbor?" (Value ∷ []) turtles none
    ∷ reporter "link-neighbors" [] turtles turtles
    ∷ open_reporter "link-set" (Value ∷ []) everyone links
    ∷ reporter "link-with" (Value ∷ []) turtles links
    ∷ reporter "links" [] everyone links
    ∷ reserved "links-own"
    ∷ open_reporter "list" (Value ∷ Value ∷ []) everyone none
    ∷ control "loop" (Commands ∷ [])
    ∷ reporter "lput" (Value ∷ Value ∷ []) everyone none
    ∷ command "lt" (Value ∷ []) turtles
    ∷ constant "magenta"
    ∷ in_turns turns.ValueOfEachList (open_reporter "map" (ArrowReporter ∷ Value ∷ []) everyone none)
    ∷ reporter "max" (Value ∷ []) everyone none
    ∷ run_by runner.Given (reporter "max-n-of" (Value ∷ Value ∷ Reporter ∷ []) everyone agents)
    ∷ run_by runner.Given (reporter "max-one-of" (Value ∷ Reporter ∷ []) everyone agents)
    ∷ reporter "max-pxcor" [] everyone none
    ∷ reporter "max-pycor" [] everyone none
    ∷ reporter "mean" (Value ∷ []) everyone none
    ∷ reporter "median" (Value ∷ []) everyone none
    ∷ reporter "member?" (Value ∷ Value ∷ []) everyone none
    ∷ reporter "min" (Value ∷ []) everyone none
    ∷ run_by runner.Given (reporter "min-n-of" (Value ∷ Value ∷ Reporter ∷ []) everyone agents)
    ∷ run_by runner.Given (reporter "min-one-of" (Value ∷ Reporter ∷ []) everyone agents)
    ∷ reporter "min-pxcor" [] everyone none
    ∷ reporter "min-pycor" [] everyone none
    ∷ operator 5 "mod" (Value ∷ Value ∷ []) everyone none
    ∷ reporter "modes" (Value ∷ []) everyone none
    ∷ command "move-to" (Value ∷ []) turtles
    ∷ reporter "my-in-links" [] turtles links
    ∷ reporter "my-links" [] turtles links
    ∷ reporter "my-out-links" [] turtles links
    ∷ reporter "myself" [] agents none
    ∷ reporter "n-of" (Value ∷ Value ∷ []) everyone agents
    ∷ in_turns turns.OneValue (reporter "n-values" (Value ∷ ArrowReporter ∷ []) everyone none)
    ∷ reporter "neighbors" [] turtles_and_patches patches
    ∷ reporter "neighbors4" [] turtles_and_patches patches
    ∷ command "no-display" [] everyone
    ∷ reporter "no-links" [] everyone links
    ∷ reporter "no-patches" [] everyone patches
    ∷ reporter "no-turtles" [] everyone turtles
    ∷ constant "nobody"
    ∷ reporter "not" (Value ∷ []) everyone none
    ∷ run_by runner.Given (operator 2 "of" (Reporter ∷ Value ∷ []) everyone none)
    ∷ reporter "one-of" (Value ∷ []) everyone agents
    ∷ operator 9 "or" (Value ∷ Value ∷ []) everyone none
    ∷ constant "orange"
    ∷ reporter "other" (Value ∷ []) agents agents
    ∷ reporter "other-end" [] turtles_and_links turtles
    ∷ reporter "out-link-neighbor?" (Value ∷ []) turtles none
    ∷ reporter "out-link-neighbors" [] turtles turtles
    ∷ reporter "out-link-to" (Value ∷ []) turtles links
    ∷ command "output-print" (Value ∷ []) everyone
    ∷ command "output-show" (Value ∷ []) everyone
    ∷ command "output-type" (Value ∷ []) everyone
    ∷ command "output-write" (Value ∷ []) everyone
    ∷ reporter "patch" (Value ∷ Value ∷ []) everyone patches
    ∷ reporter "patch-ahead" (Value ∷ []) turtles patches
    ∷ reporter "patch-at" (Value ∷ Value ∷ []) turtles_and_patches patches
    ∷ reporter "patch-at-heading-and-distance" (Value ∷ Value ∷ []) turtles_and_patches patches
    ∷ reporter "patch-here" [] turtles patches
    ∷ reporter "patch-left-and-ahead" (Value ∷ Value ∷ []) turtles patches
    ∷ reporter "patch-right-and-ahead" (Value ∷ Value ∷ []) turtles patches
    ∷ open_reporter "patch-set" (Value ∷ []) everyone patches
    ∷ reporter "patches" [] everyone patches
    ∷ reserved "patches-own"
    ∷ variable "pcolor" turtles_and_patches
    ∷ command "pd" [] turtles
    ∷ command "pe" [] turtles
    ∷ command "pen-down" [] turtles
    ∷ command "pen-erase" [] turtles
    ∷ variable "pen-mode" turtles
    ∷ variable "pen-size" turtles
    ∷ command "pen-up" [] turtles
    ∷ reporter "pi" [] everyone none
    ∷ constant "pink"
    ∷ variable "plabel" turtles_and_patches
    ∷ variable "plabel-color" turtles_and_patches
    ∷ command "plot" (Value ∷ []) everyone
    ∷ command "plot-pen-down" [] everyone
    ∷ command "plot-pen-reset" [] everyone
    ∷ command "plot-pen-up" [] everyone
    ∷ command "plotxy" (Value ∷ Value ∷ []) everyone
    ∷ reporter "position" (Value ∷ Value ∷ []) everyone none
    ∷ reporter "precision" (Value ∷ Value ∷ []) everyone none
    ∷ command "print" (Value ∷ []) everyone
    ∷ command "pu" [] turtles
    ∷ fixed_variable "pxcor" turtles_and_patches
    ∷ fixed_variable "pycor" turtles_and_patches
    ∷ reporter "random" (Value ∷ []) everyone none
    ∷ reporter "random-float" (Value ∷ []) everyone none
    ∷ reporter "random-pxcor" [] everyone none
    ∷ reporter "random-pycor" [] everyone none
    ∷ command "random-seed" (Value ∷ []) everyone
    ∷ reporter "random-xcor" [] everyone none
    ∷ reporter "random-ycor" [] everyone none
    ∷ open_reporter "range" (Value ∷ []) everyone none
    ∷ constant "red"
    ∷ in_turns turns.TwoValues (reporter "reduce" (ArrowReporter ∷ Value ∷ []) everyone none)
    ∷ reporter "remainder" (Value ∷ Value ∷ []) everyone none
    ∷ reporter "remove" (Value ∷ Value ∷ []) everyone none
    ∷ reporter "remove-duplicates" (Value ∷ []) everyone none
    ∷ reporter "remove-item" (Value ∷ Value ∷ []) everyone none
    ∷ control "repeat" (Value ∷ Commands ∷ [])
    ∷ reporter "replace-item" (Value ∷ Value ∷ Value ∷ []) everyone none
    ∷ leaves leaving.Reports (command "report" (Value ∷ []) everyone)
    ∷ command "reset-perspective" [] everyone
    ∷ command "reset-ticks" [] observers
    ∷ reporter "reverse" (Value ∷ []) everyone none
    ∷ command "ride" (Value ∷ []) observers
    ∷ command "ride-me" [] turtles
    ∷ command "right" (Value ∷ []) turtles
    ∷ reporter "round" (Value ∷ []) everyone none
    ∷ command "rp" [] everyone
    ∷ command "rt" (Value ∷ []) turtles
    ∷ reporter "scale-color" (Value ∷ Value ∷ Value ∷ Value ∷ []) everyone none
    ∷ open_reporter "se" (Value ∷ Value ∷ []) everyone none
    ∷ reporter "self" [] agents none
    ∷ open_reporter "sentence" (Value ∷ Value ∷ []) everyone none
    ∷ naming manner.Set (command "set" (Variable ∷ Value ∷ []) everyone)
    ∷ command "set-current-plot" (Value ∷ []) everyone
    ∷ command "set-current-plot-pen" (Value ∷ []) everyone
    ∷ command "set-default-shape" (Value ∷ Value ∷ []) everyone
    ∷ command "set-plot-pen-color" (Value ∷ []) everyone
    ∷ command "set-plot-pen-interval" (Value ∷ []) everyone
    ∷ command "set-plot-pen-mode" (Value ∷ []) everyone
    ∷ command "set-plot-x-range" (Value ∷ Value ∷ []) everyone
    ∷ command "set-plot-y-range" (Value ∷ Value ∷ []) everyone
    ∷ command "setup-plots" [] everyone
    ∷ command "setxy" (Value ∷ Value ∷ []) turtles
    ∷ reporter "shade-of?" (Value ∷ Value ∷ []) everyone none
    ∷ variable "shape" turtles_and_links
    ∷ command "show" (Value ∷ []) everyone
    ∷ command "show-link" [] links
    ∷ command "show-turtle" [] turtles
    ∷ reporter "shuffle" (Value ∷ []) everyone none
    ∷ reporter "sin" (Value ∷ []) everyone none
    ∷ variable "size" turtles
    ∷ constant "sky"
    ∷ reporter "sort" (Value ∷ []) everyone none
    ∷ in_turns turns.TwoValues (reporter "sort-by" (ArrowReporter ∷ Value ∷ []) everyone none)
    ∷ run_by runner.Given (reporter "sort-on" (Reporter ∷ Value ∷ []) everyone none)
    ∷ births "sprout" patches
    ∷ reporter "sqrt" (Value ∷ []) everyone none
    ∷ command "st" [] turtles
    ∷ command "stamp" [] turtles_and_links
    ∷ command "stamp-erase" [] turtles_and_links
    ∷ reporter "standard-deviation" (Value ∷ []) everyone none
    ∷ leaves leaving.Stops (command "stop" [] everyone)
    ∷ reporter "sublist" (Value ∷ Value ∷ Value ∷ []) everyone none
    ∷ reporter "substring" (Value ∷ Value ∷ Value ∷ []) everyone none
    ∷ reporter "subtract-headings" (Value ∷ Value ∷ []) everyone none
    ∷ reporter "sum" (Value ∷ []) everyone none
    ∷ reporter "tan" (Value ∷ []) everyone none
    ∷ variable "thickness" links
    ∷ command "tick" [] observers
    ∷ command "tick-advance" (Value ∷ []) observers
    ∷ reporter "ticks" [] everyone none
    ∷ variable "tie-mode" links
    ∷ reserved "to"
    ∷ reserved "to-report"
    ∷ reporter "towards" (Value ∷ []) turtles_and_patches none
    ∷ reporter "towardsxy" (Value ∷ Value ∷ []) turtles_and_patches none
    ∷ constant "true"
    ∷ constant "turquoise"
    ∷ reporter "turtle" (Value ∷ []) everyone turtles
    ∷ open_reporter "turtle-set" (Value ∷ []) everyone turtles
    ∷ reporter "turtles" [] everyone turtles
    ∷ reporter "turtles-at" (Value ∷ Value ∷ []) turtles_and_patches turtles
    ∷ reporter "turtles-here" [] turtles_and_patches turtles
    ∷ reporter "turtles-on" (Value ∷ []) everyone turtles
    ∷ reserved "turtles-own"
    ∷ command "type" (Value ∷ []) everyone
    ∷ reserved "undirected-link-breed"
    ∷ reporter "up-to-n-of" (Value ∷ Value ∷ []) everyone agents
    ∷ command "update-plots" [] everyone
    ∷ spreading "uphill" (Variable ∷ []) turtles
    ∷ spreading "uphill4" (Variable ∷ []) turtles
    ∷ reporter "variance" (Value ∷ []) everyone none
    ∷ constant "violet"
    ∷ command "wait" (Value ∷ []) everyone
    ∷ command "watch" (Value ∷ []) observers
    ∷ command "watch-me" [] agents
    ∷ control "while" (Reporter ∷ Commands ∷ [])
    ∷ constant "white"
    ∷ fixed_variable "who" turtles
    ∷ run_by runner.Given (operator 1 "with" (Value ∷ Reporter ∷ []) everyone agents)
    ∷ run_by runner.Given (operator 1 "with-max" (Value ∷ Reporter ∷ []) everyone agents)
    ∷ run_by runner.Given (operator 1 "with-min" (Value ∷ Reporter ∷ []) everyone agents)
    ∷ open_reporter "word" (Value ∷ Value ∷ []) everyone none
    ∷ reporter "world-height" [] everyone none
    ∷ reporter "world-width" [] everyone none
    ∷ reporter "wrap-color" (Value ∷ []) everyone none
    ∷ command "write" (Value ∷ []) everyone
    ∷ variable "xcor" turtles
    ∷ operator 9 "xor" (Value ∷ Value ∷ []) everyone none
    ∷ variable "ycor" turtles
    ∷ constant "yellow"
    ∷ []
    )
