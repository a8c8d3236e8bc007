-- What a step of the reader does, beside one of the machine.
use Rattle.std.specs.Prelude.{◌≡◌, Bool, true, false, List, Result, OnOk}
use Rattle.std.specs.Result.{IsErrOf}
use Rattle.nl_fixed.specs.Nouns.{Names}
use Rattle.nl_parse_grammar.specs.Machine.{Frame, Mode, Have, Optional, State, Step, go, stop}
use Rattle.nl_parse_stack.specs.inner.State.{names_of, stack_of, state_of}
use Rattle.nl_parse_stack.specs.declared.reader.Reader.{Reader}
use Rattle.nl_parse_stack.specs.declared.reader.Refusal.{Refusal}
use Rattle.nl_parse_stack.specs.declared.reader.Refusal.TheVariants.{Unexpected}

-- the reader comes to where this step of the machine goes from there, and takes a token for unexpected only where the machine stops
abbrev pub FollowsLate : Result (Unit {0}) Refusal → Reader → Reader → (Names → List Frame → Step) → Type 0
FollowsLate result old new step =
    OnOk result (step (names_of old) (stack_of old) ≡ go (state_of new))
    × (IsErrOf result Unexpected → step (names_of old) (stack_of old) ≡ stop)

-- and it does so wherever the machine stops: it wants no memory before it has seen that
abbrev pub Follows : Result (Unit {0}) Refusal → Reader → Reader → (Names → List Frame → Step) → Type 0
Follows result old new step =
    OnOk result (step (names_of old) (stack_of old) ≡ go (state_of new))
    × (IsErrOf result Unexpected → step (names_of old) (stack_of old) ≡ stop)
    × (step (names_of old) (stack_of old) ≡ stop → IsErrOf result Unexpected)

-- in such a mode the reader sees where the machine stops before it wants memory: no chain has to be ended first, and no block to be left out
abbrev pub sees_first : Mode → Bool
sees_first (Have x t) = false
sees_first Optional = false
sees_first m = true

-- the reader comes to this state, which the machine reaches of the names that it knew and of what it had open
abbrev pub Reaches : Result (Unit {0}) Refusal → Reader → Reader → (Names → List Frame → State) → Type 0
Reaches result old new to = Follows result old new (λ e K. go (to e K))
