-- Statements, and the words that choose or repeat blocks, all run by the same agent.
-- What the words do is the NetLogo Dictionary's; where a unit is spent is this project's own choice: before each statement, before each turn of
-- a loop, and before each test of `while`.
use Rattle.std.specs.Prelude.{ℕ, zero, suc, neg_ℤ, ◌++◌, Bool, true, false, List, [], ◌∷◌, length, take}
use Rattle.nl_value.specs.Plain.{Plain, PlainNumber, PlainTruth, PlainItems, plains}
use Rattle.nl_birth.specs.Births.{count_of}
use Rattle.nl_fixed.specs.declared.span.Span.{Span}
use Rattle.nl_tree.specs.Tree.{Node, span, parts}
use Rattle.nl_exec_acts.specs.declared.fail.ErrorKind.TheVariants.{NoReport}
use Rattle.nl_exec_meaning.specs.State.{State, Exit, Outcome, Eval, Gives, Stopped, Reported, Left, Budget, Error, ends, gives, goes_on, fails, ◌>>=◌, spend, choose, with_part, with_number, with_truth, with_locals}
use Rattle.nl_exec_meaning.specs.Running.{is_dead}

-- ---- parts in order

-- the values of the nodes, from left to right, behind those that are there already
abbrev pub values : Eval → List Node → List Plain → State → (List Plain → State → Outcome) → Outcome
values prev [] made s next = next made s
values prev (t ∷ ts) made s next = prev t s >>= λ value s1. values prev ts (made ++ value ∷ []) s1 next

-- the one part of a pair of parentheses, or of a block of one expression
abbrev pub inside_case : Eval → Node → State → Outcome
inside_case prev t s = with_part t 0 (span t) s (λ part. prev part s)

-- a literal list
abbrev pub items_case : Eval → Node → State → Outcome
items_case prev t s = values prev (parts t) [] s (λ made s1. gives (PlainItems (plains made)) s1)

-- the negative of a number, which is always one
abbrev pub negation_case : Eval → Node → State → Outcome
negation_case prev t s =
    with_part t 0 (span t) s (λ part. prev part s >>= λ value s1. with_number value (span t) s1 (λ count. gives (PlainNumber (neg_ℤ count)) s1))

-- ---- statements

-- the locals that a block makes are known to its end
abbrev pub cut_to : ℕ → State → State
cut_to kept s = with_locals (take kept s.locals) s

-- goes on behind a statement with what it gave; an end of the whole text leaves all as it stands
abbrev pub leave_by : Exit → ℕ → State → (Plain → State → Outcome) → Outcome
leave_by (Gives value) kept s next = next value s
leave_by Stopped kept s next = ends Stopped (cut_to kept s)
leave_by (Reported value) kept s next = ends (Reported value) (cut_to kept s)
leave_by Left kept s next = ends Left (cut_to kept s)
leave_by Budget kept s next = ends Budget s
leave_by (Error kind place body) kept s next = ends (Error kind place body) s

abbrev pub leaving : ℕ → Outcome → (Plain → State → Outcome) → Outcome
leaving kept o next = leave_by o.exit kept o.state next

-- one statement: a dead agent leaves, and else a unit is spent first
abbrev pub statement : Eval → ℕ → Node → State → (Plain → State → Outcome) → Outcome
statement prev kept t s next = choose (is_dead s) (ends Left (cut_to kept s)) (spend s (λ s1. leaving kept (prev t s1) next))

abbrev pub statements : Eval → ℕ → List Node → State → Outcome
statements prev kept [] s = goes_on (cut_to kept s)
statements prev kept (t ∷ ts) s = statement prev kept t s (λ value s1. statements prev kept ts s1)

-- a block, or the body of a procedure
abbrev pub statements_case : Eval → Node → State → Outcome
statements_case prev t s = statements prev (length s.locals) (parts t) s

-- ---- choices

-- the value of a part, which has to be a truth
abbrev pub tested : Eval → Node → ℕ → State → (Bool → State → Outcome) → Outcome
tested prev t index s next =
    with_part t index (span t) s (λ part. prev part s >>= λ value s1. with_truth value (span t) s1 (λ truth. next truth s1))

abbrev pub part_of : Eval → Node → ℕ → State → Outcome
part_of prev t index s = with_part t index (span t) s (λ part. prev part s)

-- the right side is not looked at where the left one decides
abbrev pub and_case : Eval → Node → State → Outcome
and_case prev t s =
    tested prev t 0 s (λ left s1. choose left (tested prev t 1 s1 (λ right s2. gives (PlainTruth right) s2)) (gives (PlainTruth false) s1))

abbrev pub or_case : Eval → Node → State → Outcome
or_case prev t s =
    tested prev t 0 s (λ left s1. choose left (gives (PlainTruth true) s1) (tested prev t 1 s1 (λ right s2. gives (PlainTruth right) s2)))

abbrev pub if_case : Eval → Node → State → Outcome
if_case prev t s = tested prev t 0 s (λ truth s1. choose truth (part_of prev t 1 s1) (goes_on s1))

-- Conditions, each with its block, and perhaps a last block: the block of the first one that is true, else the last block, else what is told where
-- there is none. A condition has to be a truth, and is looked at only where those before it are false.
abbrev pub chosen : Eval → Span → (State → Outcome) → List Node → State → Outcome
chosen prev place none [] s = none s
chosen prev place none (last ∷ []) s = prev last s
chosen prev place none (test ∷ block ∷ others) s =
    prev test s >>= λ value s1. with_truth value place s1 (λ truth. choose truth (prev block s1) (chosen prev place none others s1))

-- `ifelse` goes on where no block is chosen
abbrev pub ifelse_case : Eval → Node → State → Outcome
ifelse_case prev t s = chosen prev (span t) goes_on (parts t) s

-- and `ifelse-value` has no value then
abbrev pub ifelse_value_case : Eval → Node → State → Outcome
ifelse_value_case prev t s = chosen prev (span t) (fails NoReport (span t)) (parts t) s

-- ---- loops

-- a turn: a unit, and then the block
abbrev pub turn : Eval → Node → ℕ → State → (State → Outcome) → Outcome
turn prev t index s next = with_part t index (span t) s (λ block. spend s (λ s1. prev block s1 >>= λ value s2. next s2))

abbrev pub turns : ℕ → Eval → Node → State → Outcome
turns zero prev t s = goes_on s
turns (suc n) prev t s = turn prev t 1 s (λ s1. turns n prev t s1)

-- so many turns as the whole part of the number says
abbrev pub repeat_case : Eval → Node → State → Outcome
repeat_case prev t s =
    with_part t 0 (span t) s (λ part. prev part s >>= λ value s1. with_number value (span t) s1 (λ number. turns (count_of number) prev t s1))

-- A loop that ends by its units: a step is given what comes after it. There are no more turns than units.
abbrev pub Step : Type 0
Step = (State → Outcome) → State → Outcome

abbrev pub fuelled : ℕ → Step → State → Outcome
fuelled zero step s = ends Budget s
fuelled (suc fuel) step s = step (fuelled fuel step) s

unfoldable pub unending : Step → State → Outcome
unending step s = fuelled (suc s.units) step s

-- a test costs a unit, and a turn another one
abbrev pub while_tested : Eval → Node → (State → Outcome) → Outcome → Outcome
while_tested prev t again o =
    o >>= λ value s. with_truth value (span t) s (λ truth. choose truth (turn prev t 1 s again) (goes_on s))

abbrev pub while_step : Eval → Node → Step
while_step prev t again s = with_part t 0 (span t) s (λ test. spend s (λ s1. while_tested prev t again (prev test s1)))

abbrev pub while_case : Eval → Node → State → Outcome
while_case prev t s = unending (while_step prev t) s

abbrev pub loop_step : Eval → Node → Step
loop_step prev t again s = turn prev t 0 s again

abbrev pub loop_case : Eval → Node → State → Outcome
loop_case prev t s = unending (loop_step prev t) s
