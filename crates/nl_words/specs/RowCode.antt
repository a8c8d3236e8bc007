-- Codes for the parts of a row, by which a proof tells rows apart.
use Rattle.std.specs.Prelude.{◌≡◌, ℕ, zero, suc, Bool, refl}
use Rattle.std.specs.Coded.{Coded, code_by, coded_ℕ, coded_bool, coded×}
use Rattle.nl_words.specs.declared.entry.Role.{Role}
use Rattle.nl_words.specs.declared.entry.Role.TheVariants as role
use Rattle.nl_words.specs.declared.entry.Input.{Input}
use Rattle.nl_words.specs.declared.entry.Input.TheVariants as input
use Rattle.nl_words.specs.declared.entry.Kinds.{Kinds}
use Rattle.nl_words.specs.declared.entry.Runner.{Runner}
use Rattle.nl_words.specs.declared.entry.Runner.TheVariants as runner
use Rattle.nl_words.specs.declared.entry.Turns.{Turns}
use Rattle.nl_words.specs.declared.entry.Turns.TheVariants as turns
use Rattle.nl_words.specs.declared.entry.Manner.{Manner}
use Rattle.nl_words.specs.declared.entry.Manner.TheVariants as manner
use Rattle.nl_words.specs.declared.entry.Leaving.{Leaving}
use Rattle.nl_words.specs.declared.entry.Leaving.TheVariants as leaving

abbrev role_written : Role → ℕ × ℕ
role_written role.Command = (0, 0)
role_written role.Reporter = (1, 0)
role_written role.Constant = (2, 0)
role_written role.Variable = (3, 0)
role_written role.Reserved = (4, 0)
role_written (role.Operator level) = (5, level)

abbrev role_of : ℕ → ℕ → Role
role_of zero level = role.Command
role_of (suc zero) level = role.Reporter
role_of (suc (suc zero)) level = role.Constant
role_of (suc (suc (suc zero))) level = role.Variable
role_of (suc (suc (suc (suc zero)))) level = role.Reserved
role_of (suc (suc (suc (suc (suc n))))) level = role.Operator level

pub role_again : (r : Role) → role_of (role_written r).0 (role_written r).1 ≡ r
role_again role.Command = refl
role_again role.Reporter = refl
role_again role.Constant = refl
role_again role.Variable = refl
role_again role.Reserved = refl
role_again (role.Operator level) = refl

abbrev pub role_code : Coded Role
role_code = code_by (ℕ × ℕ) (coded× coded_ℕ coded_ℕ) role_written (λ c. role_of c.0 c.1) role_again

abbrev input_written : Input → ℕ
input_written input.Value = 0
input_written input.Expression = 1
input_written input.Commands = 2
input_written input.MaybeCommands = 3
input_written input.Reporter = 4
input_written input.Variable = 5
input_written input.Fresh = 6
input_written input.ArrowCommands = 7
input_written input.ArrowReporter = 8
input_written input.Cases = 9

abbrev input_of : ℕ → Input
input_of zero = input.Value
input_of (suc zero) = input.Expression
input_of (suc (suc zero)) = input.Commands
input_of (suc (suc (suc zero))) = input.MaybeCommands
input_of (suc (suc (suc (suc zero)))) = input.Reporter
input_of (suc (suc (suc (suc (suc zero))))) = input.Variable
input_of (suc (suc (suc (suc (suc (suc zero)))))) = input.Fresh
input_of (suc (suc (suc (suc (suc (suc (suc zero))))))) = input.ArrowCommands
input_of (suc (suc (suc (suc (suc (suc (suc (suc zero)))))))) = input.ArrowReporter
input_of (suc (suc (suc (suc (suc (suc (suc (suc (suc n))))))))) = input.Cases

pub input_again : (i : Input) → input_of (input_written i) ≡ i
input_again input.Value = refl
input_again input.Expression = refl
input_again input.Commands = refl
input_again input.MaybeCommands = refl
input_again input.Reporter = refl
input_again input.Variable = refl
input_again input.Fresh = refl
input_again input.ArrowCommands = refl
input_again input.ArrowReporter = refl
input_again input.Cases = refl

abbrev pub input_code : Coded Input
input_code = code_by ℕ coded_ℕ input_written input_of input_again

abbrev pub kinds_code : Coded Kinds
kinds_code = code_by (Bool × (Bool × (Bool × Bool))) (coded× coded_bool (coded× coded_bool (coded× coded_bool coded_bool)))
    (λ k. (k.observer, (k.turtle, (k.patch, k.link))))
    (λ c. record { observer = c.0; turtle = c.1.0; patch = c.1.1.0; link = c.1.1.1 })
    (λ _. refl)

abbrev runner_written : Runner → ℕ
runner_written runner.NoBlock = 0
runner_written runner.Same = 1
runner_written runner.Turtles = 2
runner_written runner.Links = 3
runner_written runner.Given = 4

abbrev runner_of : ℕ → Runner
runner_of zero = runner.NoBlock
runner_of (suc zero) = runner.Same
runner_of (suc (suc zero)) = runner.Turtles
runner_of (suc (suc (suc zero))) = runner.Links
runner_of (suc (suc (suc (suc n)))) = runner.Given

pub runner_again : (r : Runner) → runner_of (runner_written r) ≡ r
runner_again runner.NoBlock = refl
runner_again runner.Same = refl
runner_again runner.Turtles = refl
runner_again runner.Links = refl
runner_again runner.Given = refl

abbrev pub runner_code : Coded Runner
runner_code = code_by ℕ coded_ℕ runner_written runner_of runner_again

abbrev turns_written : Turns → ℕ
turns_written turns.NoTurn = 0
turns_written turns.OneValue = 1
turns_written turns.TwoValues = 2
turns_written turns.ValueOfEachList = 3

abbrev turns_of : ℕ → Turns
turns_of zero = turns.NoTurn
turns_of (suc zero) = turns.OneValue
turns_of (suc (suc zero)) = turns.TwoValues
turns_of (suc (suc (suc n))) = turns.ValueOfEachList

pub turns_again : (t : Turns) → turns_of (turns_written t) ≡ t
turns_again turns.NoTurn = refl
turns_again turns.OneValue = refl
turns_again turns.TwoValues = refl
turns_again turns.ValueOfEachList = refl

abbrev pub turns_code : Coded Turns
turns_code = code_by ℕ coded_ℕ turns_written turns_of turns_again

abbrev manner_written : Manner → ℕ
manner_written manner.Run = 0
manner_written manner.Set = 1
manner_written manner.Spread = 2

abbrev manner_of : ℕ → Manner
manner_of zero = manner.Run
manner_of (suc zero) = manner.Set
manner_of (suc (suc n)) = manner.Spread

pub manner_again : (m : Manner) → manner_of (manner_written m) ≡ m
manner_again manner.Run = refl
manner_again manner.Set = refl
manner_again manner.Spread = refl

abbrev pub manner_code : Coded Manner
manner_code = code_by ℕ coded_ℕ manner_written manner_of manner_again

abbrev leaving_written : Leaving → ℕ
leaving_written leaving.Stays = 0
leaving_written leaving.Reports = 1
leaving_written leaving.Stops = 2

abbrev leaving_of : ℕ → Leaving
leaving_of zero = leaving.Stays
leaving_of (suc zero) = leaving.Reports
leaving_of (suc (suc n)) = leaving.Stops

pub leaving_again : (l : Leaving) → leaving_of (leaving_written l) ≡ l
leaving_again leaving.Stays = refl
leaving_again leaving.Reports = refl
leaving_again leaving.Stops = refl

abbrev pub leaving_code : Coded Leaving
leaving_code = code_by ℕ coded_ℕ leaving_written leaving_of leaving_again
