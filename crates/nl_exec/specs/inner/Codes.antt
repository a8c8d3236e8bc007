-- The phase of a machine as plain data.
use Rattle.std.specs.Prelude.{◌≡◌, ℕ, zero, suc, refl}
use Rattle.std.specs.Coded.{Coded, code_by, coded_ℕ, coded×}
use Rattle.nl_exec_levels.specs.declared.focus.Wish.{Wish}
use Rattle.nl_exec_levels.specs.declared.focus.Wish.TheVariants as wish
use Rattle.nl_exec.specs.declared.phase.Phase.{Phase}
use Rattle.nl_exec.specs.declared.phase.Phase.TheVariants as phase

-- a phase is its place among the variants, and a number
abbrev wish_parts : Wish → ℕ × ℕ
wish_parts (wish.Node node) = (0, node)
wish_parts wish.Tick = (1, 0)

abbrev phase_parts : Phase → ℕ × (ℕ × ℕ)
phase_parts phase.Closed = (0, (0, 0))
phase_parts phase.Failed = (1, (0, 0))
phase_parts (phase.Begun node) = (2, (0, node))
phase_parts (phase.Waiting w) = (3, wish_parts w)

abbrev wish_at : ℕ → ℕ → Wish
wish_at zero node = wish.Node node
wish_at (suc place) node = wish.Tick

abbrev phase_at : ℕ → ℕ × ℕ → Phase
phase_at zero rest = phase.Closed
phase_at (suc zero) rest = phase.Failed
phase_at (suc (suc zero)) rest = phase.Begun rest.1
phase_at (suc (suc (suc place))) rest = phase.Waiting (wish_at rest.0 rest.1)

abbrev phase_again : (p : Phase) → phase_at (phase_parts p).0 (phase_parts p).1 ≡ p
phase_again phase.Closed = refl
phase_again phase.Failed = refl
phase_again (phase.Begun node) = refl
phase_again (phase.Waiting (wish.Node node)) = refl
phase_again (phase.Waiting wish.Tick) = refl

abbrev pub phase_code : Coded Phase
phase_code = code_by (ℕ × (ℕ × ℕ)) (coded× coded_ℕ (coded× coded_ℕ coded_ℕ)) phase_parts (λ c. phase_at c.0 c.1) phase_again
