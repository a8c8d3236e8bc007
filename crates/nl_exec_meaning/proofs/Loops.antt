-- A loop that ends by its units is its own step: fuel above the units doesn't matter.
use Rattle.std.proofs.Common.{◌≡◌, ℕ, zero, suc, ◌<◌, refl, arith}
use Rattle.nl_tree.specs.Tree.{Node, span}
use Rattle.nl_exec_meaning.specs.State.{State, Outcome, Eval}
use Rattle.nl_exec_meaning.specs.Blocks.{Step, turn, fuelled, unending, while_step, while_case, loop_step, loop_case}
use Rattle.nl_exec_meaning.specs.Laws.{Thrifty}
use Rattle.nl_exec_meaning.proofs.Same.{found-same, next-same, spend-same, truth-same, choose-same}

-- a step goes on only with fewer units
abbrev pub Guarded : Step → Type 0
Guarded step = (again other : State → Outcome) (s : State) → ((s1 : State) → s1.units < s.units → again s1 ≡ other s1) → step again s ≡ step other s

pub fuelled-same : (step : Step) → Guarded step → (fuel more : ℕ) (s : State) → s.units < fuel → s.units < more →
    fuelled fuel step s ≡ fuelled more step s
fuelled-same step guarded zero more s few fewer = absurd (omega (arith, few))
fuelled-same step guarded (suc fuel) zero s few fewer = absurd (omega (arith, fewer))
fuelled-same step guarded (suc fuel) (suc more) s few fewer =
    guarded (fuelled fuel step) (fuelled more step) s (λ s1 less. fuelled-same step guarded fuel more s1 (omega (arith, less, few)) (omega (arith, less, fewer)))

pub unending-unfolds : (step : Step) → Guarded step → (s : State) → unending step s ≡ step (unending step) s
unfolding unending
unending-unfolds step guarded s =
    guarded (fuelled s.units step) (λ s1. fuelled (suc s1.units) step s1) s (λ s1 less. fuelled-same step guarded s.units (suc s1.units) s1 less (omega arith))

-- a turn costs a unit
turn-guarded : (prev : Eval) → Thrifty prev → (t : Node) (index : ℕ) → Guarded (λ again s. turn prev t index s again)
turn-guarded prev thrifty t index again other s same =
    found-same _ _ _ s _ _ (λ block. spend-same s.units s _ _ (λ left is.
    let s1 : State = record s { units = left } in
    let o = prev block s1 in
    next-same o.exit o.state _ _ (λ value. same o.state (omega (arith, thrifty block s1, is)))))

while-guarded : (prev : Eval) → Thrifty prev → (t : Node) → Guarded (while_step prev t)
while-guarded prev thrifty t again other s same =
    found-same _ _ _ s _ _ (λ test. spend-same s.units s _ _ (λ left is.
    let s1 : State = record s { units = left } in
    let o = prev test s1 in
    next-same o.exit o.state _ _ (λ value. truth-same value (span t) o.state _ _ (λ truth. choose-same truth _ _ _ _
    (turn-guarded prev thrifty t 1 again other o.state (λ s2 less. same s2 (omega (arith, less, thrifty test s1, is))))
    refl))))

pub while_unfolds : (prev : Eval) → Thrifty prev → (t : Node) (s : State) → while_case prev t s ≡ while_step prev t (while_case prev t) s
while_unfolds prev thrifty t s = unending-unfolds (while_step prev t) (while-guarded prev thrifty t) s

pub loop_unfolds : (prev : Eval) → Thrifty prev → (t : Node) (s : State) → loop_case prev t s ≡ loop_step prev t (loop_case prev t) s
loop_unfolds prev thrifty t s = unending-unfolds (loop_step prev t) (turn-guarded prev thrifty t 0) s
