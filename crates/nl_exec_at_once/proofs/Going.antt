-- A statement that a living agent runs.
use Rattle.std.proofs.Common.{◌≡◌, ℕ, suc, Bool, false, List, ◌∷◌, ap, ◌∙◌}
use Rattle.nl_tree.specs.Tree.{Node}
use Rattle.nl_exec_meaning.specs.State.{State, Outcome, Eval, choose, ends, Left, spend, spend_by}
use Rattle.nl_exec_meaning.specs.Blocks.{cut_to, leaving, statements}
use Rattle.nl_exec_meaning.specs.Running.{is_dead}

-- a unit is spent, and behind what the statement comes to come the others; where it goes on, these are all that is left
pub statement_comes_to : (prev : Eval) (kept : ℕ) (t : Node) (ts : List Node) (s : State) (o : Outcome) (units : ℕ) →
    is_dead s ≡ false → s.units ≡ suc units → prev t (record s { units = units }) ≡ o →
    statements prev kept (t ∷ ts) s ≡ leaving kept o (λ value s3. statements prev kept ts s3)
statement_comes_to prev kept t ts s o units lives some comes =
    let next = λ (s2 : State). leaving kept (prev t s2) (λ value s3. statements prev kept ts s3) in
    ap (λ (b : Bool). choose b (ends Left (cut_to kept s)) (spend s next)) lives
    ∙ ap (λ (n : ℕ). spend_by n s next) some
    ∙ ap (λ (x : Outcome). leaving kept x (λ value s3. statements prev kept ts s3)) comes
