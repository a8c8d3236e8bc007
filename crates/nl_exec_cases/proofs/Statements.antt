-- A dead agent leaves before a statement.
use Rattle.std.proofs.Common.{◌≡◌, ℕ, ◌||◌, Bool, true, List, ◌∷◌, ap}
use Rattle.nl_tree.specs.Tree.{Node}
use Rattle.nl_exec_meaning.specs.State.{State, Eval, Left, ends, choose, spend}
use Rattle.nl_exec_meaning.specs.Running.{is_dead}
use Rattle.nl_exec_meaning.specs.Blocks.{cut_to, leaving, statements}
use Rattle.nl_exec_meaning.specs.Meaning.{is_stopped, text_statements}

pub dead_statement : (prev : Eval) (kept : ℕ) (t : Node) (ts : List Node) (s : State) → is_dead s ≡ true → statements prev kept (t ∷ ts) s ≡ ends Left (cut_to kept s)
dead_statement prev kept t ts s dead =
    ap (λ b. choose b (ends Left (cut_to kept s)) (spend s (λ s1. leaving kept (prev t s1) (λ value s2. statements prev kept ts s2)))) dead

pub dead_text_statement : (prev : Eval) (t : Node) (ts : List Node) (stopped : Bool) (s : State) → is_dead s ≡ true → text_statements prev (t ∷ ts) stopped s ≡ ends Left (cut_to 0 s)
dead_text_statement prev t ts stopped s dead =
    ap (λ b. choose b (ends Left (cut_to 0 s)) (spend s (λ s1. leaving 0 (prev t s1) (λ value s2. text_statements prev ts (stopped || is_stopped value) s2)))) dead
