-- The end of a slice.
use Rattle.std.proofs.Common.{◌≡◌, ℕ, List, [], ap, ◌∙◌, ◌+◌, ◌-◌, arith}
use Rattle.nl_tree.specs.declared.declared.Form.{Form}
use Rattle.nl_exec_meaning.specs.Code.{Code, node_at}
use Rattle.nl_exec_meaning.specs.State.{State, Outcome, Budget, ends, spend_by}
use Rattle.nl_exec_meaning.specs.Meaning.{text_by}
use Rattle.nl_exec_meaning.specs.Seen.{ended}
use Rattle.nl_exec_meaning.specs.declared.exits.Exit.{Exit}
use Rattle.nl_exec_levels.specs.declared.levels.Level.{Level}
use Rattle.nl_exec_levels.specs.declared.focus.Wish.{Wish}
use Rattle.nl_exec_levels.specs.declared.focus.Focus.TheVariants.{Start}
use Rattle.nl_exec_levels.specs.declared.focus.Stop.{Stop}
use Rattle.nl_exec_levels.specs.declared.focus.Stop.TheVariants as stop
use Rattle.nl_exec_levels.specs.Rest.{through, rest, stopped, IsOver}
use Rattle.nl_exec_levels.proofs.Stack.{budget_through}

none-spent : (units : ℕ) (s : State) (k : State → Outcome) → units ≡ 0 → spend_by units s k ≡ spend_by 0 s k
none-spent units s k none = ap (λ n. spend_by n s k) none

-- where a unit is wanted and none is left, the rest is the end of the units
pub wish_ends : (c : Code) (limit : ℕ) (ls : List Level) (at : Stop) (w : Wish) (s : State) → at ≡ stop.Wanted w → s.units ≡ 0 →
    rest c limit ls (stopped at) s ≡ ends Budget s
wish_ends c limit ls at w s is spent =
    ap (λ x. rest c limit ls (stopped x) s) is ∙ ap (through c limit ls) (none-spent s.units s _ spent) ∙ budget_through c limit ls s

-- where the text has ended, it is the end of the text
pub text_ends : (c : Code) (limit : ℕ) (ls : List Level) (at : Stop) (e : Exit) (s : State) → at ≡ stop.End e → IsOver ls at →
    rest c limit ls (stopped at) s ≡ ended e s
unfolding through
text_ends c limit ls at e s is over =
    let none : ls ≡ [] = rw is at over in
    ap (λ x. rest c limit ls (stopped x) s) is ∙ ap (λ xs. through c limit xs (ended e s)) none

-- a rest over units, where none is left of those that were asked for
pub more_by : (here there : ℕ → Outcome) (left asked units n : ℕ) → here (left + n) ≡ there (asked + n) → left ≡ 0 → asked ≡ units → here n ≡ there (units + n)
more_by here there left asked units n h none all =
    let a : n ≡ left + n = omega arith in
    let b : asked + n ≡ units + n = omega arith in
    ap here a ∙ h ∙ ap there b

-- with no level, the rest is what the text means
pub rest_start : (c : Code) (limit : ℕ) (ls : List Level) (form : Form) (t : ℕ) (s s' : State) → ls ≡ [] → s ≡ s' →
    rest c limit ls (Start form t) s ≡ text_by c.program limit form (node_at c t) s'
unfolding through
rest_start c limit ls form t s s' none same =
    let all : limit - 0 ≡ limit = omega arith in
    ap (λ xs. rest c limit xs (Start form t) s) none
    ∙ ap (λ n. text_by c.program n form (node_at c t) s) all
    ∙ ap (text_by c.program limit form (node_at c t)) same
