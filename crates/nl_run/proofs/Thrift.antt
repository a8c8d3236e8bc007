-- No text gives back more units than it was given.
use Rattle.std.proofs.Common.{ℕ, zero, suc, ◌≤◌, Bool, true, false, ◌||◌, List, [], ◌∷◌, arith}
use Rattle.nl_tree.specs.Checked.{Checked}
use Rattle.nl_tree.specs.Tree.{Node, parts}
use Rattle.nl_tree.specs.declared.declared.Form.{Form}
use Rattle.nl_tree.specs.declared.declared.Form.TheVariants as form
use Rattle.nl_value.specs.Plain.{Plain}
use Rattle.nl_exec_meaning.specs.Blocks.{leave_by}
use Rattle.nl_exec_meaning.specs.Laws.{Thrifty}
use Rattle.nl_exec_meaning.specs.Meaning.{evaluator, is_stopped, nesting_limit, text, text_by, text_end, text_statements}
use Rattle.nl_exec_meaning.specs.Running.{is_dead}
use Rattle.nl_exec_meaning.specs.State.{Eval, Exit, Outcome, State, Gives, Stopped, Reported, Left, Budget, Error, choose, spend_by}
use Rattle.nl_exec_meaning.proofs.Thrift.{thrifty}

Few : ℕ → (State → Outcome) → Type 0
Few n next = (s : State) → s.units ≤ n → (next s).state.units ≤ n

end_few : (n : ℕ) (stopped : Bool) (s : State) → s.units ≤ n → (text_end stopped s).state.units ≤ n
end_few n true s few = few
end_few n false s few = few

leave_few : (n : ℕ) (e : Exit) (kept : ℕ) (s : State) (next : Plain → State → Outcome) → s.units ≤ n
    → ((value : Plain) → Few n (next value)) → (leave_by e kept s next).state.units ≤ n
unfolding Few
leave_few n (Gives value) kept s next few keeps = keeps value s few
leave_few n Stopped kept s next few keeps = few
leave_few n (Reported value) kept s next few keeps = few
leave_few n Left kept s next few keeps = few
leave_few n Budget kept s next few keeps = few
leave_few n (Error kind place body) kept s next few keeps = few

spend_few : (n units : ℕ) (s : State) (next : State → Outcome) → units ≤ n → s.units ≤ n → Few n next → (spend_by units s next).state.units ≤ n
unfolding Few
spend_few n zero s next some few keeps = few
spend_few n (suc units) s next some few keeps = keeps (record s { units = units }) (omega (arith, some))

choose_few : (n : ℕ) (truth : Bool) (a b : Outcome) → a.state.units ≤ n → b.state.units ≤ n → (choose truth a b).state.units ≤ n
choose_few n true a b first second = first
choose_few n false a b first second = second

le_through : {a b c : ℕ} → a ≤ b → b ≤ c → a ≤ c
le_through ab bc = omega (arith, ab, bc)

statements_few : (n : ℕ) (prev : Eval) → Thrifty prev → (ts : List Node) (stopped : Bool) → Few n (text_statements prev ts stopped)
unfolding Few
statements_few n prev thrift [] stopped s few = end_few n stopped _ few
statements_few n prev thrift (t ∷ ts) stopped s few =
    choose_few n (is_dead s) _ _ few
    (spend_few n s.units s _ few few (λ s1 some. leave_few n (prev t s1).exit 0 (prev t s1).state _ (le_through (thrift t s1) some)
    (λ value. statements_few n prev thrift ts (stopped || is_stopped value))))

text_by_few : (p : Checked) (room : ℕ) (f : Form) (t : Node) (s : State) → (text_by p room f t s).state.units ≤ s.units
unfolding Few
text_by_few p room form.Reporter t s = thrifty p room t s
text_by_few p zero form.Commands t s = omega arith
text_by_few p (suc room) form.Commands t s = statements_few s.units (evaluator p room) (thrifty p room) (parts t) false s (omega arith)

pub text_thrifty : (p : Checked) (f : Form) (t : Node) (s : State) → (text p f t s).state.units ≤ s.units
text_thrifty p f t s = text_by_few p nesting_limit f t s
