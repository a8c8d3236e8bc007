-- What further units change of what a text comes to.
use Rattle.std.specs.Prelude.{◌≡◌, ℕ, suc, ◌+◌, ◌-◌, ◌<◌, ◌≤◌}
use Rattle.nl_tree.specs.Checked.{Checked}
use Rattle.nl_tree.specs.Tree.{Node}
use Rattle.nl_tree.specs.declared.declared.Form.{Form}
use Rattle.nl_exec_meaning.specs.State.{State, Outcome, Budget}
use Rattle.nl_exec_meaning.specs.Meaning.{evaluator, text}

-- with so many units to spend
abbrev pub with_units : ℕ → State → State
with_units units s = record s { units = units }

-- the same with so many units left
abbrev pub with_left : ℕ → Outcome → Outcome
with_left left o = record o { state = with_units left o.state }

-- What becomes of what units come to where there are more of them. Whole: the end isn't for want of units, it stays with the world that it leaves,
-- and all that there is more is left. Cut: the end is for want of units, with none left, and of what there is more at least one unit is spent.
pub data Further (outcome : ℕ → Outcome) (units : ℕ) : Type 0 where
  Whole : ((outcome units).exit ≡ Budget → ⊥) →
      ((more : ℕ) → outcome (units + more) ≡ with_left ((outcome units).state.units + more) (outcome units)) → Further outcome units
  Cut : (outcome units).exit ≡ Budget → (outcome units).state.units ≡ 0 → ((more : ℕ) → (outcome (units + suc more)).state.units ≤ more) →
      Further outcome units

-- what a lone text comes to from a state with so many units
abbrev pub with_budget : Checked → Form → Node → State → ℕ → Outcome
with_budget p form t s units = text p form t (with_units units s)

-- each evaluation is whole with its units, or cut, with whatever room for nesting
abbrev pub NodesAreWholeOrCut : Type 0
NodesAreWholeOrCut = (p : Checked) (room : ℕ) (t : Node) (s : State) (units : ℕ) → Further (λ n. evaluator p room t (with_units n s)) units

-- and so is each lone text
abbrev pub TextsAreWholeOrCut : Type 0
TextsAreWholeOrCut = (p : Checked) (form : Form) (t : Node) (s : State) (units : ℕ) → Further (with_budget p form t s) units

-- Where the end isn't for want of units, those that were spent are wanted: with fewer the end is for want of them, with none left; and with these and
-- whatever there is more it is the same end with the same world, with just that left.
pub record Wants (outcome : ℕ → Outcome) (wanted : ℕ) (o : Outcome) : Type 0 where
  pub fewer : (n : ℕ) → n < wanted → (outcome n).exit ≡ Budget
  pub spent : (n : ℕ) → n < wanted → (outcome n).state.units ≡ 0
  pub enough : (more : ℕ) → outcome (wanted + more) ≡ with_left more o

abbrev pub TextsWantWhatTheySpend : Type 0
TextsWantWhatTheySpend =
    (p : Checked) (form : Form) (t : Node) (s : State) (units : ℕ) → ((with_budget p form t s units).exit ≡ Budget → ⊥)
    → Wants (with_budget p form t s) (units - (with_budget p form t s units).state.units) (with_budget p form t s units)

-- what ends for want of units doesn't leave all that there is more
abbrev pub CutTextsLeaveNotAll : Type 0
CutTextsLeaveNotAll =
    (p : Checked) (form : Form) (t : Node) (s : State) (units : ℕ) → (with_budget p form t s units).exit ≡ Budget
    → ((more : ℕ) → with_budget p form t s (units + more) ≡ with_left ((with_budget p form t s units).state.units + more) (with_budget p form t s units))
    → ⊥
