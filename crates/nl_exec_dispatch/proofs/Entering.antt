-- What the cases of nodes are, and how much a node that is no block weighs.
use Rattle.std.specs.Prelude.{⊤, ◌<◌, IfOk}
use Rattle.std.proofs.Common.{◌≡◌, ℕ, ◌+◌, [], Option, Result, Ok, Err, refl, sym, ap, ◌∙◌, subst, arith}
use Rattle.nl_fixed.specs.declared.memory.NoMemory.{NoMemory}
use Rattle.nl_words.specs.declared.entry.Kinds.{Kinds}
use Rattle.nl_tree.specs.Tree.{Node, label, parts}
use Rattle.nl_tree.specs.Checked.{Checked}
use Rattle.nl_tree.specs.declared.declared.Declared.{Declared}
use Rattle.nl_tree.specs.declared.tree.Label.{Label}
use Rattle.nl_tree.specs.declared.tree.Label.TheVariants as label
use Rattle.nl_agents_layout.specs.Nouns.{BreedNumber}
use Rattle.nl_agents.specs.declared.store.Store.{Ghosts}
use Rattle.nl_exec_acts.specs.declared.words.Act.{Act}
use Rattle.nl_exec_meaning.specs.declared.words.Built.{Built}
use Rattle.nl_exec_meaning.specs.declared.words.Built.TheVariants as built
use Rattle.nl_exec_meaning.specs.Cases.{Case, case_of}
use Rattle.nl_exec_meaning.specs.Cases as case
use Rattle.nl_exec_meaning.specs.Code.{Code}
use Rattle.nl_exec_meaning.specs.State.{State, Eval, Outcome}
use Rattle.nl_exec_meaning.specs.Blocks.{values}
use Rattle.nl_exec_meaning.specs.Meaning.{built_case, by_case, cases}
use Rattle.nl_exec_meaning.specs.Frames.{parts_done, parts_from}
use Rattle.nl_exec_meaning.specs.Means.{Means}
use Rattle.nl_exec_meaning.specs.Seen.{state_of}
use Rattle.nl_exec_meaning.specs.Weight.{weight, weight_by, weights}
use Rattle.nl_exec_meaning.specs.Work.{next_work}
use Rattle.nl_exec_meaning.specs.declared.frames.Next.{Next}
use Rattle.nl_exec_meaning.specs.declared.hands.Hands.{Hands}
use Rattle.nl_exec_meaning.proofs.Weights.{weight_out, weight_positive}

-- ---- weights

-- the case is none of a list of statements
abbrev pub IsHeavy : Case → Type 0
IsHeavy case.Statements = ⊥
IsHeavy other = ⊤

heavy-by : (d : Declared) (l : Label) (k : Case) (n : ℕ) → k ≡ case_of d l → IsHeavy k → weight_by l n ≡ 6 + n
heavy-by d label.Commands k n is heavy = absurd (subst IsHeavy is heavy)
heavy-by d l k n is heavy = refl

-- what falls below the parts of such a node falls below the node
pub falls_below : (d : Declared) (t : Node) (k : Case) (n : ℕ) → k ≡ case_of d (label t) → IsHeavy k → n < 6 + weights (parts t) → n < weight t
falls_below d t k n is heavy h = rw (weight_out t ∙ heavy-by d (label t) k (weights (parts t)) is heavy) h

pub next_falls : (c : Code) (t : Node) (k : Case) (r : Result Next NoMemory) → k ≡ case_of c.program.declared (label t) → IsHeavy k →
    IfOk r (λ next. next_work c next < 6 + weights (parts t)) → IfOk r (λ next. next_work c next < weight t)
next_falls c t k (Ok next) is heavy h = falls_below c.program.declared t k (next_work c next) is heavy h
next_falls c t k (Err e) is heavy h = h

-- nothing falls below every node
pub none_falls : (t : Node) (n : ℕ) → n ≡ 0 → n < weight t
none_falls t n none = omega (arith, none, weight_positive t)

-- ---- cases

pub cases_out : (p : Checked) (prev : Eval) (t : Node) (s : State) (k : Case) → k ≡ case_of p.declared (label t) → by_case k p prev t s ≡ cases p prev t s
unfolding cases
cases_out p prev t s k is = ap (λ (x : Case). by_case x p prev t s) is

-- what a node makes of the values of all its parts, from the first one on
parts-by : (c : Code) (prev : Eval) (t : Node) (s : State) (k : Case) → k ≡ case_of c.program.declared (label t) →
    parts_from c prev t 0 [] s ≡ values prev (parts t) [] s (λ all s1. parts_done c.program k prev t all s1)
parts-by c prev t s k is = ap (λ (x : Case). values prev (parts t) [] s (λ all s1. parts_done c.program x prev t all s1)) (sym is)

pub items_out : (c : Code) (prev : Eval) (t : Node) (s : State) → case.Items ≡ case_of c.program.declared (label t) →
    parts_from c prev t 0 [] s ≡ cases c.program prev t s
items_out c prev t s is = parts-by c prev t s case.Items is ∙ cases_out c.program prev t s case.Items is

pub call_out : (c : Code) (prev : Eval) (t : Node) (s : State) (index : ℕ) → case.Procedure index ≡ case_of c.program.declared (label t) →
    parts_from c prev t 0 [] s ≡ cases c.program prev t s
call_out c prev t s index is = parts-by c prev t s (case.Procedure index) is ∙ cases_out c.program prev t s (case.Procedure index) is

pub act_out : (c : Code) (prev : Eval) (t : Node) (s : State) (runs : Kinds) (breed : Option BreedNumber) (word : Built) (act : Act) →
    case_of c.program.declared (label t) ≡ case.Word runs breed word → word ≡ built.Act act →
    parts_from c prev t 0 [] s ≡ built_case word breed c.program runs prev t s
act_out c prev t s runs breed word act is done =
    parts-by c prev t s (case.Word runs breed (built.Act act)) (sym (is ∙ ap (λ w. case.Word runs breed w) done))
    ∙ sym (ap (λ w. built_case w breed c.program runs prev t s) done)

-- what means one thing means what is the same
pub means_too : {S : Type 0} {G : Ghosts S} (c : Code) (r : Result Next NoMemory) (after before : Hands S G) (here there : Eval → State → Outcome) →
    ((prev : Eval) (s : State) → here prev s ≡ there prev s) →
    IfOk r (λ next. Means c next after before here) → IfOk r (λ next. Means c next after before there)
means_too c (Ok next) after before here there same h = λ prev units thrifty. h prev units thrifty ∙ same prev (state_of c.names before units)
means_too c (Err e) after before here there same h = h
