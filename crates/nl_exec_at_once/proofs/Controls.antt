-- A word that evaluates its parts in a way of its own.
use Rattle.std.proofs.Common.{◌≡◌, ◌<◌, ℕ, zero, suc, Option, ap, ◌∙◌, sym, arith}
use Rattle.nl_words.specs.declared.entry.Kinds.{Kinds}
use Rattle.nl_agents_layout.specs.Nouns.{BreedNumber}
use Rattle.nl_tree.specs.Tree.{Node, label, span}
use Rattle.nl_tree.specs.Checked.{Checked}
use Rattle.nl_exec_meaning.specs.Cases.{Case, case_of}
use Rattle.nl_exec_meaning.specs.Cases as case
use Rattle.nl_exec_meaning.specs.declared.words.Built.{Built}
use Rattle.nl_exec_meaning.specs.Running.{allowed}
use Rattle.nl_exec_meaning.specs.State.{State, Outcome, goes_on}
use Rattle.nl_exec_meaning.specs.Meaning.{built_case, by_case, cases, evaluator, limited}
use Rattle.nl_exec_at_once.specs.declared.statements.TheConstants.{PLAIN_NESTED}

limited_case : (p : Checked) (room : ℕ) (t : Node) (s : State) (k : Case) → k ≡ case_of p.declared (label t) →
    evaluator p (suc room) t s ≡ limited (span t) (by_case k p (evaluator p room) t s)
unfolding evaluator cases
limited_case p room t s k is = ap (λ (x : Case). limited (span t) (by_case x p (evaluator p room) t s)) (sym is)

-- it comes to what its own case comes to, with less room
pub word_comes_to : (p : Checked) (t : Node) (runs : Kinds) (breed : Option BreedNumber) (word : Built) (s : State) (nested : ℕ) (rest : ℕ → Outcome) →
    case.Word runs breed word ≡ case_of p.declared (label t) →
    ((next : Outcome) → allowed runs (span t) s next ≡ next) →
    ((room : ℕ) → nested < room → limited (span t) (built_case word breed p runs (evaluator p room) t s) ≡ rest (suc room)) →
    (room : ℕ) → suc nested < room → evaluator p room t s ≡ rest room
word_comes_to p t runs breed word s nested rest is may comes zero enough = absurd (omega (arith, enough))
word_comes_to p t runs breed word s nested rest is may comes (suc room) enough =
    limited_case p room t s (case.Word runs breed word) is
    ∙ ap (limited (span t)) (may (built_case word breed p runs (evaluator p room) t s))
    ∙ comes room (omega (arith, enough))

-- one that goes on
pub word_goes_on : (p : Checked) (t : Node) (runs : Kinds) (breed : Option BreedNumber) (word : Built) (s s1 : State) →
    case.Word runs breed word ≡ case_of p.declared (label t) →
    ((next : Outcome) → allowed runs (span t) s next ≡ next) →
    ((room : ℕ) → 6 < room → built_case word breed p runs (evaluator p room) t s ≡ goes_on s1) →
    (room : ℕ) → PLAIN_NESTED < room → evaluator p room t s ≡ goes_on s1
word_goes_on p t runs breed word s s1 is may goes room enough =
    word_comes_to p t runs breed word s 6 (λ r. goes_on s1) is may (λ r inside. ap (limited (span t)) (goes r inside)) room enough
