-- What `and`, `or` and `not` give at once, from what their parts give.
use Rattle.std.proofs.Common.{◌≡◌, ℕ, zero, suc, ◌<◌, Bool, not, List, [], ◌∷◌, Option, Some, None, IfSome, ap, ◌∙◌, arith}
use Rattle.nl_words.specs.declared.entry.Kinds.{Kinds}
use Rattle.nl_value.specs.Plain.{Plain, PlainTruth}
use Rattle.nl_tree.specs.Tree.{Node, label, span, parts}
use Rattle.nl_tree.specs.Checked.{Checked}
use Rattle.nl_agents_layout.specs.Nouns.{BreedNumber}
use Rattle.nl_listops.specs.declared.words.ValueWord.TheVariants as value
use Rattle.nl_exec_acts.specs.declared.words.Act.TheVariants as act
use Rattle.nl_exec_meaning.specs.declared.words.Built.TheVariants as built
use Rattle.nl_exec_meaning.specs.declared.words.Control.{Control}
use Rattle.nl_exec_meaning.specs.Cases.{case_of, Word}
use Rattle.nl_exec_meaning.specs.State.{State, Outcome, Eval, gives, ◌>>=◌}
use Rattle.nl_exec_meaning.specs.Running.{allowed, staying}
use Rattle.nl_exec_meaning.specs.Blocks.{values}
use Rattle.nl_exec_meaning.specs.Meaning.{act_case, control_case, limited, evaluator}
use Rattle.nl_exec_short.specs.Had.{two_truths_case}
use Rattle.nl_exec_short.proofs.Words.{case_is}

-- ---- two truths

-- a word that gives what two truths give
two_had : (p : Checked) (room : ℕ) (t : Node) (s : State) (runs : Kinds) (breed : Option BreedNumber) (word : Control) (decides truth : Bool) →
    Word runs breed (built.Control word) ≡ case_of p.declared (label t) → ((next : Outcome) → allowed runs (span t) s next ≡ next) →
    ((prev : Eval) → control_case word p runs prev t s ≡ two_truths_case decides prev t s) →
    two_truths_case decides (evaluator p room) t s ≡ gives (PlainTruth truth) s → evaluator p (suc room) t s ≡ gives (PlainTruth truth) s
two_had p room t s runs breed word decides truth is may same had =
    case_is p room t s (Word runs breed (built.Control word)) is
    ∙ ap (limited (span t)) (may _ ∙ same (evaluator p room) ∙ had)

-- the same of a truth that may be there
pub truths_had : (p : Checked) (t : Node) (s : ℕ → State) (n : ℕ) (runs : Kinds) (breed : Option BreedNumber) (word : Control) (decides : Bool) (o : Option Bool) →
    Word runs breed (built.Control word) ≡ case_of p.declared (label t) → ((units : ℕ) (next : Outcome) → allowed runs (span t) (s units) next ≡ next) →
    ((units : ℕ) (prev : Eval) → control_case word p runs prev t (s units) ≡ two_truths_case decides prev t (s units)) →
    IfSome o (λ truth. (room units : ℕ) → n < room → two_truths_case decides (evaluator p room) t (s units) ≡ gives (PlainTruth truth) (s units)) →
    IfSome o (λ truth. (room units : ℕ) → suc n < room → evaluator p room t (s units) ≡ gives (PlainTruth truth) (s units))
truths_had p t s n runs breed word decides None is may same had = tt
truths_had p t s n runs breed word decides (Some truth) is may same had = by
  where
    by : (room units : ℕ) → suc n < room → evaluator p room t (s units) ≡ gives (PlainTruth truth) (s units)
    by zero units some = absurd (omega (arith, some))
    by (suc room) units some =
        let h : n < room = omega (arith, some) in
        two_had p room t (s units) runs breed word decides truth is (may units) (same units) (had room units h)

-- ---- not

-- what the one part gives is what the word is given
one_value : (prev : Eval) (ts : List Node) (x : Node) (a : Plain) (s : State) (next : List Plain → State → Outcome) →
    ts ≡ x ∷ [] → prev x s ≡ gives a s → values prev ts [] s next ≡ next (a ∷ []) s
one_value prev ts x a s next are first =
    ap (λ it. values prev it [] s next) are ∙ ap (λ o. o >>= λ v s1. values prev [] (v ∷ []) s1 next) first

not_acted : (prev : Eval) (t x : Node) (s : State) (runs : Kinds) (breed : Option BreedNumber) (truth : Bool) →
    parts t ≡ x ∷ [] → ((next : Outcome) → staying runs s next ≡ next) → prev x s ≡ gives (PlainTruth truth) s →
    act_case (act.Value value.Not) breed runs prev t s ≡ gives (PlainTruth (not truth)) s
not_acted prev t x s runs breed truth are stays had = one_value prev (parts t) x (PlainTruth truth) s _ are had ∙ stays _

-- the truth that the part doesn't give
pub not_had : (p : Checked) (room : ℕ) (t x : Node) (s : State) (runs : Kinds) (breed : Option BreedNumber) (truth : Bool) →
    Word runs breed (built.Act (act.Value value.Not)) ≡ case_of p.declared (label t) → parts t ≡ x ∷ [] →
    ((next : Outcome) → allowed runs (span t) s next ≡ next) → ((next : Outcome) → staying runs s next ≡ next) →
    evaluator p room x s ≡ gives (PlainTruth truth) s → evaluator p (suc room) t s ≡ gives (PlainTruth (not truth)) s
not_had p room t x s runs breed truth is are may stays had =
    case_is p room t s (Word runs breed (built.Act (act.Value value.Not))) is
    ∙ ap (limited (span t)) (may _ ∙ not_acted (evaluator p room) t x s runs breed truth are stays had)
