-- What a word of no values, or of one, gives at once, from what its part gives. What it leaves may be another stage.
use Rattle.std.proofs.Common.{◌≡◌, ℕ, zero, suc, ◌<◌, List, [], ◌∷◌, Option, Ok, ap, ◌∙◌, sym, arith}
use Rattle.nl_words.specs.declared.entry.Kinds.{Kinds}
use Rattle.nl_value.specs.Plain.{Plain}
use Rattle.nl_tree.specs.Tree.{Node, label, span, parts}
use Rattle.nl_tree.specs.Checked.{Checked}
use Rattle.nl_agents_layout.specs.Nouns.{BreedNumber}
use Rattle.nl_exec_acts.specs.declared.words.Act.{Act}
use Rattle.nl_exec_acts.specs.Stage.{Stage}
use Rattle.nl_exec_meaning.specs.declared.words.Built.TheVariants as built
use Rattle.nl_exec_meaning.specs.Cases.{Case, case_of, Word}
use Rattle.nl_exec_meaning.specs.State.{State, Outcome, Eval, gives, with_stage, come_to, ◌>>=◌}
use Rattle.nl_exec_meaning.specs.Running.{allowed, staying}
use Rattle.nl_exec_meaning.specs.Acting.{performed}
use Rattle.nl_exec_meaning.specs.Blocks.{values}
use Rattle.nl_exec_meaning.specs.Meaning.{evaluator, cases, act_case, by_case, limited}

case_is : (p : Checked) (room : ℕ) (t : Node) (s : State) (of_node : Case) → of_node ≡ case_of p.declared (label t) →
    evaluator p (suc room) t s ≡ limited (span t) (by_case of_node p (evaluator p room) t s)
unfolding evaluator cases
case_is p room t s of_node is = ap (λ it. limited (span t) (by_case it p (evaluator p room) t s)) (sym is)

-- no parts give no values
no_values : (prev : Eval) (ts : List Node) (s : State) (next : List Plain → State → Outcome) → ts ≡ [] → values prev ts [] s next ≡ next [] s
no_values prev ts s next are = ap (λ it. values prev it [] s next) are

-- what one part gives is what the word is given
one_value : (prev : Eval) (ts : List Node) (x : Node) (a : Plain) (s : State) (next : List Plain → State → Outcome) →
    ts ≡ x ∷ [] → prev x s ≡ gives a s → values prev ts [] s next ≡ next (a ∷ []) s
one_value prev ts x a s next are first =
    ap (λ it. values prev it [] s next) are ∙ ap (λ o. o >>= λ v s1. values prev [] (v ∷ []) s1 next) first

-- an act of these values, once they are there
act_ends : (act : Act) (breed : Option BreedNumber) (runs : Kinds) (t : Node) (inputs : List Plain) (value : Plain) (after : Stage) (s : State) →
    ((next : Outcome) → staying runs s next ≡ next) →
    performed act breed s.site.agent s.site.asker inputs s.stage ≡ Ok (value, after) →
    staying runs s (come_to (performed act breed s.site.agent s.site.asker inputs s.stage) (span t) s (λ answer. gives answer.0 (with_stage answer.1 s)))
    ≡ gives value (with_stage after s)
act_ends act breed runs t inputs value after s stays does-it =
    stays _ ∙ ap (λ o. come_to o (span t) s (λ answer. gives answer.0 (with_stage answer.1 s))) does-it

-- an act of no values
pub word_of_none_had : (p : Checked) (room : ℕ) (t : Node) (s : State) (runs : Kinds) (breed : Option BreedNumber) (act : Act) (value : Plain) (after : Stage) →
    Word runs breed (built.Act act) ≡ case_of p.declared (label t) → parts t ≡ [] →
    ((next : Outcome) → allowed runs (span t) s next ≡ next) → ((next : Outcome) → staying runs s next ≡ next) →
    performed act breed s.site.agent s.site.asker [] s.stage ≡ Ok (value, after) →
    limited (span t) (gives value (with_stage after s)) ≡ gives value (with_stage after s) →
    evaluator p (suc room) t s ≡ gives value (with_stage after s)
word_of_none_had p room t s runs breed act value after is are may stays does-it small =
    let acts : act_case act breed runs (evaluator p room) t s ≡ gives value (with_stage after s) =
    no_values (evaluator p room) (parts t) s _ are ∙ act_ends act breed runs t [] value after s stays does-it in
    case_is p room t s (Word runs breed (built.Act act)) is ∙ ap (limited (span t)) (may _ ∙ acts) ∙ small

-- an act of one value
pub word_of_one_had : (p : Checked) (room : ℕ) (t x : Node) (s : State) (runs : Kinds) (breed : Option BreedNumber) (act : Act) (a value : Plain) (after : Stage) →
    Word runs breed (built.Act act) ≡ case_of p.declared (label t) → parts t ≡ x ∷ [] →
    ((next : Outcome) → allowed runs (span t) s next ≡ next) → ((next : Outcome) → staying runs s next ≡ next) →
    evaluator p room x s ≡ gives a s →
    performed act breed s.site.agent s.site.asker (a ∷ []) s.stage ≡ Ok (value, after) →
    limited (span t) (gives value (with_stage after s)) ≡ gives value (with_stage after s) →
    evaluator p (suc room) t s ≡ gives value (with_stage after s)
word_of_one_had p room t x s runs breed act a value after is are may stays first does-it small =
    let acts : act_case act breed runs (evaluator p room) t s ≡ gives value (with_stage after s) =
    one_value (evaluator p room) (parts t) x a s _ are first ∙ act_ends act breed runs t (a ∷ []) value after s stays does-it in
    case_is p room t s (Word runs breed (built.Act act)) is ∙ ap (limited (span t)) (may _ ∙ acts) ∙ small

-- what needs room for one more than its part
pub roomy : (P : ℕ → Type 0) (n : ℕ) → ((room : ℕ) → n < room → P (suc room)) → (room : ℕ) → suc n < room → P room
roomy P n holds zero some = absurd (omega (arith, some))
roomy P n holds (suc room) some = holds room (omega (arith, some))

pub some_room : (P : ℕ → Type 0) → ((room : ℕ) → P (suc room)) → (room : ℕ) → 0 < room → P room
some_room P holds zero some = absurd (omega (arith, some))
some_room P holds (suc room) some = holds room
