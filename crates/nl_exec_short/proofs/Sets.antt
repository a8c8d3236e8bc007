-- What words of sets give at once.
use Rattle.std.proofs.Common.{◌≡◌, ℕ, suc, ◌==◌, not, true, List, [], ◌∷◌, length, Option, Ok, pos, ◌*ℤ◌, refl, ap, ◌∙◌, sym, arith}
use Rattle.std.proofs.lemmas.Bool.{ne_eqb}
use Rattle.nl_fixed.specs.Numbers.{one}
use Rattle.nl_fixed.specs.declared.span.Span.{Span}
use Rattle.nl_words.specs.declared.entry.Kinds.{Kinds}
use Rattle.nl_value.specs.Plain.{Plain, PlainNumber, PlainTruth, PlainSet}
use Rattle.nl_value.specs.Limits.{within_limits}
use Rattle.nl_value.specs.Sets.{set_kind}
use Rattle.nl_value.specs.declared.sets.AgentSet.{AgentSet}
use Rattle.nl_tree.specs.Tree.{Node, label, span, parts}
use Rattle.nl_tree.specs.Checked.{Checked}
use Rattle.nl_agents_layout.specs.Nouns.{BreedNumber}
use Rattle.nl_agents.specs.Members.{members_of}
use Rattle.nl_agents.specs.declared.agents.Owner.{Owner}
use Rattle.nl_agentset_query.specs.Agents.{listed}
use Rattle.nl_agentset_query.specs.declared.words.OfSet.TheVariants as of_set
use Rattle.nl_agentset_query.specs.declared.words.QueryWord.{QueryWord}
use Rattle.nl_agentset_query.specs.declared.words.QueryWord.TheVariants as query
use Rattle.nl_agentset.specs.Queries.{query_answer}
use Rattle.nl_agentset.specs.Sets.{others, has_members}
use Rattle.nl_exec_acts.specs.declared.words.Act.TheVariants as act
use Rattle.nl_exec_acts.specs.Stage.{Stage, outcome_map}
use Rattle.nl_exec_acts.specs.Fails.{error_of_query, told_as}
use Rattle.nl_exec_acts.specs.Acts.{with_stream}
use Rattle.nl_exec_meaning.specs.declared.words.Built.TheVariants as built
use Rattle.nl_exec_meaning.specs.Cases.{case_of, Word}
use Rattle.nl_exec_meaning.specs.State.{State, Outcome, gives, fails, choose}
use Rattle.nl_exec_acts.specs.declared.fail.ErrorKind.TheVariants.{TooLarge}
use Rattle.nl_exec_meaning.specs.Running.{allowed, staying}
use Rattle.nl_exec_meaning.specs.Acting.{performed, who_asks}
use Rattle.nl_exec_meaning.specs.Meaning.{evaluator, limited}
use Rattle.nl_exec_short.proofs.Single.{word_of_none_had, word_of_one_had}

-- what a query answers that draws nothing, where who runs lives
query_told_so : (which : QueryWord) (breed : Option BreedNumber) (agent asker : Owner) (inputs : List Plain) (st : Stage) (value : Plain) →
    who_asks st.rest agent ≡ agent → query_answer st.rest breed agent which inputs st.stream ≡ Ok (value, st.stream) →
    performed (act.Query which) breed agent asker inputs st ≡ Ok (value, st)
query_told_so which breed agent asker inputs st value living answers =
    ap (λ who. outcome_map (with_stream st) (told_as error_of_query (query_answer st.rest breed who which inputs st.stream))) living
    ∙ ap (λ o. outcome_map (with_stream st) (told_as error_of_query o)) answers

is_small : (place : Span) (set : AgentSet) (s : State) → within_limits (PlainSet set) ≡ true → limited place (gives (PlainSet set) s) ≡ gives (PlainSet set) s
is_small place set s small = ap (λ b. choose b (gives (PlainSet set) s) (fails TooLarge place s)) small

-- a set that a word gives without inputs
pub set_had : (p : Checked) (room : ℕ) (t : Node) (s : State) (runs : Kinds) (breed : Option BreedNumber) (which : QueryWord) (set : AgentSet) →
    Word runs breed (built.Act (act.Query which)) ≡ case_of p.declared (label t) → parts t ≡ [] →
    ((next : Outcome) → allowed runs (span t) s next ≡ next) → ((next : Outcome) → staying runs s next ≡ next) →
    who_asks s.stage.rest s.site.agent ≡ s.site.agent →
    query_answer s.stage.rest breed s.site.agent which [] s.stage.stream ≡ Ok (PlainSet set, s.stage.stream) →
    within_limits (PlainSet set) ≡ true →
    evaluator p (suc room) t s ≡ gives (PlainSet set) s
set_had p room t s runs breed which set is are may stays living answers small =
    word_of_none_had p room t s runs breed (act.Query which) (PlainSet set) s.stage is are may stays
    (query_told_so which breed s.site.agent s.site.asker [] s.stage (PlainSet set) living answers) (is_small (span t) set s small)

-- all of a set but who runs
pub others_had : (p : Checked) (room : ℕ) (t x : Node) (s : State) (runs : Kinds) (breed : Option BreedNumber) (set : AgentSet) →
    Word runs breed (built.Act (act.Query (query.OfSet of_set.Other))) ≡ case_of p.declared (label t) → parts t ≡ x ∷ [] →
    ((next : Outcome) → allowed runs (span t) s next ≡ next) → ((next : Outcome) → staying runs s next ≡ next) →
    who_asks s.stage.rest s.site.agent ≡ s.site.agent → evaluator p room x s ≡ gives (PlainSet set) s →
    within_limits (PlainSet (listed (set_kind set) (others s.stage.rest s.site.agent set))) ≡ true →
    evaluator p (suc room) t s ≡ gives (PlainSet (listed (set_kind set) (others s.stage.rest s.site.agent set))) s
others_had p room t x s runs breed set is are may stays living first small =
    let rest = listed (set_kind set) (others s.stage.rest s.site.agent set) in
    word_of_one_had p room t x s runs breed (act.Query (query.OfSet of_set.Other)) (PlainSet set) (PlainSet rest) s.stage is are may stays first
    (query_told_so (query.OfSet of_set.Other) breed s.site.agent s.site.asker (PlainSet set ∷ []) s.stage (PlainSet rest) living refl) (is_small (span t) rest s small)

-- how many members a set has
pub count_had : (p : Checked) (room : ℕ) (t x : Node) (s : State) (runs : Kinds) (breed : Option BreedNumber) (set : AgentSet) (many : ℕ) →
    Word runs breed (built.Act (act.Query (query.OfSet of_set.Count))) ≡ case_of p.declared (label t) → parts t ≡ x ∷ [] →
    ((next : Outcome) → allowed runs (span t) s next ≡ next) → ((next : Outcome) → staying runs s next ≡ next) →
    evaluator p room x s ≡ gives (PlainSet set) s → length (members_of s.stage.rest set) ≡ many →
    evaluator p (suc room) t s ≡ gives (PlainNumber (pos many *ℤ pos one)) s
count_had p room t x s runs breed set many is are may stays first so =
    word_of_one_had p room t x s runs breed (act.Query (query.OfSet of_set.Count)) (PlainSet set) (PlainNumber (pos many *ℤ pos one)) s.stage is are may stays first
    (ap (λ n. Ok (PlainNumber (pos n *ℤ pos one), s.stage)) so) refl

some_or_none : (ns : List ℕ) → has_members ns ≡ not (length ns == 0)
some_or_none [] = refl
some_or_none (n ∷ ns) = ap not (sym (ne_eqb (suc (length ns)) 0 (λ same. omega (arith, same))))

-- whether a set has members
pub any_had : (p : Checked) (room : ℕ) (t x : Node) (s : State) (runs : Kinds) (breed : Option BreedNumber) (set : AgentSet) (many : ℕ) →
    Word runs breed (built.Act (act.Query (query.OfSet of_set.Any))) ≡ case_of p.declared (label t) → parts t ≡ x ∷ [] →
    ((next : Outcome) → allowed runs (span t) s next ≡ next) → ((next : Outcome) → staying runs s next ≡ next) →
    evaluator p room x s ≡ gives (PlainSet set) s → length (members_of s.stage.rest set) ≡ many →
    evaluator p (suc room) t s ≡ gives (PlainTruth (not (many == 0))) s
any_had p room t x s runs breed set many is are may stays first so =
    word_of_one_had p room t x s runs breed (act.Query (query.OfSet of_set.Any)) (PlainSet set) (PlainTruth (not (many == 0))) s.stage is are may stays first
    (ap (λ b. Ok (PlainTruth b, s.stage)) (some_or_none (members_of s.stage.rest set) ∙ ap (λ n. not (n == 0)) so)) refl
