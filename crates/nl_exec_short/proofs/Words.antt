-- What a node gives at once: one without parts, and a word of two values, from what its parts give.
use Rattle.std.proofs.Common.{◌≡◌, ℕ, ℤ, zero, suc, ◌<◌, Bool, true, false, if◌then◌else◌, List, [], ◌∷◌, Option, Some, None, IfSome, IsSome, Ok, refl, ap, ◌∙◌, sym, arith}
use Rattle.nl_fixed.specs.declared.span.Span.{Span}
use Rattle.nl_words.specs.declared.entry.Kinds.{Kinds}
use Rattle.nl_value.specs.Plain.{Plain, PlainNumber, PlainTruth, PlainWords, PlainItems, PlainTurtle, PlainPatch, PlainLink, PlainNobody, PlainSet}
use Rattle.nl_value.specs.Living.{Living}
use Rattle.nl_tree.specs.Tree.{Node, label, span, parts}
use Rattle.nl_tree.specs.Checked.{Checked}
use Rattle.nl_agents_layout.specs.Nouns.{Slot, BreedNumber}
use Rattle.nl_agents_layout.specs.Layouts.{has_slot}
use Rattle.nl_agents.specs.World.{World}
use Rattle.nl_agents.specs.Changes.{value_of}
use Rattle.nl_agents.specs.declared.agents.Owner.{Owner}
use Rattle.nl_agents.specs.declared.agents.Owner.TheVariants as owner
use Rattle.nl_agents.specs.Names.{living_of}
use Rattle.nl_listops.specs.declared.words.OfNumbers.{OfNumbers}
use Rattle.nl_listops.specs.declared.words.Comparison.{Comparison}
use Rattle.nl_listops.specs.declared.words.ValueWord.TheVariants as value
use Rattle.nl_listops.specs.Arithmetic.{number_of_two}
use Rattle.nl_listops.specs.Truths.{comparison_of}
use Rattle.nl_exec_acts.specs.declared.words.Act.{Act}
use Rattle.nl_exec_acts.specs.declared.words.Act.TheVariants as act
use Rattle.nl_exec_acts.specs.Stage.{Stage, bare}
use Rattle.nl_exec_acts.specs.Acts.{value_told}
use Rattle.nl_exec_acts.specs.declared.fail.ErrorKind.TheVariants.{NoVariable, WrongContext, WrongType}
use Rattle.nl_exec_meaning.specs.declared.words.Built.TheVariants as built
use Rattle.nl_exec_meaning.specs.Cases.{Case, case_of, Word}
use Rattle.nl_exec_meaning.specs.State.{State, Outcome, Eval, Gives, Error, gives, goes_on, fails, found, with_stage, with_number, come_to, ◌>>=◌}
use Rattle.nl_exec_meaning.specs.Running.{allowed, staying}
use Rattle.nl_exec_meaning.specs.Variables.{owner_by, patch_under, read_owned}
use Rattle.nl_exec_meaning.specs.Acting.{performed}
use Rattle.nl_exec_meaning.specs.Blocks.{values}
use Rattle.nl_exec_meaning.specs.Meaning.{act_case, by_case, cases, limited, evaluator}

-- ---- nodes without parts

-- what a node's case gives, whatever the nodes below it mean
pub given : (p : Checked) (t : Node) (s : State) (of_node : Case) (value : Plain) → of_node ≡ case_of p.declared (label t) →
    ((prev : Eval) → limited (span t) (by_case of_node p prev t s) ≡ gives value s) →
    (room : ℕ) → 0 < room → evaluator p room t s ≡ gives value s
unfolding evaluator cases
given p t s of_node value is gives-it zero some = absurd (omega (arith, some))
given p t s of_node value is gives-it (suc room) some =
    ap (λ it. limited (span t) (by_case it p (evaluator p room) t s)) (sym is) ∙ gives-it (evaluator p room)

-- a variable that holds a number
pub number_found : (o : Option Plain) (place : Span) (s : State) (number : ℤ) → o ≡ Some (PlainNumber number) →
    limited place (found o WrongType place s (λ v. gives v s)) ≡ gives (PlainNumber number) s
number_found o place s number is = ap (λ it. limited place (found it WrongType place s (λ v. gives v s))) is

-- who may run a word that is none of the observer's is no observer
agent_owns : (runs : Kinds) (slot : Slot) (place : Span) (s : State) (agent : Owner) (w : World) → s.site.agent ≡ agent → runs.observer ≡ false →
    ((next : Outcome) → allowed runs place s next ≡ next) →
    value_of (owner_by w.rest slot agent) slot (bare w.rest) ≡ value_of (owner_by w.rest slot agent) slot w
agent_owns runs slot place s owner.Observer w who none may =
    let barred : allowed runs place s (goes_on s) ≡ fails WrongContext place s = rw who (rw none refl) in
    let h : Error WrongContext place s.site.body ≡ Gives PlainNobody = ap (λ (o : Outcome). o.exit) (sym barred ∙ may (goes_on s)) in
    absurd (cc)
agent_owns runs slot place s (owner.Turtle turtle) w who none may = by (has_slot w.rest.layout.every_patch slot)
  where
    by : (b : Bool) → let o = if b then owner.Patch (patch_under w.rest turtle) else owner.Turtle turtle in value_of o slot (bare w.rest) ≡ value_of o slot w
    by true = refl
    by false = refl
agent_owns runs slot place s (owner.Patch patch) w who none may = refl
agent_owns runs slot place s (owner.Link link) w who none may = refl

-- a variable of agents is read
pub owned_read : (runs : Kinds) (slot : Slot) (place : Span) (s : State) (w : World) (value : Plain) → w.rest ≡ s.stage.rest → runs.observer ≡ false →
    ((next : Outcome) → allowed runs place s next ≡ next) →
    value_of (owner_by w.rest slot s.site.agent) slot w ≡ Some value → read_owned runs slot place s ≡ gives value s
owned_read runs slot place s w value same none may is =
    may _ ∙ ap (λ o. found o NoVariable place s (λ v. gives v s))
    (ap (λ r. value_of (owner_by r slot s.site.agent) slot (bare r)) (sym same) ∙ agent_owns runs slot place s s.site.agent w refl none may ∙ is)

no_number : (place : Span) (s : State) (number : ℤ) → fails WrongType place s ≡ gives (PlainNumber number) s → ⊥
no_number place s number is =
    let h : Error WrongType place s.site.body ≡ Gives (PlainNumber number) = ap (λ (o : Outcome). o.exit) is in
    absurd (cc)

-- a value that is taken for a number is that number
pub is_number : (v : Plain) (number : ℤ) (place : Span) (s : State) →
    ((next : ℤ → Outcome) → with_number v place s next ≡ found (Some number) WrongType place s next) → gives v s ≡ gives (PlainNumber number) s
is_number (PlainNumber x) number place s taken = taken (λ count. gives (PlainNumber count) s)
is_number (PlainTruth x) number place s taken = absurd (no_number place s number (taken (λ count. gives (PlainNumber count) s)))
is_number (PlainWords x) number place s taken = absurd (no_number place s number (taken (λ count. gives (PlainNumber count) s)))
is_number (PlainItems x) number place s taken = absurd (no_number place s number (taken (λ count. gives (PlainNumber count) s)))
is_number (PlainTurtle x) number place s taken = absurd (no_number place s number (taken (λ count. gives (PlainNumber count) s)))
is_number (PlainPatch x) number place s taken = absurd (no_number place s number (taken (λ count. gives (PlainNumber count) s)))
is_number (PlainLink x) number place s taken = absurd (no_number place s number (taken (λ count. gives (PlainNumber count) s)))
is_number PlainNobody number place s taken = absurd (no_number place s number (taken (λ count. gives (PlainNumber count) s)))
is_number (PlainSet x) number place s taken = absurd (no_number place s number (taken (λ count. gives (PlainNumber count) s)))

-- what holds of a number that is there
pub where_some : {X : Type 0} (P : X → Type 0) (o : Option X) → ((x : X) → o ≡ Some x → P x) → IfSome o P
where_some P None holds = tt
where_some P (Some x) holds = holds x refl

-- ---- words of two values

-- what the parts give is what the word is given
pub two_values : (prev : Eval) (ts : List Node) (x y : Node) (a b : Plain) (s : State) (next : List Plain → State → Outcome) →
    ts ≡ x ∷ y ∷ [] → prev x s ≡ gives a s → prev y s ≡ gives b s → values prev ts [] s next ≡ next (a ∷ b ∷ []) s
two_values prev ts x y a b s next are first second =
    ap (λ it. values prev it [] s next) are
    ∙ ap (λ o. o >>= λ v s1. values prev (y ∷ []) (v ∷ []) s1 next) first
    ∙ ap (λ o. o >>= λ v s1. values prev [] (a ∷ v ∷ []) s1 next) second

-- an act of two values that changes nothing
pub acted : (act : Act) (breed : Option BreedNumber) (runs : Kinds) (prev : Eval) (t x y : Node) (a b value : Plain) (s : State) →
    parts t ≡ x ∷ y ∷ [] → prev x s ≡ gives a s → prev y s ≡ gives b s → ((next : Outcome) → staying runs s next ≡ next) →
    performed act breed s.site.agent s.site.asker (a ∷ b ∷ []) s.stage ≡ Ok (value, s.stage) →
    act_case act breed runs prev t s ≡ gives value s
acted act breed runs prev t x y a b value s are first second stays does-it =
    two_values prev (parts t) x y a b s _ are first second
    ∙ stays _
    ∙ ap (λ o. come_to o (span t) s (λ answer. gives answer.0 (with_stage answer.1 s))) does-it

-- what the node's case comes to
pub case_is : (p : Checked) (room : ℕ) (t : Node) (s : State) (of_node : Case) → of_node ≡ case_of p.declared (label t) →
    evaluator p (suc room) t s ≡ limited (span t) (by_case of_node p (evaluator p room) t s)
unfolding evaluator cases
case_is p room t s of_node is = ap (λ it. limited (span t) (by_case it p (evaluator p room) t s)) (sym is)

pub word_had : (p : Checked) (room : ℕ) (t x y : Node) (s : State) (runs : Kinds) (breed : Option BreedNumber) (act : Act) (a b value : Plain) →
    Word runs breed (built.Act act) ≡ case_of p.declared (label t) → parts t ≡ x ∷ y ∷ [] →
    ((next : Outcome) → allowed runs (span t) s next ≡ next) → ((next : Outcome) → staying runs s next ≡ next) →
    evaluator p room x s ≡ gives a s → evaluator p room y s ≡ gives b s →
    performed act breed s.site.agent s.site.asker (a ∷ b ∷ []) s.stage ≡ Ok (value, s.stage) →
    limited (span t) (gives value s) ≡ gives value s →
    evaluator p (suc room) t s ≡ gives value s
word_had p room t x y s runs breed act a b value is are may stays first second does-it small =
    case_is p room t s (Word runs breed (built.Act act)) is
    ∙ ap (limited (span t)) (may _ ∙ acted act breed runs (evaluator p room) t x y a b value s are first second stays does-it) ∙ small

-- ---- what words make

-- what a word of numbers makes of two
pub numbers_made : (which : OfNumbers) (a b number : ℤ) (st : Stage) → number_of_two which a b ≡ Ok number →
    value_told (value.OfNumbers which) (PlainNumber a ∷ PlainNumber b ∷ []) st ≡ Ok (PlainNumber number, st)
numbers_made which a b number st is =
    rw is refl

-- what a comparison tells of two values
pub truth_made : (which : Comparison) (a b : Plain) (truth : Bool) (st : Stage) → comparison_of (living_of st.rest) which a b ≡ Ok truth →
    value_told (value.Compare which) (a ∷ b ∷ []) st ≡ Ok (PlainTruth truth, st)
truth_made which a b truth st is =
    rw is refl

-- a word of two numbers
pub numbers_had : (p : Checked) (room : ℕ) (t x y : Node) (s : State) (runs : Kinds) (breed : Option BreedNumber) (which : OfNumbers) (a b number : ℤ) →
    Word runs breed (built.Act (act.Value (value.OfNumbers which))) ≡ case_of p.declared (label t) → parts t ≡ x ∷ y ∷ [] →
    ((next : Outcome) → allowed runs (span t) s next ≡ next) → ((next : Outcome) → staying runs s next ≡ next) →
    evaluator p room x s ≡ gives (PlainNumber a) s → evaluator p room y s ≡ gives (PlainNumber b) s → number_of_two which a b ≡ Ok number →
    evaluator p (suc room) t s ≡ gives (PlainNumber number) s
numbers_had p room t x y s runs breed which a b number is are may stays first second made =
    word_had p room t x y s runs breed (act.Value (value.OfNumbers which)) (PlainNumber a) (PlainNumber b) (PlainNumber number) is are may stays first second
    (numbers_made which a b number s.stage made) refl

-- a word that compares two values
pub truth_had : (p : Checked) (room : ℕ) (t x y : Node) (s : State) (runs : Kinds) (breed : Option BreedNumber) (which : Comparison) (a b : Plain) (truth : Bool) →
    Word runs breed (built.Act (act.Value (value.Compare which))) ≡ case_of p.declared (label t) → parts t ≡ x ∷ y ∷ [] →
    ((next : Outcome) → allowed runs (span t) s next ≡ next) → ((next : Outcome) → staying runs s next ≡ next) →
    evaluator p room x s ≡ gives a s → evaluator p room y s ≡ gives b s → ((w : Living) → comparison_of w which a b ≡ Ok truth) →
    evaluator p (suc room) t s ≡ gives (PlainTruth truth) s
truth_had p room t x y s runs breed which a b truth is are may stays first second tells =
    word_had p room t x y s runs breed (act.Value (value.Compare which)) a b (PlainTruth truth) is are may stays first second
    (truth_made which a b truth s.stage (tells (living_of s.stage.rest))) refl

-- ---- room for nodes in each other

-- a word has what its parts have, where there is room for one more
pub nested : (p : Checked) (t x y : Node) (s : State) (n : ℕ) (a b value : Plain) →
    ((room : ℕ) → evaluator p room x s ≡ gives a s → evaluator p room y s ≡ gives b s → evaluator p (suc room) t s ≡ gives value s) →
    ((room : ℕ) → n < room → evaluator p room x s ≡ gives a s) → ((room : ℕ) → n < room → evaluator p room y s ≡ gives b s) →
    (room : ℕ) → suc n < room → evaluator p room t s ≡ gives value s
nested p t x y s n a b value word first second zero some = absurd (omega (arith, some))
nested p t x y s n a b value word first second (suc room) some =
    let h : n < room = omega (arith, some) in
    word room (first room h) (second room h)

-- the same of two numbers that may be there
pub both_had : (p : Checked) (t x y : Node) (s : ℕ → State) (n : ℕ) (which : OfNumbers) (a b made : Option ℤ) →
    ((room units : ℕ) (u v number : ℤ) → evaluator p room x (s units) ≡ gives (PlainNumber u) (s units) → evaluator p room y (s units) ≡ gives (PlainNumber v) (s units) →
    number_of_two which u v ≡ Ok number → evaluator p (suc room) t (s units) ≡ gives (PlainNumber number) (s units)) →
    IfSome a (λ u. (room units : ℕ) → n < room → evaluator p room x (s units) ≡ gives (PlainNumber u) (s units)) →
    IfSome b (λ v. (room units : ℕ) → n < room → evaluator p room y (s units) ≡ gives (PlainNumber v) (s units)) →
    IfSome made (λ number. (u v : ℤ) → a ≡ Some u → b ≡ Some v → number_of_two which u v ≡ Ok number) → IfSome made (λ number. IsSome a × IsSome b) →
    IfSome made (λ number. (room units : ℕ) → suc n < room → evaluator p room t (s units) ≡ gives (PlainNumber number) (s units))
both_had p t x y s n which a b None word first second makes both = tt
both_had p t x y s n which None b (Some number) word first second makes both = let h = both.0 in absurd (cc)
both_had p t x y s n which (Some u) None (Some number) word first second makes both = let h = both.1 in absurd (cc)
both_had p t x y s n which (Some u) (Some v) (Some number) word first second makes both = λ room units some.
    nested p t x y (s units) n (PlainNumber u) (PlainNumber v) (PlainNumber number)
    (λ less left right. word less units u v number left right (makes u v refl refl))
    (λ less h. first less units h) (λ less h. second less units h) room some
