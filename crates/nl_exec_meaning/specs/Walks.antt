-- Words that have the agents of a set run a block: `ask`, `of` and their kin.
--
-- What the words do is the NetLogo Dictionary's. That a set is taken once, in ascending order or shuffled, that a member which is dead at its turn is
-- passed over without a unit, and that each other turn costs one, is this project's own choice.
use Rattle.std.specs.Prelude.{ℕ, ℤ, pos, int_lt, Bool, true, false, not, if◌then◌else◌, List, [], ◌∷◌, ◌++◌, map, filter, length, take, nat_lt, Result, Ok, Err}
use Rattle.std.specs.List.{list_any, list_all}
use Rattle.nl_fixed.specs.declared.span.Span.{Span}
use Rattle.nl_value.specs.Plain.{Plain, PlainNumber, PlainTruth, PlainItems, PlainLink, PlainSet, plains}
use Rattle.nl_value.specs.Living.{Living}
use Rattle.nl_value.specs.Order.{order_kind, have_order, comes_first, count_of}
use Rattle.nl_value.specs.Sets.{set_kind}
use Rattle.nl_value.specs.Sorting.{sorted_by}
use Rattle.nl_value.specs.declared.sets.AgentKind.{AgentKind}
use Rattle.nl_value.specs.declared.sets.AgentKind.TheVariants as kind
use Rattle.nl_value.specs.declared.sets.AgentSet.{AgentSet}
use Rattle.nl_draw.specs.Stream.{shuffled, chosen}
use Rattle.nl_tree.specs.Tree.{Node, span}
use Rattle.nl_agents.specs.World.{Rest}
use Rattle.nl_agents.specs.Members.{members_of, is_listed}
use Rattle.nl_agents.specs.Names.{living_of}
use Rattle.nl_agents.specs.declared.agents.Owner.{Owner}
use Rattle.nl_agents.specs.declared.agents.Owner.TheVariants as owner
use Rattle.nl_agentset_query.specs.Inputs.{as_agent}
use Rattle.nl_agentset_query.specs.Agents.{agent_value, agent_or_nobody, listed_value}
use Rattle.nl_birth.specs.Births as births
use Rattle.nl_exec_acts.specs.declared.fail.ErrorKind.{ErrorKind}
use Rattle.nl_exec_acts.specs.declared.fail.ErrorKind.TheVariants.{WrongType, NoAgent, TooFew, Domain}
use Rattle.nl_exec_acts.specs.Stage.{and_then}
use Rattle.nl_exec_acts.specs.Fails.{error_of_query, told_as}
use Rattle.nl_exec_acts.specs.Acts.{is_gone}
use Rattle.nl_exec_meaning.specs.declared.words.Over.{Over}
use Rattle.nl_exec_meaning.specs.declared.words.Over.TheVariants as over
use Rattle.nl_exec_meaning.specs.declared.sites.Site.{Site}
use Rattle.nl_exec_meaning.specs.State.{State, Exit, Outcome, Eval, Gives, Stopped, Reported, Left, Budget, Error, ends, gives, goes_on, fails, come_to, choose, spend, with_part, with_number, at_site, with_stage, rest_of, ◌>>=◌}

-- ---- who is asked

-- some agents of one kind, in the order of their turns
pub record Group : Type 0 where
  pub which : AgentKind
  pub numbers : List ℕ

abbrev pub owner_of : AgentKind → ℕ → Owner
owner_of kind.Turtle number = owner.Turtle number
owner_of kind.Patch number = owner.Patch number
owner_of kind.Link number = owner.Link number

abbrev pub lives : Rest → AgentKind → ℕ → Bool
lives r which number = not (is_gone r (owner_of which number))

-- who runs a block: a member, asked by whoever runs now
abbrev pub asked : AgentKind → ℕ → Site → Site
asked which number site = record site { agent = owner_of which number; asker = site.agent }

abbrev pub at_stream : ℕ → State → State
at_stream stream s = with_stage (record s.stage { stream = stream }) s

-- the members of a set in ascending order
abbrev pub ascending : Rest → AgentSet → Group
ascending r set = record { which = set_kind set; numbers = members_of r set }

-- the numbers are shuffled once
abbrev pub with_shuffled : AgentKind → List ℕ → State → (Group → State → Outcome) → Outcome
with_shuffled which numbers s next =
    let mixed = shuffled numbers s.stage.stream in
    next (record { which = which; numbers = mixed.0 }) (at_stream mixed.1 s)

-- a set, or one living agent
pub data Chosen : Type 0 where
  Several : AgentSet → Chosen
  One : AgentKind → ℕ → Chosen

abbrev pub one_of : Owner → Result Chosen ErrorKind
one_of owner.Observer = Err NoAgent
one_of (owner.Turtle turtle) = Ok (One kind.Turtle turtle)
one_of (owner.Patch patch) = Ok (One kind.Patch patch)
one_of (owner.Link link) = Ok (One kind.Link link)

abbrev pub one_agent : Rest → Plain → Result Chosen ErrorKind
one_agent r value = and_then (told_as error_of_query (as_agent r value)) one_of

abbrev pub agents_in : Rest → Plain → Result Chosen ErrorKind
agents_in r (PlainSet set) = Ok (Several set)
agents_in r value = one_agent r value

-- a set of agents: nobody is none
abbrev pub set_in : Plain → Result AgentSet ErrorKind
set_in (PlainSet set) = Ok set
set_in value = Err WrongType

-- the turns of what is asked: those of a set shuffled, and one agent without a draw
abbrev pub with_turns : Chosen → State → (Group → State → Outcome) → Outcome
with_turns (Several set) s next = with_shuffled (set_kind set) (members_of (rest_of s) set) s next
with_turns (One which number) s next = next (record { which = which; numbers = number ∷ [] }) s

-- ---- blocks of commands

-- a turn that was stopped, or left by an agent that died, goes on with the next one; the asker runs again
abbrev pub turn_by : Exit → Site → State → (State → Outcome) → Outcome
turn_by (Gives value) site s next = next (at_site site s)
turn_by Stopped site s next = next (at_site site s)
turn_by (Reported value) site s next = ends (Reported value) (at_site site s)
turn_by Left site s next = next (at_site site s)
turn_by Budget site s next = ends Budget s
turn_by (Error kind place body) site s next = ends (Error kind place body) s

abbrev pub turn_over : Site → Outcome → (State → Outcome) → Outcome
turn_over site o next = turn_by o.exit site o.state next

-- the turns, one after another: the block is the part at an index
abbrev pub walk : Eval → Node → ℕ → Site → AgentKind → List ℕ → State → Outcome
walk prev t index site which [] s = goes_on s
walk prev t index site which (m ∷ ms) s =
    choose (lives (rest_of s) which m)
    (with_part t index (span t) s (λ block. spend (at_site (asked which m site) s) (λ s1.
    turn_over site (prev block s1) (λ s2. walk prev t index site which ms s2))))
    (walk prev t index site which ms s)

abbrev pub walk_group : Eval → Node → ℕ → Group → State → Outcome
walk_group prev t index group s = walk prev t index s.site group.which group.numbers s

abbrev pub ask_case : Eval → Node → State → Outcome
ask_case prev t s =
    with_part t 0 (span t) s (λ part. prev part s >>= λ value s1.
    come_to (agents_in (rest_of s1) value) (span t) s1 (λ agents. with_turns agents s1 (walk_group prev t 1)))

-- ---- blocks of one expression

-- what a member answered
pub record Answer : Type 0 where
  pub member : ℕ
  pub value : Plain

-- an agent that left its block has no value
abbrev pub value_by : Exit → Site → Span → State → (Plain → State → Outcome) → Outcome
value_by (Gives value) site place s next = next value (at_site site s)
value_by Stopped site place s next = ends Stopped (at_site site s)
value_by (Reported value) site place s next = ends (Reported value) (at_site site s)
value_by Left site place s next = fails NoAgent place (at_site site s)
value_by Budget site place s next = ends Budget s
value_by (Error kind at body) site place s next = ends (Error kind at body) s

abbrev pub valued : Site → Span → Outcome → (Plain → State → Outcome) → Outcome
valued site place o next = value_by o.exit site place o.state next

-- what becomes of a member's answer: it is kept, or passed over, or it decides the word's answer, or it is of the wrong kind
pub data Reply : Type 0 where
  Keep : Reply
  Pass : Reply
  Decide : Plain → Reply
  Refuse : Reply

abbrev pub kept_truth : Plain → Reply
kept_truth (PlainTruth true) = Keep
kept_truth (PlainTruth false) = Pass
kept_truth value = Refuse

abbrev pub deciding_truth : Plain → Reply
deciding_truth (PlainTruth true) = Pass
deciding_truth (PlainTruth false) = Decide (PlainTruth false)
deciding_truth value = Refuse

abbrev pub kept_number : Plain → Reply
kept_number (PlainNumber count) = Keep
kept_number value = Pass

abbrev pub reply_to : Over → Plain → Reply
reply_to over.Ask value = Keep
reply_to over.Of value = Keep
reply_to over.With value = kept_truth value
reply_to over.All value = deciding_truth value
reply_to over.WithMax value = kept_number value
reply_to over.WithMin value = kept_number value
reply_to over.MaxOneOf value = kept_number value
reply_to over.MinOneOf value = kept_number value
reply_to over.MaxNOf value = Keep
reply_to over.MinNOf value = Keep
reply_to over.SortOn value = Keep

abbrev pub replied : Reply → Span → ℕ → Plain → List Answer → State → (List Answer → State → Outcome) → Outcome
replied Keep place m value made s next = next (made ++ record { member = m; value = value } ∷ []) s
replied Pass place m value made s next = next made s
replied (Decide answer) place m value made s next = gives answer s
replied Refuse place m value made s next = fails WrongType place s

-- the members' answers, one after another, behind those that are there already
abbrev pub collect : Over → Eval → Node → ℕ → Site → AgentKind → List ℕ → List Answer → State → (List Answer → State → Outcome) → Outcome
collect word prev t index site which [] made s next = next made s
collect word prev t index site which (m ∷ ms) made s next =
    choose (lives (rest_of s) which m)
    (with_part t index (span t) s (λ block. spend (at_site (asked which m site) s) (λ s1.
    valued site (span t) (prev block s1) (λ value s2.
    replied (reply_to word value) (span t) m value made s2 (λ more s3. collect word prev t index site which ms more s3 next)))))
    (collect word prev t index site which ms made s next)

abbrev pub collect_group : Over → Eval → Node → ℕ → Group → State → (List Answer → State → Outcome) → Outcome
collect_group word prev t index group s next = collect word prev t index s.site group.which group.numbers [] s next

-- ---- what is made of the answers

abbrev pub members_kept : List Answer → List ℕ
members_kept made = map (λ a. a.member) made

-- no other number is above this one; or below it, where the least are asked for
abbrev pub is_extreme : Bool → List Answer → Answer → Bool
is_extreme up made a =
    not (list_any (λ b. if up then int_lt (count_of a.value) (count_of b.value) else int_lt (count_of b.value) (count_of a.value)) made)

abbrev pub extremes : Bool → List Answer → List ℕ
extremes up made = members_kept (filter (is_extreme up made) made)

-- one of them by a draw, or nobody
abbrev pub one_extreme : Bool → AgentKind → List Answer → State → Outcome
one_extreme up which made s =
    let choice = chosen (extremes up made) s.stage.stream in
    gives (agent_or_nobody which choice.0) (at_stream choice.1 s)

abbrev pub is_count : Plain → Bool
is_count (PlainNumber count) = true
is_count value = false

abbrev pub is_number : Answer → Bool
is_number a = is_count a.value

-- of the members in a shuffled order those with numbers, the greatest first, or the least; those with equal ones stay in place
abbrev pub in_order_of_numbers : Bool → List Answer → List Answer
in_order_of_numbers up made =
    sorted_by (λ a b. if up then int_lt (count_of b.value) (count_of a.value) else int_lt (count_of a.value) (count_of b.value)) (filter is_number made)

-- the first so many of these, as a set
abbrev pub first_extremes : Bool → AgentKind → ℕ → List Answer → State → Outcome
first_extremes up which count made s =
    let mixed = shuffled made s.stage.stream in
    let first = members_kept (take count (in_order_of_numbers up mixed.0)) in
    gives (listed_value which (filter (is_listed first) (members_kept made))) (at_stream mixed.1 s)

-- too few is told before a number below 0, and both before anything is drawn
abbrev pub some_extremes : Bool → AgentKind → ℤ → List Answer → Span → State → Outcome
some_extremes up which number made place s =
    choose (nat_lt (length (filter is_number made)) (births.count_of number)) (fails TooFew place s)
    (choose (int_lt number (pos 0)) (fails Domain place s)
    (first_extremes up which (births.count_of number) made s))

-- all values have an order with the first one
abbrev pub are_comparable : Living → List Answer → Bool
are_comparable w [] = true
are_comparable w (a ∷ others) = list_all (λ b. have_order (order_kind w a.value) (order_kind w b.value)) (a ∷ others)

-- In the order of agents, whether they live or have died since: turtles and patches by their numbers, in which they answered, and links by
-- their ends and breeds. Of a dead link only its number is left: these come last, by their numbers.
abbrev pub in_order_of_agents : Living → AgentKind → List Answer → List Answer
in_order_of_agents w kind.Turtle made = made
in_order_of_agents w kind.Patch made = made
in_order_of_agents w kind.Link made = sorted_by (λ a b. comes_first w (PlainLink a.member) (PlainLink b.member)) made

-- ascending by their values; those with equal ones in the order of agents
abbrev pub in_order_of_values : Living → AgentKind → List Answer → List Answer
in_order_of_values w which made = sorted_by (λ a b. comes_first w a.value b.value) (in_order_of_agents w which made)

abbrev pub sorted_on : AgentKind → List Answer → Span → State → Outcome
sorted_on which made place s =
    let w = living_of (rest_of s) in
    choose (are_comparable w made)
    (gives (PlainItems (plains (map (λ a. agent_value which a.member) (in_order_of_values w which made)))) s)
    (fails WrongType place s)

-- ---- the words

-- the value of the part at an index, which has to be a set
abbrev pub with_set : Eval → Node → ℕ → State → (AgentSet → State → Outcome) → Outcome
with_set prev t index s next =
    with_part t index (span t) s (λ part. prev part s >>= λ value s1. come_to (set_in value) (span t) s1 (λ set. next set s1))

-- a word of a set, whose block is the part at the second index: what it makes of the answers
abbrev pub over_set : Over → Eval → Node → ℕ → ℕ → State → (AgentKind → List Answer → State → Outcome) → Outcome
over_set word prev t agents block s next =
    with_set prev t agents s (λ set s1. collect_group word prev t block (ascending (rest_of s1) set) s1 (next (set_kind set)))

abbrev pub listed_members : AgentKind → List Answer → State → Outcome
listed_members which made s = gives (listed_value which (members_kept made)) s

abbrev pub all_true : AgentKind → List Answer → State → Outcome
all_true which made s = gives (PlainTruth true) s

abbrev pub listed_extremes : Bool → AgentKind → List Answer → State → Outcome
listed_extremes up which made s = gives (listed_value which (extremes up made)) s

-- the number is taken before the set, and both before their kinds are told
abbrev pub some_case : Over → Bool → Eval → Node → State → Outcome
some_case word up prev t s =
    with_part t 0 (span t) s (λ first. prev first s >>= λ n s1.
    with_part t 1 (span t) s1 (λ second. prev second s1 >>= λ value s2.
    with_number n (span t) s2 (λ number.
    come_to (set_in value) (span t) s2 (λ set.
    collect_group word prev t 2 (ascending (rest_of s2) set) s2 (λ made s3. some_extremes up (set_kind set) number made (span t) s3)))))

-- `of`: the value of one agent, or those of a set in a shuffled order
abbrev pub value_of_one : List Answer → Span → State → Outcome
value_of_one [] place s = fails NoAgent place s
value_of_one (a ∷ others) place s = gives a.value s

abbrev pub of_answers : Chosen → List Answer → Span → State → Outcome
of_answers (Several set) made place s = gives (PlainItems (plains (map (λ a. a.value) made))) s
of_answers (One which number) made place s = value_of_one made place s

abbrev pub of_case : Eval → Node → State → Outcome
of_case prev t s =
    with_part t 1 (span t) s (λ part. prev part s >>= λ value s1.
    come_to (agents_in (rest_of s1) value) (span t) s1 (λ agents.
    with_turns agents s1 (λ group s2. collect_group over.Of prev t 0 group s2 (λ made s3. of_answers agents made (span t) s3))))

abbrev pub over_case : Over → Eval → Node → State → Outcome
over_case over.Ask prev t s = ask_case prev t s
over_case over.Of prev t s = of_case prev t s
over_case over.With prev t s = over_set over.With prev t 0 1 s listed_members
over_case over.All prev t s = over_set over.All prev t 0 1 s all_true
over_case over.WithMax prev t s = over_set over.WithMax prev t 0 1 s (listed_extremes true)
over_case over.WithMin prev t s = over_set over.WithMin prev t 0 1 s (listed_extremes false)
over_case over.MaxOneOf prev t s = over_set over.MaxOneOf prev t 0 1 s (one_extreme true)
over_case over.MinOneOf prev t s = over_set over.MinOneOf prev t 0 1 s (one_extreme false)
over_case over.MaxNOf prev t s = some_case over.MaxNOf true prev t s
over_case over.MinNOf prev t s = some_case over.MinNOf false prev t s
over_case over.SortOn prev t s = over_set over.SortOn prev t 1 0 s (λ which made s1. sorted_on which made (span t) s1)
