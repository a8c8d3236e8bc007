-- What is had at once: it is what the meaning of texts says of a node, wherever there is room for so many nodes in each other.
use Rattle.std.specs.Prelude.{◌≡◌, ℕ, ◌<◌, Bool, true, false, not, List, [], ◌∷◌, length, filter, None, Ok}
use Rattle.nl_fixed.specs.Nouns.{Names}
use Rattle.nl_value.specs.Plain.{Plain, PlainNumber, PlainSet, PlainTruth}
use Rattle.nl_value.specs.Sets.{set_kind}
use Rattle.nl_value.specs.declared.sets.AgentKind.{AgentKind}
use Rattle.nl_value.specs.declared.sets.AgentKind.TheVariants as kind
use Rattle.nl_value.specs.declared.sets.AgentSet.{AgentSet}
use Rattle.nl_agents.specs.World.{World}
use Rattle.nl_agents.specs.Members.{members_of}
use Rattle.nl_agents.specs.declared.agents.Owner.{Owner}
use Rattle.nl_agents.specs.declared.store.Store.{Ghosts}
use Rattle.nl_agentset_query.specs.Agents.{listed, own_patch}
use Rattle.nl_agentset_query.specs.declared.words.QueryWord.{QueryWord}
use Rattle.nl_agentset.specs.Queries.{query_answer}
use Rattle.nl_agentset.specs.Places.{turtles_on}
use Rattle.nl_agentset.specs.Sets.{is_caller, others}
use Rattle.nl_exec_meaning.specs.Code.{Code, node_at}
use Rattle.nl_tree.specs.Tree.{Node}
use Rattle.nl_exec_meaning.specs.State.{State, Outcome, Eval, gives}
use Rattle.nl_exec_meaning.specs.Blocks.{and_case, or_case}
use Rattle.nl_exec_meaning.specs.Walks.{at_stream}
use Rattle.nl_exec_meaning.specs.Meaning.{evaluator}
use Rattle.nl_exec_meaning.specs.Seen.{state_of}
use Rattle.nl_exec_meaning.specs.declared.hands.Hands.{Hands}
use Rattle.nl_exec_short.specs.declared.values.ShortValue.{ShortValue}
use Rattle.nl_exec_short.specs.declared.values.ShortValue.TheVariants as short

-- the node gives the value, and changes nothing
abbrev pub IsHad : {S : Type 0} {G : Ghosts S} → Code → Hands S G → ℕ → ℕ → Plain → Type 0
IsHad c h node nested value =
    (room n : ℕ) → nested < room →
    evaluator c.program room (node_at c node) (state_of c.names h n) ≡ gives value (state_of c.names h n)

-- a value that is had at once
abbrev pub short_plain : ShortValue → Plain
short_plain (short.Truth truth) = PlainTruth truth
short_plain (short.Number number) = PlainNumber number

-- a query of no breed gives, without inputs, a set of so many living members, of which so many aren't the agent that asks
pub record TellsSet (w : World) (agent : Owner) (which : QueryWord) (all but_own : ℕ) : Type 0 where
  pub kind_of : AgentKind
  pub numbers : List ℕ
  pub answers : (stream : ℕ) → query_answer w.rest None agent which [] stream ≡ Ok (PlainSet (listed kind_of numbers), stream)
  pub members : members_of w.rest (listed kind_of numbers) ≡ numbers
  pub so_many : length numbers ≡ all
  pub apart : length (filter (λ number. not (is_caller agent kind_of number)) numbers) ≡ but_own

-- the node gives a set of so many living members, of which so many aren't the agent that runs, and changes nothing
abbrev pub GivesCounted : {S : Type 0} {G : Ghosts S} → Code → Hands S G → ℕ → ℕ → (all but_own : ℕ) → Type 0
GivesCounted {G = g} c h node nested all but_own =
    (set : AgentSet) × IsHad c h node nested (PlainSet set) × (length (members_of (g.world h.stage.store).rest set) ≡ all)
    × (length (others (g.world h.stage.store).rest h.site.agent set) ≡ but_own)

-- the node gives a set of so many living members, and changes nothing
abbrev pub GivesSoMany : {S : Type 0} {G : Ghosts S} → Code → Hands S G → ℕ → ℕ → ℕ → Type 0
GivesSoMany {G = g} c h node nested many =
    (set : AgentSet) × IsHad c h node nested (PlainSet set) × (length (members_of (g.world h.stage.store).rest set) ≡ many)

-- the node gives the turtles on the patch of the agent that runs, and changes nothing
abbrev pub GivesHere : {S : Type 0} {G : Ghosts S} → Code → Hands S G → ℕ → ℕ → Type 0
GivesHere {G = g} c h node nested =
    let r = (g.world h.stage.store).rest in
    IsHad c h node nested (PlainSet (listed kind.Turtle (turtles_on r None (own_patch r h.site.agent ∷ []))))

-- the node gives a set of turtles with just this one living member, and changes nothing
abbrev pub GivesOne : {S : Type 0} {G : Ghosts S} → Code → Hands S G → ℕ → ℕ → ℕ → Type 0
GivesOne {G = g} c h node nested turtle =
    (set : AgentSet) × IsHad c h node nested (PlainSet set) × (set_kind set ≡ kind.Turtle)
    × (members_of (g.world h.stage.store).rest set ≡ turtle ∷ [])

-- the node gives the value, and draws what it draws
abbrev pub IsDrawn : {S : Type 0} {G : Ghosts S} → Code → (after before : Hands S G) → ℕ → ℕ → Plain → Type 0
IsDrawn c after before node nested value =
    (room n : ℕ) → nested < room →
    evaluator c.program room (node_at c node) (state_of c.names before n) ≡ gives value (state_of c.names after n)

-- nothing is changed but the stream, as far as a text could see
abbrev pub OnlyDraws : {S : Type 0} {G : Ghosts S} → (after before : Hands S G) → Type 0
OnlyDraws after before =
    (names : Names) (n : ℕ) → state_of names after n ≡ at_stream after.stage.stream (state_of names before n)

-- what two truths give of which the right one isn't looked at where the left one decides: that of `and` where false decides, and of `or` where true
abbrev pub two_truths_case : Bool → Eval → Node → State → Outcome
two_truths_case true prev t s = or_case prev t s
two_truths_case false prev t s = and_case prev t s
