-- Choices among the members of a set or the items of a list, and what they draw of the stream.
use Rattle.std.specs.Prelude.{ℕ, ◌+◌, ℤ, pos, int_lt, unsigned_abs, Bool, false, if◌then◌else◌, List, [], ◌∷◌, length, take, Option, Some, None, Ok, Err}
use Rattle.std.specs.List.{range_with_len}
use Rattle.nl_fixed.specs.Numbers.{whole_part}
use Rattle.nl_value.specs.Sets.{set_kind}
use Rattle.nl_value.specs.Plain.{Plain, PlainItems, PlainSet, items_of, plains}
use Rattle.nl_value.specs.declared.sets.AgentSet.{AgentSet}
use Rattle.nl_draw.specs.Stream.{shuffled, chosen}
use Rattle.nl_agents.specs.World.{Rest}
use Rattle.nl_agents.specs.Members.{members_of, is_listed}
use Rattle.nl_agentset_query.specs.declared.fail.QueryFail.TheVariants.{WrongType, TooFew, Domain}
use Rattle.nl_agentset_query.specs.declared.words.Choice.{Choice}
use Rattle.nl_agentset_query.specs.declared.words.Choice.TheVariants.{OneOf, NOf, UpToNOf}
use Rattle.nl_agentset_query.specs.Inputs.{value_at, number_at}
use Rattle.nl_agentset_query.specs.Outcomes.{QueryOutcome, and_then, outcome_map}
use Rattle.nl_agentset_query.specs.Agents.{agent_or_nobody, listed_value}

-- ---- one

-- one item of a list, which has to have one
abbrev pub item_or_few : Option Plain × ℕ → QueryOutcome (Plain × ℕ)
item_or_few (None, state) = Err TooFew
item_or_few (Some item, state) = Ok (item, state)

-- one member of a set, or nobody
abbrev pub one_member : Rest → AgentSet → ℕ → Plain × ℕ
one_member r agents state =
    (agent_or_nobody (set_kind agents) (chosen (members_of r agents) state).0, (chosen (members_of r agents) state).1)

abbrev pub one_among : Rest → Plain → ℕ → QueryOutcome (Plain × ℕ)
one_among r (PlainItems items) state = item_or_few (chosen (items_of items) state)
one_among r (PlainSet agents) state = Ok (one_member r agents state)
one_among r value state = Err WrongType

-- ---- several

-- the places of a list shuffled, and the first so many of these
abbrev pub places_drawn : ℕ → ℕ → ℕ → List ℕ × ℕ
places_drawn wanted many state = (take wanted (shuffled (range_with_len 0 many) state).0, (shuffled (range_with_len 0 many) state).1)

-- what stands at these places of a list, in its order, from a place on
abbrev pub kept_from : {X : Type 0} → ℕ → List ℕ → List X → List X
kept_from at places [] = []
kept_from at places (x ∷ xs) = if is_listed places at then x ∷ kept_from (at + 1) places xs else kept_from (at + 1) places xs

abbrev pub some_of : {X : Type 0} → ℕ → List X → ℕ → List X × ℕ
some_of wanted xs state = (kept_from 0 (places_drawn wanted (length xs) state).0 xs, (places_drawn wanted (length xs) state).1)

-- fewer are there than the word wants; `up-to-n-of` takes all then
abbrev pub are_too_few : Choice → ℤ → ℕ → Bool
are_too_few NOf number many = int_lt (pos many) (whole_part number)
are_too_few OneOf number many = int_lt (pos many) (whole_part number)
are_too_few UpToNOf number many = false

-- how many are wanted, or why there can't be so many
abbrev pub wanted_of : Choice → ℤ → ℕ → QueryOutcome ℕ
wanted_of which number many =
    if are_too_few which number many then Err TooFew
    else if int_lt number (pos 0) then Err Domain
    else Ok (unsigned_abs (whole_part number))

abbrev pub several_items : Choice → ℤ → List Plain → ℕ → QueryOutcome (Plain × ℕ)
several_items which number items state =
    outcome_map (λ wanted. (PlainItems (plains (some_of wanted items state).0), (some_of wanted items state).1)) (wanted_of which number (length items))

abbrev pub several_members : Rest → Choice → ℤ → AgentSet → ℕ → QueryOutcome (Plain × ℕ)
several_members r which number agents state =
    outcome_map (λ wanted. (listed_value (set_kind agents) (some_of wanted (members_of r agents) state).0, (some_of wanted (members_of r agents) state).1))
    (wanted_of which number (length (members_of r agents)))

abbrev pub several_among : Rest → Choice → ℤ → Plain → ℕ → QueryOutcome (Plain × ℕ)
several_among r which number (PlainItems items) state = several_items which number (items_of items) state
several_among r which number (PlainSet agents) state = several_members r which number agents state
several_among r which number value state = Err WrongType

-- what the word draws, and the state of the stream after it
abbrev pub chosen_by : Rest → Choice → List Plain → ℕ → QueryOutcome (Plain × ℕ)
chosen_by r OneOf inputs state = and_then (value_at inputs 0) (λ value. one_among r value state)
chosen_by r NOf inputs state = and_then (number_at inputs 0) (λ number. and_then (value_at inputs 1) (λ value. several_among r NOf number value state))
chosen_by r UpToNOf inputs state = and_then (number_at inputs 0) (λ number. and_then (value_at inputs 1) (λ value. several_among r UpToNOf number value state))
