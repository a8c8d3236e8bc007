-- What each query answers of the rest of a world, its caller and its inputs: the kinds of the inputs from left to right, then its own errors
-- in their order. A query changes nothing but the stream, and that only where it chooses.
use Rattle.std.specs.Prelude.{ℕ, Bool, true, Option, Some, None, Ok, Err, List}
use Rattle.nl_value.specs.Plain.{Plain, PlainSet, plains}
use Rattle.nl_words.specs.Row.{Code}
use Rattle.nl_agents_layout.specs.Nouns.{BreedNumber}
use Rattle.nl_agents_layout.specs.Layouts.{is_turtle_breed, is_link_breed}
use Rattle.nl_agents.specs.World.{Rest}
use Rattle.nl_agents_layout.specs.declared.layout.Layout.{Layout}
use Rattle.nl_agents.specs.declared.agents.Owner.{Owner}
use Rattle.nl_agentset_query.specs.declared.fail.QueryFail.TheVariants.{WrongType}
use Rattle.nl_agentset_query.specs.declared.words.QueryWord.{QueryWord}
use Rattle.nl_agentset_query.specs.declared.words.QueryWord.TheVariants as word
use Rattle.nl_agentset_query.specs.declared.words.Whole.TheVariants as whole
use Rattle.nl_agentset_query.specs.Choices.{chosen_by}
use Rattle.nl_agentset.specs.Links.{own_links, own_neighbors, neighbor_tested, link_found, ends_told}
use Rattle.nl_agentset_query.specs.Outcomes.{QueryOutcome, outcome_map}
use Rattle.nl_agentset.specs.Places.{standing_by, patches_around, one_patch, faced, measured_to, measured_to_xy}
use Rattle.nl_agentset.specs.Sets.{whole_set, looked_up, breed_tested, set_told}
use Rattle.nl_agentset_query.specs.Unions.{union_of}
use Rattle.nl_agentset_query.specs.Words.{query_word}

-- what a query answers that draws nothing
abbrev pub told : Rest → Option BreedNumber → Owner → QueryWord → List Plain → QueryOutcome Plain
told r breed caller (word.Whole which) inputs = Ok (PlainSet (whole_set which breed))
told r breed caller (word.LookUp which) inputs = looked_up r which breed inputs
told r breed caller (word.OfBreed which) inputs = breed_tested r which breed inputs
told r breed caller (word.OfSet which) inputs = set_told r caller which inputs
told r breed caller (word.Union which) inputs = union_of r which (plains inputs)
told r breed caller (word.Choice which) inputs = Err WrongType
told r breed caller (word.Standing which) inputs = standing_by r breed caller which inputs
told r breed caller (word.Around which) inputs = Ok (patches_around r caller which)
told r breed caller (word.PatchBy which) inputs = one_patch r caller which inputs
told r breed caller (word.Facing which) inputs = faced r caller which inputs
told r breed caller (word.Measure which) inputs = measured_to r caller which inputs
told r breed caller (word.MeasureXy which) inputs = measured_to_xy r caller which inputs
told r breed caller (word.OfEnds which) inputs = ends_told r which caller
told r breed caller (word.MyLinks which) inputs = own_links r which breed caller
told r breed caller (word.Neighbors which) inputs = own_neighbors r which breed caller
told r breed caller (word.IsNeighbor which) inputs = neighbor_tested r which breed caller inputs
told r breed caller (word.LinkTo which) inputs = link_found r which breed caller inputs

-- the answer beside the state of the stream after it
abbrev pub query_answer : Rest → Option BreedNumber → Owner → QueryWord → List Plain → ℕ → QueryOutcome (Plain × ℕ)
query_answer r breed caller (word.Choice which) inputs state = chosen_by r which inputs state
query_answer r breed caller which inputs state = outcome_map (λ value. (value, state)) (told r breed caller which inputs)

-- the same by the word's code; what is no query has no answer
abbrev pub answer_by : Rest → Option BreedNumber → Owner → Option QueryWord → List Plain → ℕ → QueryOutcome (Plain × ℕ)
answer_by r breed caller None inputs state = Err WrongType
answer_by r breed caller (Some which) inputs state = query_answer r breed caller which inputs state

abbrev pub queried : Rest → Code → Option BreedNumber → Owner → List Plain → ℕ → QueryOutcome (Plain × ℕ)
queried r code breed caller inputs state = answer_by r breed caller (query_word code) inputs state

-- ---- breeds

-- a set of all turtles or links of a breed needs one that the world has
abbrev pub is_breed_or_none : (BreedNumber → Bool) → Option BreedNumber → Bool
is_breed_or_none test None = true
is_breed_or_none test (Some breed) = test breed

abbrev pub word_breed_fits : Layout → QueryWord → Option BreedNumber → Bool
word_breed_fits layout (word.Whole whole.Turtles) breed = is_breed_or_none (is_turtle_breed layout) breed
word_breed_fits layout (word.Whole whole.Links) breed = is_breed_or_none (is_link_breed layout) breed
word_breed_fits layout which breed = true

abbrev pub breed_fits : Layout → Option QueryWord → Option BreedNumber → Bool
breed_fits layout None breed = true
breed_fits layout (Some which) breed = word_breed_fits layout which breed
