-- What every act answers and leaves: the queries, and what the crates below say of the other acts.
use Rattle.std.specs.Prelude.{ℕ, if◌then◌else◌, List, Option}
use Rattle.nl_value.specs.Plain.{Plain}
use Rattle.nl_agents_layout.specs.Nouns.{BreedNumber}
use Rattle.nl_agents.specs.World.{Rest}
use Rattle.nl_agents.specs.declared.agents.Owner.{Owner}
use Rattle.nl_agents.specs.declared.agents.Owner.TheVariants as owner
use Rattle.nl_agentset_query.specs.declared.words.QueryWord.{QueryWord}
pub use Rattle.nl_agentset.specs.Queries.{is_breed_or_none, word_breed_fits}
use Rattle.nl_agentset.specs.Queries.{query_answer}
use Rattle.nl_exec_acts.specs.declared.words.Act.{Act}
use Rattle.nl_exec_acts.specs.declared.words.Act.TheVariants as act
use Rattle.nl_exec_acts.specs.Stage.{Stage, ActOutcome, outcome_map}
use Rattle.nl_exec_acts.specs.Fails.{error_of_query, told_as}
use Rattle.nl_exec_acts.specs.Acts.{is_gone, does, with_stream, value_told, whom_told, is_link_told, move_told, look_told, clock_told, clear_told, seed_told, spot_told, bound_told, run_told}

-- who asks a query: a dead agent has no place of its own and asks as the observer does
abbrev pub who_asks : Rest → Owner → Owner
who_asks r agent = if is_gone r agent then owner.Observer else agent

abbrev pub queried : Rest → Option BreedNumber → Owner → QueryWord → List Plain → ℕ → ActOutcome (Plain × ℕ)
queried r breed agent which inputs state = told_as error_of_query (query_answer r breed (who_asks r agent) which inputs state)

abbrev pub query_told : QueryWord → Option BreedNumber → Owner → List Plain → Stage → ActOutcome (Plain × Stage)
query_told which breed agent inputs st = outcome_map (with_stream st) (queried st.rest breed agent which inputs st.stream)

-- What the act of this agent, whom another one may have asked, answers of the inputs, beside the stage after it. The breed is that of the word,
-- where a breed made it.
abbrev pub performed : Act → Option BreedNumber → Owner → Owner → List Plain → Stage → ActOutcome (Plain × Stage)
performed (act.Value which) breed agent asker inputs st = value_told which inputs st
performed (act.Query which) breed agent asker inputs st = query_told which breed agent inputs st
performed (act.Whom which) breed agent asker inputs st = whom_told which agent asker st
performed (act.IsLink directed) breed agent asker inputs st = is_link_told directed inputs st
performed (act.Move which) breed agent asker inputs st = move_told which agent inputs st
performed (act.Look which) breed agent asker inputs st = look_told which agent st
performed (act.Clock which) breed agent asker inputs st = clock_told which inputs st
performed (act.Clear which) breed agent asker inputs st = clear_told which st
performed act.Seed breed agent asker inputs st = seed_told inputs st
performed (act.Spot which) breed agent asker inputs st = spot_told which st
performed (act.Bound which) breed agent asker inputs st = bound_told which st
performed (act.OfRun which) breed agent asker inputs st = run_told which st
performed act.Idle breed agent asker inputs st = does st
