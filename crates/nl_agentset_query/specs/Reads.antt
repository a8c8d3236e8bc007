-- How many records choices and unions read at most: the members of each set among their inputs are listed once.
use Rattle.std.specs.Prelude.{ℕ, ◌+◌, List, Ok, Err}
use Rattle.nl_value.specs.Plain.{Plain, Plains, PlainItems, PlainSet, no_items, item_then}
use Rattle.nl_agents.specs.World.{Rest}
use Rattle.nl_agents.specs.Members.{most_reads}
use Rattle.nl_agentset_query.specs.declared.words.Choice.{Choice}
use Rattle.nl_agentset_query.specs.declared.words.Choice.TheVariants.{OneOf, NOf, UpToNOf}
use Rattle.nl_agentset_query.specs.Inputs.{value_at}
use Rattle.nl_agentset_query.specs.Outcomes.{QueryOutcome}

-- to list the members of a value that is a set; any other reads nothing
abbrev pub members_reads : Rest → Plain → ℕ
members_reads r (PlainSet agents) = most_reads r agents
members_reads r value = 0

-- the same where there is a value
abbrev pub given_reads : Rest → QueryOutcome Plain → ℕ
given_reads r (Ok value) = members_reads r value
given_reads r (Err fail) = 0

abbrev pub choice_reads : Rest → Choice → List Plain → ℕ
choice_reads r OneOf inputs = given_reads r (value_at inputs 0)
choice_reads r NOf inputs = given_reads r (value_at inputs 1)
choice_reads r UpToNOf inputs = given_reads r (value_at inputs 1)

-- to unite the agents in a value of agents, sets and lists of them at any depth
abbrev mutual
  pub united_reads : Rest → Plain → ℕ
  united_reads r (PlainSet agents) = most_reads r agents
  united_reads r (PlainItems items) = all_united_reads r items
  united_reads r value = 0

  pub all_united_reads : Rest → Plains → ℕ
  all_united_reads r no_items = 0
  all_united_reads r (item_then first rest) = united_reads r first + all_united_reads r rest
