use Rattle.nl_index.proofs.Filters.{chains_are_filters, lists_are_told}
use Rattle.nl_index.proofs.laws.chains_are_filters.Goals as goal

pub returns-clause-filters : goal.returns-clause-filters
returns-clause-filters c = chains_are_filters

pub returns-clause-order : goal.returns-clause-order
returns-clause-order c chains at filed lists x = record { turtles = x.rising 0; links = x.rising 1 }

pub returns-clause-one : goal.returns-clause-one
returns-clause-one c = lists_are_told
