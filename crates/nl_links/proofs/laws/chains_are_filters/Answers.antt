use Rattle.nl_links.proofs.Filters.{ends_are_filters, lists_are_told}
use Rattle.nl_links.proofs.laws.chains_are_filters.Goals as goal

pub returns-clause-filters : goal.returns-clause-filters
returns-clause-filters c = ends_are_filters

pub returns-clause-one : goal.returns-clause-one
returns-clause-one c = lists_are_told
