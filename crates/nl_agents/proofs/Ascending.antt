-- What lemmas say of lists in order, for who lists agents.
pub use Rattle.nl_agents_layout.proofs.Ascending.{first_is_below, has, has_filter, has_range, range_ascends, range_more, rest_ascends, same_ascending}
pub use Rattle.nl_agents_layout.proofs.Collected.{same_once}
