-- What lemmas say of the turns in which members answer, for who takes them by itself.
pub use Rattle.nl_exec_walks.proofs.Members.{member_small, member_agent_fits}
pub use Rattle.nl_exec_walks.proofs.Skipping.{block_runs}
pub use Rattle.nl_exec_walks.proofs.Through.{stands_through}
pub use Rattle.nl_exec_walks.specs.Turning.{first_of}
