-- What lemmas say of variables, for who sets them to what is had at once.
pub use Rattle.nl_exec_variables.proofs.Assigning.{global_revalued}
pub use Rattle.nl_exec_variables.proofs.LocalValues.{index_within}
