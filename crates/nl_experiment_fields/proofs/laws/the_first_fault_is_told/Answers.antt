use Rattle.nl_experiment_fields.proofs.FirstFault.{first_is_told, keys_in_order}
use Rattle.nl_experiment_fields.proofs.laws.the_first_fault_is_told.Goals as goal

pub returns : goal.returns
returns c = record { keys = keys_in_order; first = first_is_told }
