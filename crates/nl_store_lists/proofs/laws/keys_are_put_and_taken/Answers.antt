use Rattle.nl_store_lists.proofs.Threaded.{no_keys, put_at_end, taken_out}
use Rattle.nl_store_lists.proofs.laws.keys_are_put_and_taken.Goals as goal

pub returns-clause-none : goal.returns-clause-none
returns-clause-none c = no_keys

pub returns-clause-put : goal.returns-clause-put
returns-clause-put c = put_at_end

pub returns-clause-taken : goal.returns-clause-taken
returns-clause-taken c = taken_out
