use Rattle.nl_store_records.specs.Records.{record_at}
use Rattle.trial_index.proofs.Keeping.{filing-new}
use Rattle.trial_index.proofs.filing.Filing.new.Goals as goal

pub invariant_of-result : goal.invariant_of-result
invariant_of-result c = filing-new _ (record_at c.new-2.result) c.args.shape c.args.breeds c.new-2.ensures (c.in_ok-chains.ensures.empty (record_at c.new-2.result)) c.in_ok-chains.ensures.size
