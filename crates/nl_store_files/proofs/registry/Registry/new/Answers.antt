use Rattle.nl_store_records.specs.Records.{record_at}
use Rattle.nl_store_files.proofs.Filed.{files-new}
use Rattle.nl_store_files.proofs.registry.Registry.new.Goals as goal

pub invariant_of-result : goal.invariant_of-result
invariant_of-result c = (
  files-new c.in_ok-chains.chains c.new-3.result (record_at c.new-2.result) c.new-4.result c.new-5.result c.new-2.ensures (c.in_ok-chains.ensures.empty (record_at c.new-2.result))
      (c.new-3.ensures.empty (record_at c.new-2.result)) c.new-3.ensures.none c.new-4.ensures.keys c.new-5.ensures.keys,
  record { turtles = c.new-4.ensures.count; links = c.new-5.ensures.count },
)
