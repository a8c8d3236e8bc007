use Rattle.nl_outer.proofs.Parts.{PartAppended-take}
use Rattle.nl_outer.proofs.memory_sink.MemSinkSink.put.Goals as goal

pub returns-clause-part : goal.returns-clause-part
returns-clause-part c =
    rw (← c.self.view_is) (PartAppended-take _ _ _ _ _ c.extend_from_slice.ensures.items)
