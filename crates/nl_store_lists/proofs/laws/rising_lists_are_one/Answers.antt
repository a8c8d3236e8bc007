use Rattle.std.proofs.Common.{sym, subst}
use Rattle.nl_store_lists.specs.Rising.{IsRisingBy}
use Rattle.nl_store_lists.proofs.Places.{at-here}
use Rattle.nl_store_lists.proofs.Rising.{rising-append, rising-once, rising-one, rising-without}
use Rattle.nl_store_lists.proofs.Collected.{length-without}
use Rattle.nl_store_lists.proofs.laws.rising_lists_are_one.Goals as goal

pub returns-clause-one : goal.returns-clause-one
returns-clause-one c = rising-one

pub returns-clause-once : goal.returns-clause-once
returns-clause-once c = rising-once

pub returns-clause-taken : goal.returns-clause-taken
returns-clause-taken c = rising-without

pub returns-clause-put : goal.returns-clause-put
returns-clause-put c measure lists number key rises above = subst (IsRisingBy measure) (sym (at-here lists number _)) (rising-append measure (lists number) key rises above)

pub returns-clause-shorter : goal.returns-clause-shorter
returns-clause-shorter c = length-without
