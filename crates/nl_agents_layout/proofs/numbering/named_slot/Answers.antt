use Rattle.std.proofs.Common.{arith}
use Rattle.nl_agents_layout.proofs.OwnedRows.{few_owned}
use Rattle.nl_agents_layout.proofs.numbering.named_slot.Goals as goal

pub overflow_add-result : goal.overflow_add-result
overflow_add-result c =
    let few = few_owned c.args.program.now.declared c.declared-declared.ensures.checked.0 in
    let range = rw c.in-Some-Own.field-0-is at c.in-Some-Own.ensures.range in
    omega (arith, few, range)
