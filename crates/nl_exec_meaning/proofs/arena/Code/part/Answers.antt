-- The part of an item is the part of its tree.
use Rattle.std.proofs.Common.{arith, sym}
use Rattle.nl_exec_meaning.proofs.Resolved.{part_some, part_none, part_rest, part_past}
use Rattle.nl_exec_meaning.proofs.arena.Code.part.Goals as goal

pub overflow_add-result : goal.overflow_add-result
overflow_add-result c = let fits = c.item-item.ensures.item.fits in omega (arith, fits, c.if-at-item.true)

pub returns-then-at-item-clause-value : goal.returns-then-at-item-clause-value
returns-then-at-item-clause-value c =
    let now = c.args.self.now in
    sym (part_some now.program.declared now.names now.nodes c.item-item.result _ c.args.at c.item-item.ensures.item c.if-at-item.true)

pub returns-then-at-item-clause-rest : goal.returns-then-at-item-clause-rest
returns-then-at-item-clause-rest c =
    let now = c.args.self.now in
    part_rest now.program.declared now.names now.nodes c.item-item.result _ c.args.at c.item-item.ensures.item c.if-at-item.true

pub returns-else-at-item-clause-value : goal.returns-else-at-item-clause-value
returns-else-at-item-clause-value c =
    let now = c.args.self.now in
    sym (part_none now.program.declared now.names now.nodes c.item-item.result _ c.args.at c.item-item.ensures.item c.if-at-item.false)

pub returns-else-at-item-clause-rest : goal.returns-else-at-item-clause-rest
returns-else-at-item-clause-rest c =
    let now = c.args.self.now in
    part_past now.program.declared now.names now.nodes c.item-item.result _ c.args.at c.item-item.ensures.item c.if-at-item.false
