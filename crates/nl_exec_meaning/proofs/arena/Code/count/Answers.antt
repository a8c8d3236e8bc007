-- An item has as many parts as its node.
use Rattle.nl_exec_meaning.proofs.Resolved.{part_count}
use Rattle.nl_exec_meaning.proofs.arena.Code.count.Goals as goal

pub returns : goal.returns
returns c =
    let now = c.args.self.now in
    part_count now.program.declared now.names now.nodes c.item.result _ c.item.ensures.item
