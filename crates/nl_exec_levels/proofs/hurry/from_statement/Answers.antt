-- What comes next is what is left of the block.
use Rattle.std.proofs.Common.{drop}
use Rattle.nl_tree.specs.Tree.{parts}
use Rattle.nl_exec_meaning.specs.Code.{node_at}
use Rattle.nl_exec_meaning.specs.Blocks.{statements}
use Rattle.nl_exec_levels.proofs.Following.{comes_to}
use Rattle.nl_exec_levels.proofs.hurry.from_statement.Goals as goal

pub returns-clause-rest : goal.returns-clause-rest
returns-clause-rest g c =
    let code = c.args.code.now in
    comes_to code c.args.levels.now.items c.args.block
    (λ prev s. statements prev c.args.kept (drop c.args.at (parts (node_at code c.args.block))) s)
    c.follow.new.levels.items c.in_ok-focus.focus c.next_statement-next.result c.next_statement-next.new.hands c.args.hands.now
    c.in_ok-focus.ensures.rest c.next_statement-next.ensures.meaning
