-- A node without room, and a text without room.
use Rattle.nl_exec_meaning.specs.declared.exits.Exit.TheVariants.{Error}
use Rattle.nl_exec_acts.specs.declared.fail.ErrorKind.TheVariants.{TooNested}
use Rattle.nl_tree.specs.Tree.{span}
use Rattle.nl_exec_meaning.specs.Code.{node_at}
use Rattle.nl_exec_levels.proofs.Stack.{rest_full, rest_full_text, nested_is}
use Rattle.nl_exec_levels.proofs.run.too_nested.Goals as goal

pub returns-clause-rest : goal.returns-clause-rest
returns-clause-rest c = λ limit levels s e full.
    rest_full c.args.code.now limit levels c.args.node (Error TooNested c.span.result c.args.site.body) s full
    (nested_is c.span.result (span (node_at c.args.code.now c.args.node)) c.args.site s c.span.ensures e)

pub returns-clause-text : goal.returns-clause-text
returns-clause-text c = λ limit levels s e full.
    rest_full_text c.args.code.now limit levels c.args.node (Error TooNested c.span.result c.args.site.body) s full
    (nested_is c.span.result (span (node_at c.args.code.now c.args.node)) c.args.site s c.span.ensures e)
