-- A built-in word, and that of a breed.
use Rattle.nl_tree.specs.Index.{named}
use Rattle.nl_exec_meaning.proofs.Said.{said_base, said_made}
use Rattle.nl_exec_meaning.proofs.naming.word_op.Goals as goal

pub returns-in-Base : goal.returns-in-Base
returns-in-Base c =
    said_base (named c.args.name.now c.args.word.now) c.args.word.now.what c.built_op.result c.in-Base.code c.in-Base.is c.built_op.ensures

pub returns-in-Made : goal.returns-in-Made
returns-in-Made c =
    said_made (named c.args.name.now c.args.word.now) c.args.word.now.what c.built_op-in-Made.result c.in-Made.breed c.in-Made.code c.in-Made.is c.built_op-in-Made.ensures
