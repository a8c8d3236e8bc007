-- A number that was given has a name, and a word has no number.
use Rattle.std.proofs.lemmas.Option.{slice_get_within}
use Rattle.nl_exec_meaning.proofs.Said.{said_numbered}
use Rattle.nl_exec_meaning.proofs.naming.name_op.Goals as goal

pub returns-in-Some-clause-numbered : goal.returns-in-Some-clause-numbered
returns-in-Some-clause-numbered c = said_numbered c.word_op.result _ _ c.word_op.ensures

pub returns-in_ok-id-in-None-clause-numbered : goal.returns-in_ok-id-in-None-clause-numbered
returns-in_ok-id-in-None-clause-numbered c = slice_get_within c.number.new.self c.in_ok-id-in-None.id c.args.name.now c.in_ok-id-in-None.ensures.number
