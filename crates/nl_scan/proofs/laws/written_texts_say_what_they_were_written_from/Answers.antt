use Rattle.nl_scan.proofs.Writing.{written_says, quoted_says}
use Rattle.nl_scan.proofs.laws.written_texts_say_what_they_were_written_from.Goals as goal

pub returns-clause-written : goal.returns-clause-written
returns-clause-written c = written_says

pub returns-clause-quoted : goal.returns-clause-quoted
returns-clause-quoted c = quoted_says
