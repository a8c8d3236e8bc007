-- The member runs.
use Rattle.std.proofs.Common.{refl}
use Rattle.nl_exec_meaning.proofs.Standing.{stands_on}
use Rattle.nl_exec_walks.proofs.answering.run_as.Goals as goal

pub returns-clause-stands : goal.returns-clause-stands
returns-clause-stands g c = stands_on _ c.args.hands.now c.requires.fit.locals (record { agent = c.requires.agent; asker = c.requires.site.agent }) refl
