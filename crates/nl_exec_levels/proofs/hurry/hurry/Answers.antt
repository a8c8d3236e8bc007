-- A step goes on.
use Rattle.nl_exec_meaning.specs.Seen.{ground}
use Rattle.nl_exec_levels.proofs.hurry.hurry.Goals as goal

pub returns-in-Tick-clause-focus : goal.returns-in-Tick-clause-focus
returns-in-Tick-clause-focus g c = c.granted.ensures.fits (ground c.args.hands.now)
