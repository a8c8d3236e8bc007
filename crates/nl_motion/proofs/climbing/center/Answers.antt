use Rattle.std.proofs.Common.{sym, subst}
use Rattle.nl_agents.specs.Changes.{TurtleLives}
use Rattle.nl_motion.proofs.Living.{lives_moved}
use Rattle.nl_motion.proofs.climbing.center.Goals as goal

pub returns-clause-lives : goal.returns-clause-lives
returns-clause-lives g c =
    subst (TurtleLives c.args.turtle) (sym c.shift.ensures) (lives_moved c.args.turtle c.center-to.result (g.S.Store.world c.args.store.now) c.requires.lives)
