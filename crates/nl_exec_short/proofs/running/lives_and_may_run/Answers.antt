-- A patch that runs is one of the world.
use Rattle.std.proofs.Common.{ap}
use Rattle.nl_exec_acts.specs.Acts.{is_gone}
use Rattle.nl_exec_meaning.proofs.Living.{owner_lives}
use Rattle.nl_exec_short.proofs.running.lives_and_may_run.Goals as goal

pub returns-in-Patch-clause-lives : goal.returns-in-Patch-clause-lives
returns-in-Patch-clause-lives g c runs =
    let w = g.S.Store.world c.args.hands.now.stage.store in
    owner_lives w c.args.hands.now.site.agent (ap (is_gone w.rest) c.in-Patch.is) c.requires.site.agent
