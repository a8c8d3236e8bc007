-- One body more was put behind the others.
use Rattle.nl_exec_meaning.specs.inner.Arena.{trees_seen}
use Rattle.nl_exec_meaning.proofs.Kept.{next_body}
use Rattle.nl_exec_meaning.proofs.resolve.push_bodies.Goals as goal

pub loop-at-preserved : goal.loop-at-preserved
loop-at-preserved c =
    next_body c.loop-at.trees.items c.push.new.self.items c.body_at.result (trees_seen c.args.trees.now.items) c.args.program.now.bodies c.loop-at.at
    c.loop-at.invariant c.in_ok-push.ensures.items c.body_at.ensures
