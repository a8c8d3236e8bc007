use Rattle.nl_value.specs.Plain.{PlainNumber}
use Rattle.nl_agents_layout.specs.BuiltIn.{heading_slot}
use Rattle.nl_motion.proofs.Living.{lives_set}
use Rattle.nl_motion.proofs.climbing.face.Goals as goal

pub returns-in-Ok-clause-lives : goal.returns-in-Ok-clause-lives
returns-in-Ok-clause-lives g c =
    lives_set c.args.turtle heading_slot (PlainNumber c.in-Ok.heading) (g.S.Store.world c.args.store.now) _ c.set_var-kept.result
    c.requires.lives c.set_var-kept.ensures.set c.set_var-kept.ensures.kept
