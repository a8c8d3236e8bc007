use Rattle.std.proofs.lemmas.Result.{on_ok_weaker}
use Rattle.nl_links.proofs.Holding.{holds-set, entered}
use Rattle.nl_links.proofs.ends.Ends.enter.Goals as goal

pub returns-clause-held : goal.returns-clause-held
returns-clause-held c = on_ok_weaker c.hold.result (holds-set c.args.self.now c.hold.new.self c.args.turtle _) c.hold.ensures.held

pub returns-clause-ended : goal.returns-clause-ended
returns-clause-ended c = on_ok_weaker c.hold.result (entered c.args.self.now c.hold.new.self c.args.turtle c.requires) c.hold.ensures.held
