use Rattle.nl_index.proofs.Borders.{last-redirects, last-stays}
use Rattle.nl_links.specs.Sides.{kind_of}
use Rattle.nl_links.proofs.Borders.{last-set, keeps-last}
use Rattle.nl_links.proofs.joining.set_before.Goals as goal

pub returns-in-None-clause-before : goal.returns-in-None-clause-before
returns-in-None-clause-before c = rw c.in-None.is (last-redirects (kind_of c.args.side) c.args.turtle c.args.to _ _ _ (last-set c.args.side c.args.to c.args.ends.now c.set_last.new.self c.args.turtle c.requires.turtle c.set_last.ensures))

pub returns-in-None-clause-after : goal.returns-in-None-clause-after
returns-in-None-clause-after c = last-stays (kind_of c.args.side) c.args.turtle c.args.to _ _ _ (last-set c.args.side c.args.to c.args.ends.now c.set_last.new.self c.args.turtle c.requires.turtle c.set_last.ensures)

pub returns-in-None-clause-beside : goal.returns-in-None-clause-beside
returns-in-None-clause-beside c = keeps-last c.args.side c.args.to c.args.ends.now c.set_last.new.self c.args.turtle c.set_last.ensures
