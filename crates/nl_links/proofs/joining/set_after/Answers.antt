use Rattle.nl_index.proofs.Borders.{first-redirects, first-stays}
use Rattle.nl_links.specs.Sides.{kind_of}
use Rattle.nl_links.proofs.Borders.{first-set, keeps-first}
use Rattle.nl_links.proofs.joining.set_after.Goals as goal

pub returns-in-None-clause-after : goal.returns-in-None-clause-after
returns-in-None-clause-after c = rw c.in-None.is (first-redirects (kind_of c.args.side) c.args.turtle c.args.to _ _ _ (first-set c.args.side c.args.to c.args.ends.now c.set_first.new.self c.args.turtle c.requires.turtle c.set_first.ensures))

pub returns-in-None-clause-before : goal.returns-in-None-clause-before
returns-in-None-clause-before c = first-stays (kind_of c.args.side) c.args.turtle c.args.to _ _ _ (first-set c.args.side c.args.to c.args.ends.now c.set_first.new.self c.args.turtle c.requires.turtle c.set_first.ensures)

pub returns-in-None-clause-beside : goal.returns-in-None-clause-beside
returns-in-None-clause-beside c = keeps-first c.args.side c.args.to c.args.ends.now c.set_first.new.self c.args.turtle c.set_first.ensures
