use Rattle.nl_tree.proofs.Parts.{listed_nodes, smaller}
use Rattle.nl_tree.proofs.tree.Tree.part.Goals as goal

pub returns-clause-value : goal.returns-clause-value
returns-clause-value c = rw (listed_nodes c.args.self.now.parts) c.get.ensures.value

pub returns-clause-rest : goal.returns-clause-rest
returns-clause-rest c = rw (listed_nodes c.args.self.now.parts) c.get.ensures.rest

pub returns-clause-within : goal.returns-clause-within
returns-clause-within c = rw (listed_nodes c.args.self.now.parts) c.get.ensures.within

pub returns-clause-smaller : goal.returns-clause-smaller
returns-clause-smaller c = smaller c.args.self.now c.args.at c.get.result c.get.ensures.rest
