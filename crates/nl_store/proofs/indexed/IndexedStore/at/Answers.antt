use Rattle.std.proofs.Common.{◌≡◌, find, Some, subst}
use Rattle.std.specs.Option.{option_map}
use Rattle.nl_store_files.specs.Agents.{Agents}
use Rattle.nl_agents.specs.Changes.{is_turtle}
use Rattle.nl_store.proofs.Holds.{point-inside}
use Rattle.nl_store.proofs.indexed.IndexedStore.at.Goals as goal

pub returns-clause-inside : goal.returns-clause-inside
returns-clause-inside c = point-inside c.args.self.now.land c.args.self.now.roster c.args.self.now.base c.args.self.now.stands c.args.turtle c.at.result (subst (λ (a : Agents). option_map (λ t. t.at) (find (is_turtle c.args.turtle) a.turtles) ≡ Some c.at.result) c.files.ensures c.at.ensures)
