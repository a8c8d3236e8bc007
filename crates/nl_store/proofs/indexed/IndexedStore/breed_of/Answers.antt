use Rattle.std.proofs.Common.{◌≡◌, find, Some, subst}
use Rattle.std.specs.Option.{option_map}
use Rattle.nl_store_files.specs.Agents.{Agents}
use Rattle.nl_agents.specs.Changes.{is_turtle}
use Rattle.nl_store.proofs.Holds.{breed-is}
use Rattle.nl_store.proofs.indexed.IndexedStore.breed_of.Goals as goal

pub returns-clause-breed : goal.returns-clause-breed
returns-clause-breed c = breed-is c.args.self.now.land c.args.self.now.roster c.args.self.now.base c.args.self.now.stands c.args.turtle c.breed_of.result (subst (λ (a : Agents). option_map (λ t. t.breed) (find (is_turtle c.args.turtle) a.turtles) ≡ Some c.breed_of.result) c.files.ensures c.breed_of.ensures)
