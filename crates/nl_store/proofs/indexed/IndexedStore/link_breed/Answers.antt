use Rattle.std.proofs.Common.{◌≡◌, find, Some, subst}
use Rattle.std.specs.Option.{option_map}
use Rattle.nl_store_files.specs.Agents.{Agents}
use Rattle.nl_agents.specs.Changes.{is_link}
use Rattle.nl_store.proofs.Holds.{link-breed-is}
use Rattle.nl_store.proofs.indexed.IndexedStore.link_breed.Goals as goal

pub returns-clause-breed : goal.returns-clause-breed
returns-clause-breed c = link-breed-is c.args.self.now.land c.args.self.now.roster c.args.self.now.base c.args.self.now.stands c.args.link c.link_breed.result.0 (subst (λ (a : Agents). option_map (λ l. l.breed) (find (is_link c.args.link) a.links) ≡ Some c.link_breed.result.0) c.files.ensures c.link_breed.ensures.breed)
