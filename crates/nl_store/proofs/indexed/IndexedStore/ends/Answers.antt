use Rattle.std.proofs.Common.{◌≡◌, find, Some, subst}
use Rattle.std.specs.Option.{option_map}
use Rattle.nl_store_files.specs.Agents.{Agents}
use Rattle.nl_agents.specs.Changes.{is_link}
use Rattle.nl_store.proofs.Holds.{first-lives, second-lives}
use Rattle.nl_store.proofs.indexed.IndexedStore.ends.Goals as goal

pub returns-clause-first_lives : goal.returns-clause-first_lives
returns-clause-first_lives c = first-lives c.args.self.now.land c.args.self.now.roster c.args.self.now.base c.args.self.now.stands c.args.link c.ends.result.0 (subst (λ (a : Agents). option_map (λ l. l.end1) (find (is_link c.args.link) a.links) ≡ Some c.ends.result.0) c.files.ensures c.ends.ensures.first)

pub returns-clause-second_lives : goal.returns-clause-second_lives
returns-clause-second_lives c = second-lives c.args.self.now.land c.args.self.now.roster c.args.self.now.base c.args.self.now.stands c.args.link c.ends.result.1 (subst (λ (a : Agents). option_map (λ l. l.end2) (find (is_link c.args.link) a.links) ≡ Some c.ends.result.1) c.files.ensures c.ends.ensures.second)
