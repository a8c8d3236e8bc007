use Rattle.std.proofs.Common.{◌∙◌, ap, find, is_some}
use Rattle.nl_agents.specs.Changes.{is_turtle}
use Rattle.nl_store_records.specs.Records.{record_at}
use Rattle.nl_store_files.specs.Agents.{Agents}
use Rattle.nl_store_files.proofs.Filed.{turtle-lives}
use Rattle.nl_store_files.proofs.registry.Registry.has_turtle.Goals as goal

pub returns : goal.returns
returns c =
    c.is_some.ensures ∙ ap is_some c.get.ensures
    ∙ turtle-lives c.self.inside.chains c.self.inside.ends (record_at c.self.inside.records) c.self.inside.turtle_keys c.self.inside.link_keys c.self.inside.turtles_given c.self.inside.links_given c.self.invariant.0 c.self.invariant.1 c.args.turtle
    ∙ ap (λ (a : Agents). is_some (find (is_turtle c.args.turtle) a.turtles)) c.self.view_is
