use Rattle.std.proofs.Common.{◌∙◌, ap, length}
use Rattle.nl_store_files.specs.Agents.{Agents}
use Rattle.nl_store_files.proofs.registry.Registry.link_count.Goals as goal

pub returns : goal.returns
returns c = c.len.ensures ∙ c.self.invariant.1.links ∙ ap (λ (a : Agents). length a.links) c.self.view_is
