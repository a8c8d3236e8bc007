use Rattle.std.specs.Option.{option_map}
use Rattle.nl_value.specs.Views.{plain}
use Rattle.nl_agents.proofs.Replaced.{put, stood}
use Rattle.nl_agents.proofs.variables.Variables.replace.Goals as goal

pub returns-clause-new : goal.returns-clause-new
returns-clause-new c = put (option_map plain) c.self.inside.list.items c.args.self.now c.args.at c.args.entry c.replace.new.dest c.self.view_is c.replace.ensures.after

pub returns-clause-old : goal.returns-clause-old
returns-clause-old c = stood (option_map plain) c.self.inside.list.items c.args.self.now c.args.at c.index_mut.result.now c.replace.result c.self.view_is c.requires c.replace.ensures.value c.index_mut.ensures.value
