use Rattle.std.proofs.Common.{map}
use Rattle.nl_value.specs.Views.{plain}
use Rattle.nl_agentset.proofs.Neighboring.{neighbor_is}
use Rattle.nl_agentset.proofs.links.neighbor_tested.Goals as goal

pub returns-in_ok-links-in-Turtle-2-clause-answer : goal.returns-in_ok-links-in-Turtle-2-clause-answer
returns-in_ok-links-in-Turtle-2-clause-answer g c =
    neighbor_is (g.S.Store.world c.args.store.now).rest c.args.which c.args.breed c.args.caller c.in_ok-other.field-0 c.in-Turtle.turtle c.in-Turtle-2.other (map plain c.args.inputs.now) _ c.is_empty.result
    c.in-Turtle.is c.in_ok-other.ensures.agent c.in-Turtle-2.is c.in_ok-links-in-Turtle-2.ensures.links c.is_empty.ensures
