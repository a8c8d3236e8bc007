use Rattle.nl_agents.specs.Members.{is_unbreeded}
use Rattle.std.specs.Prelude.{◌<◌, List, length}
use Rattle.std.proofs.Common.{true, false, subst, sym}
use Rattle.nl_agents.specs.declared.agents.Link.{Link}
use Rattle.nl_plain.proofs.Counted.{pushed, room}
use Rattle.nl_plain.proofs.links.Links.push.Goals as goal

pub more-self-inside-requires : goal.more-self-inside-requires
more-self-inside-requires c =
    room (is_unbreeded true) c.self.inside.list.items c.self.inside.directed c.self.invariant.0 (subst (λ (xs : List Link). length xs < 400_000) (sym c.self.view_is) c.requires)

pub more-self-inside-requires-2 : goal.more-self-inside-requires-2
more-self-inside-requires-2 c =
    room (is_unbreeded false) c.self.inside.list.items c.self.inside.undirected c.self.invariant.1 (subst (λ (xs : List Link). length xs < 400_000) (sym c.self.view_is) c.requires)

pub invariant_of-self-2 : goal.invariant_of-self-2
invariant_of-self-2 c =
    let xs = c.self.inside.list.items in (
      pushed (is_unbreeded true) xs c.push.new.self.items c.args.link c.is_unbreeded-directed.result c.self.inside.directed c.more-self-inside.result c.self.invariant.0 c.is_unbreeded-directed.ensures c.in_ok-push.ensures.items c.more-self-inside.ensures,
      pushed (is_unbreeded false) xs c.push.new.self.items c.args.link c.is_unbreeded-undirected.result c.self.inside.undirected c.more-self-inside-2.result c.self.invariant.1 c.is_unbreeded-undirected.ensures c.in_ok-push.ensures.items c.more-self-inside-2.ensures,
    )
