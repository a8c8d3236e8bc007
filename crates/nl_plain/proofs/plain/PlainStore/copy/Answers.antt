use Rattle.std.proofs.Common.{subst, sym, ◌∙◌}
use Rattle.nl_agents.specs.Standing.{IsWorld}
use Rattle.nl_plain.specs.Held.{world_in}
use Rattle.nl_plain.proofs.Holds.{of_same_parts}
use Rattle.nl_plain.proofs.plain.PlainStore.copy.Goals as goal

pub invariant_of-result : goal.invariant_of-result
invariant_of-result c =
    let w = world_in c.args.self.now in
    let same = of_same_parts w c.in_ok-layout.layout c.in_ok-globals.globals c.in_ok-run.run' c.in_ok-turtles.turtles.items c.in_ok-patches.patches.items c.in_ok-links.links
    c.in_ok-layout.ensures c.in_ok-globals.ensures c.in_ok-run.ensures (c.in_ok-turtles.ensures ∙ c.deref.ensures.value) (c.in_ok-patches.ensures ∙ c.deref-2.ensures.value) c.in_ok-links.ensures in
    record { stands = subst IsWorld (sym same) c.args.self.now.stands }

pub returns : goal.returns
returns c =
    of_same_parts (world_in c.args.self.now) c.in_ok-layout.layout c.in_ok-globals.globals c.in_ok-run.run' c.in_ok-turtles.turtles.items c.in_ok-patches.patches.items c.in_ok-links.links
    c.in_ok-layout.ensures c.in_ok-globals.ensures c.in_ok-run.ensures (c.in_ok-turtles.ensures ∙ c.deref.ensures.value) (c.in_ok-patches.ensures ∙ c.deref-2.ensures.value) c.in_ok-links.ensures
