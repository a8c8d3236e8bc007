-- The members of a set of turtles live.
use Rattle.std.proofs.Common.{List, ℕ, All, ◌∙◌, sym, subst}
use Rattle.nl_agents.specs.Changes.{TurtleLives}
use Rattle.nl_agentset.proofs.Inside.{turtle_members}
use Rattle.nl_exec_walks.proofs.making.turtles_in.Goals as goal

pub returns-in_ok-turtles-in-Turtle-clause-live : goal.returns-in_ok-turtles-in-Turtle-clause-live
returns-in_ok-turtles-in-Turtle-clause-live g c =
    let w = g.S.Store.world c.args.store.now in
    subst (λ (zs : List ℕ). All (λ z. TurtleLives z w) zs) (sym c.in_ok-turtles-in-Turtle.ensures)
    (turtle_members w c.deref-set.result.now c.shape-stands.ensures.stands (sym c.kind.ensures ∙ c.in-Turtle.is))
