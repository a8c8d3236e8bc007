-- A turtle is one of those on its patch, and any other agent is none of them.
use Rattle.std.proofs.Common.{◌∙◌, ◌∷◌, [], None, ap, sym, length, filter, not, subst, arith}
use Rattle.nl_value.specs.declared.sets.AgentKind.TheVariants as kind
use Rattle.nl_agents.specs.Changes.{OwnerLives}
use Rattle.nl_agentset_query.specs.Agents.{own_patch}
use Rattle.nl_agentset.specs.Places.{turtles_on}
use Rattle.nl_agentset.specs.Sets.{is_caller}
use Rattle.nl_exec_short.proofs.Counting.{no_turtle, others_on_own}
use Rattle.nl_exec_short.proofs.members.counted_here.Goals as goal

pub overflow_sub-result : goal.overflow_sub-result
overflow_sub-result g c =
    let w = g.S.Store.world c.args.store.now in
    let is = c.in-Turtle.is in
    let more = others_on_own w c.in-Turtle.field-0 c.shape-stands.ensures.stands (subst (λ who. OwnerLives who w) is c.requires) in
    let all = c.turtles_here-all.ensures ∙ ap (λ who. length (turtles_on w.rest None (own_patch w.rest who ∷ []))) is in
    omega (arith, more, all)

pub returns-in-Turtle-clause-but_own : goal.returns-in-Turtle-clause-but_own
returns-in-Turtle-clause-but_own g c =
    let w = g.S.Store.world c.args.store.now in
    let is = c.in-Turtle.is in
    let more = others_on_own w c.in-Turtle.field-0 c.shape-stands.ensures.stands (subst (λ who. OwnerLives who w) is c.requires) in
    let all = c.turtles_here-all.ensures ∙ ap (λ who. length (turtles_on w.rest None (own_patch w.rest who ∷ []))) is in
    let others = ap (λ who. length (filter (λ n. not (is_caller who kind.Turtle n)) (turtles_on w.rest None (own_patch w.rest who ∷ [])))) is in
    omega (arith, more, all, others)

pub returns-in_default : goal.returns-in_default
returns-in_default g c =
    let w = g.S.Store.world c.args.store.now in
    let here = turtles_on w.rest None (own_patch w.rest c.args.agent ∷ []) in
    record {
      all = c.turtles_here-all.ensures;
      but_own = c.turtles_here-all.ensures ∙ sym (ap (λ l. length l) (no_turtle c.args.agent c.in_default.not-Turtle here));
    }
