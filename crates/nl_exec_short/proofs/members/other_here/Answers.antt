-- One of the two is the turtle itself.
use Rattle.std.proofs.Common.{◌≡◌, ◌==◌, ◌∷◌, [], ℕ, List, None, filter, not, ap, ◌∙◌, sym}
use Rattle.std.proofs.lemmas.Option.{IfSome_then}
use Rattle.nl_value.specs.declared.sets.AgentKind.TheVariants as kind
use Rattle.nl_agents.specs.declared.agents.Owner.{Owner}
use Rattle.nl_agents.specs.declared.agents.Owner.TheVariants as owner
use Rattle.nl_agentset_query.specs.Agents.{own_patch}
use Rattle.nl_agentset.specs.Places.{turtles_on}
use Rattle.nl_agentset.specs.Sets.{is_caller}
use Rattle.nl_exec_short.proofs.members.other_here.Goals as goal

pub returns : goal.returns
returns g c = IfSome_then c.other_of_two.result c.other_of_two.ensures (λ other is.
    let w = g.S.Store.world c.args.store.now in
    let turtle = c.in-Turtle.turtle in
    let here = turtles_on w.rest None (own_patch w.rest (owner.Turtle turtle) ∷ []) in
    let seen : c.as_slice.result.now ≡ here = c.as_slice.ensures.value ∙ c.in-Some.ensures in
    let own : filter (λ n. not (n == turtle)) here ≡ other ∷ [] = ap (λ (l : List ℕ). filter (λ n. not (n == turtle)) l) (sym seen) ∙ is in
    ap (λ (who : Owner). filter (λ n. not (is_caller who kind.Turtle n)) (turtles_on w.rest None (own_patch w.rest who ∷ []))) c.in-Turtle.is ∙ own)
