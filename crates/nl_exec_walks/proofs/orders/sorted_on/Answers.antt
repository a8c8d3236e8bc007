-- The members as values, in the order of what they answered.
use Rattle.std.proofs.Common.{IsTrue, List, map, ap, sym, subst, ◌∙◌}
use Rattle.nl_value.specs.Plain.{Plain, PlainItems, plains}
use Rattle.nl_agents.specs.Names.{living_of}
use Rattle.nl_agentset_query.specs.Agents.{agent_value}
use Rattle.nl_fixed.specs.declared.span.Span.{Span}
use Rattle.nl_tree.specs.Tree.{span}
use Rattle.nl_exec_acts.specs.declared.fail.ErrorKind.TheVariants.{WrongType}
use Rattle.nl_exec_meaning.specs.Code.{node_at}
use Rattle.nl_exec_meaning.specs.State.{fails, gives}
use Rattle.nl_exec_meaning.specs.Walks.{are_comparable, in_order_of_values}
use Rattle.nl_exec_meaning.specs.Ground.{fits}
use Rattle.nl_exec_meaning.specs.Seen.{ended, ground, state_of}
use Rattle.nl_exec_meaning.specs.declared.exits.Exit.{Exit}
use Rattle.nl_exec_walks.proofs.Fitting.{all_small, in_order_fit}
use Rattle.nl_exec_walks.proofs.Giving.{ordered, unordered}
use Rattle.nl_exec_walks.proofs.orders.sorted_on.Goals as goal

pub in_order-requires : goal.in_order-requires
in_order-requires g c =
    all_small (g.S.Store.world c.args.hands.now.stage.store) c.args.which _ c.shape-stands.ensures.stands c.requires.members

pub returns-then-not-are_comparable-clause-meaning : goal.returns-then-not-are_comparable-clause-meaning
returns-then-not-are_comparable-clause-meaning g c = λ units.
    let s = state_of c.args.code.now.names c.args.hands.now units in
    ap (λ (e : Exit). ended e s) c.fault.ensures
    ∙ ap (λ (p : Span). fails WrongType p s) c.span.ensures
    ∙ unordered c.args.which c.args.answers (span (node_at c.args.code.now c.args.node)) s c.are_comparable.result
    (c.are_comparable.ensures
    ∙ ap (are_comparable (living_of (g.S.Store.world c.new-view.result.store.now).rest)) c.as_slice.ensures
    ∙ ap (λ x. are_comparable (living_of (g.S.Store.world x).rest) c.args.answers) c.new-view.ensures.store) c.if-not-are_comparable.true

pub returns-clause-meaning : goal.returns-clause-meaning
returns-clause-meaning g c = λ units.
    let s = state_of c.args.code.now.names c.args.hands.now units in
    ap (λ (p : Plain). gives p s) c.in_ok-items.ensures
    ∙ ordered c.args.which c.args.answers (span (node_at c.args.code.now c.args.node)) s c.are_comparable.result
    (c.are_comparable.ensures
    ∙ ap (are_comparable (living_of (g.S.Store.world c.new-view.result.store.now).rest)) c.as_slice.ensures
    ∙ ap (λ x. are_comparable (living_of (g.S.Store.world x).rest) c.args.answers) c.new-view.ensures.store) c.if-not-are_comparable.false c.in_ok-agents.agents
    (c.in_ok-agents.ensures ∙ ap (λ x. map (λ a. agent_value c.args.which a.member) (in_order_of_values (living_of (g.S.Store.world x).rest) c.args.which c.args.answers)) c.new-view.ensures.store)

pub returns-clause-fits : goal.returns-clause-fits
returns-clause-fits g c =
    let now = ground c.args.hands.now in
    let w = living_of (g.S.Store.world c.new-view.result.store.now).rest in
    subst (λ (p : Plain). IsTrue (fits now p)) (sym c.in_ok-items.ensures)
    (subst (λ (ps : List Plain). IsTrue (fits now (PlainItems (plains ps)))) (sym c.in_ok-agents.ensures)
    (in_order_fit now w c.args.which c.args.answers c.requires.members))
