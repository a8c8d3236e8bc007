-- What is left of the turtles there is the set of the other one.
use Rattle.std.proofs.Common.{◌≡◌, ℕ, ◌≤◌, ◌∷◌, [], List, All, length, filter, not, None, refl, ap, ◌∙◌, sym, subst, arith}
use Rattle.std.proofs.lemmas.List.Elements.{All-head}
use Rattle.std.proofs.lemmas.Option.{IfSome_then}
use Rattle.nl_tree.specs.Tree.{span}
use Rattle.nl_value.specs.Plain.{PlainSet}
use Rattle.nl_value.specs.declared.sets.AgentKind.TheVariants as kind
use Rattle.nl_agents.specs.Changes.{TurtleLives}
use Rattle.nl_agents.specs.Members.{members_of}
use Rattle.nl_agents.proofs.LivingMembers.{members_are_few}
use Rattle.nl_agentset_query.specs.Agents.{listed, own_patch}
use Rattle.nl_agentset.specs.Places.{turtles_on}
use Rattle.nl_agentset.specs.Sets.{is_caller, others}
use Rattle.nl_agentset.proofs.Inside.{turtle_members}
use Rattle.nl_agentset_query.specs.declared.words.OfSet.TheVariants as of_set
use Rattle.nl_agentset_query.specs.declared.words.QueryWord.TheVariants as query
use Rattle.nl_exec_acts.specs.declared.words.Act.TheVariants as act
use Rattle.nl_exec_meaning.specs.declared.words.Built.TheVariants as built
use Rattle.nl_exec_meaning.specs.Cases.{Word}
use Rattle.nl_exec_meaning.specs.Code.{node_at}
use Rattle.nl_exec_meaning.specs.State.{gives}
use Rattle.nl_exec_meaning.specs.Meaning.{evaluator}
use Rattle.nl_exec_meaning.specs.Seen.{state_of}
use Rattle.nl_exec_short.proofs.Single.{roomy}
use Rattle.nl_exec_short.proofs.Listing.{some_members, turtles_on_again, small, asks}
use Rattle.nl_exec_short.proofs.Sets.{others_had}
use Rattle.nl_exec_short.proofs.members.only_other.Goals as goal

pub returns-clause-gives : goal.returns-clause-gives
returns-clause-gives g c = IfSome_then c.other_here.result c.other_here.ensures (λ other is.
    let code = c.args.code.now in
    let h = c.args.hands.now in
    let w = g.S.Store.world h.stage.store in
    let agent = h.site.agent in
    let world = c.shape-stands.ensures.stands in
    let word = c.in-Word-default-default-Act-Query-OfSet-Other in
    let whole : word.word ≡ built.Act (act.Query (query.OfSet of_set.Other)) =
    word.word-is ∙ ap built.Act (word.word-0-is ∙ ap act.Query (word.word-0-0-is ∙ ap query.OfSet word.word-0-0-0-is)) in
    let t = node_at code c.args.node in
    let x = node_at code c.in-Some.part in
    let here = turtles_on w.rest None (own_patch w.rest agent ∷ []) in
    let set = listed kind.Turtle here in
    let but = others w.rest agent set in
    let rest = listed kind.Turtle but in
    let one : but ≡ other ∷ [] = ap (λ l. filter (λ n. not (is_caller agent kind.Turtle n)) l) (turtles_on_again w (own_patch w.rest agent ∷ []) world) ∙ is in
    let again : members_of w.rest rest ≡ but = some_members w set (λ n. not (is_caller agent kind.Turtle n)) world in
    let few : length but ≤ 400_000 = omega (arith, members_are_few w rest world, ap (λ (l : List ℕ). length l) again) in (
      rest,
      (λ room n some.
          let s = state_of code.names h n in
          roomy (λ it. evaluator code.program it t s ≡ gives (PlainSet rest) s) 0
          (λ less enough. others_had code.program less t x s word.runs word.breed set (ap (λ b. Word word.runs word.breed b) (sym whole) ∙ word.ensures.op) c.in-Some.ensures
          (c.if-not-lives_and_may_run.ensures.allowed refl code n (span t)) (c.if-not-lives_and_may_run.ensures.stays refl code n)
          (asks w agent (c.if-not-lives_and_may_run.ensures.lives refl)) (c.if-not-gives_here.ensures refl less n enough) (small kind.Turtle but few))
          room some),
      refl,
      again ∙ one,
    ))

pub returns-clause-lives : goal.returns-clause-lives
returns-clause-lives g c = IfSome_then c.other_here.result c.other_here.ensures (λ other is.
    let h = c.args.hands.now in
    let w = g.S.Store.world h.stage.store in
    let agent = h.site.agent in
    let world = c.shape-stands.ensures.stands in
    let here = turtles_on w.rest None (own_patch w.rest agent ∷ []) in
    let set = listed kind.Turtle here in
    let but = others w.rest agent set in
    let rest = listed kind.Turtle but in
    let one : but ≡ other ∷ [] = ap (λ l. filter (λ n. not (is_caller agent kind.Turtle n)) l) (turtles_on_again w (own_patch w.rest agent ∷ []) world) ∙ is in
    let again : members_of w.rest rest ≡ but = some_members w set (λ n. not (is_caller agent kind.Turtle n)) world in
    All-head (λ n. TurtleLives n w) other [] (subst (λ (l : List ℕ). All (λ n. TurtleLives n w) l) (again ∙ one) (turtle_members w rest world refl)))
