-- The set that the word gives is small.
use Rattle.std.proofs.Common.{◌≡◌, ℕ, ◌≤◌, ◌∷◌, [], List, length, None, refl, ap, ◌∙◌, sym, arith}
use Rattle.std.proofs.lemmas.List.{nil_from_length}
use Rattle.nl_tree.specs.Tree.{span, parts}
use Rattle.nl_value.specs.Plain.{PlainSet}
use Rattle.nl_value.specs.declared.sets.AgentKind.TheVariants as kind
use Rattle.nl_agents.proofs.LivingMembers.{members_are_few}
use Rattle.nl_agentset_query.specs.Agents.{listed, own_patch}
use Rattle.nl_agentset_query.specs.declared.words.QueryWord.TheVariants as query
use Rattle.nl_agentset.specs.Places.{turtles_on}
use Rattle.nl_agentset.specs.Queries.{query_answer}
use Rattle.nl_exec_meaning.specs.declared.words.Built.TheVariants as built
use Rattle.nl_exec_meaning.specs.Cases.{Word}
use Rattle.nl_exec_meaning.specs.Code.{node_at}
use Rattle.nl_exec_meaning.specs.State.{gives}
use Rattle.nl_exec_meaning.specs.Meaning.{evaluator}
use Rattle.nl_exec_meaning.specs.Seen.{state_of}
use Rattle.nl_exec_short.proofs.Single.{some_room}
use Rattle.nl_exec_short.proofs.Listing.{turtles_on_again, small, asks}
use Rattle.nl_exec_short.proofs.Sets.{set_had}
use Rattle.nl_exec_short.proofs.members.gives_here.Goals as goal

pub returns : goal.returns
returns g c = λ _ room n some.
    let code = c.args.code.now in
    let h = c.args.hands.now in
    let w = g.S.Store.world h.stage.store in
    let agent = h.site.agent in
    let t = node_at code c.args.node in
    let s = state_of code.names h n in
    let word = c.in-Word-default-None-Act-Query in
    let here = turtles_on w.rest None (own_patch w.rest agent ∷ []) in
    let set = listed kind.Turtle here in
    let few : length here ≤ 400_000 =
    omega (arith, members_are_few w set c.requires.stands, ap (λ (l : List ℕ). length l) (turtles_on_again w (own_patch w.rest agent ∷ []) c.requires.stands)) in
    let is = sym (ap (λ b. Word word.runs b word.word) word.breed-is ∙ ap (Word word.runs None) (word.word-is ∙ ap built.Act word.word-0-is)) ∙ word.ensures.op in
    some_room (λ it. evaluator code.program it t s ≡ gives (PlainSet set) s)
    (λ less. set_had code.program less t s word.runs None word.which set is
    (nil_from_length (parts t) (sym c.count.ensures ∙ c.if-count-ne0.false))
    (c.if-not-lives_and_may_run.ensures.allowed refl code n (span t)) (c.if-not-lives_and_may_run.ensures.stays refl code n)
    (asks w agent (c.if-not-lives_and_may_run.ensures.lives refl))
    (ap (λ which. query_answer w.rest None agent which [] s.stage.stream) (c.in-Standing.is ∙ ap query.Standing c.in-Here.is)) (small kind.Turtle here few))
    room some
