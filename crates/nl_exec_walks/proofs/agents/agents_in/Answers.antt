-- A set, or else one living agent.
use Rattle.std.proofs.Common.{ℕ, List, Bool, true, ap, ◌∙◌, sym, subst, IsTrue, refl}
use Rattle.nl_value.specs.Plain.{Plain, PlainSet}
use Rattle.nl_value.specs.Views.{plain}
use Rattle.nl_value.specs.declared.sets.AgentKind.{AgentKind}
use Rattle.nl_draw.specs.Stream.{shuffled}
use Rattle.nl_agents.specs.Members.{members_of}
use Rattle.nl_exec_meaning.specs.State.{State}
use Rattle.nl_exec_meaning.specs.Walks as walks
use Rattle.nl_exec_meaning.specs.Walks.{at_stream}
use Rattle.nl_exec_meaning.specs.Ground.{fits}
use Rattle.nl_exec_meaning.specs.Seen.{ground, state_of}
use Rattle.nl_exec_meaning.proofs.Grounds.{fits_is}
use Rattle.nl_exec_walks.specs.Groups.{asked_of, asking, asking_one}
use Rattle.nl_exec_walks.proofs.Asking.{is_set, no_set, tells_too}
use Rattle.nl_exec_walks.proofs.agents.agents_in.Goals as goal

pub shuffled_set-requires-clause-set : goal.shuffled_set-requires-clause-set
shuffled_set-requires-clause-set g c =
    sym (fits_is (g.S.Store.world c.args.hands.now.stage.store).rest (PlainSet c.in-Some.set.now))
    ∙ subst (λ (v : Plain). IsTrue (fits (ground c.args.hands.now) v)) (is_set (plain c.args.value.now) c.in-Some.set.now (sym c.in-Some.ensures)) c.requires.value

pub returns-in_ok-members-in-Some-clause-told : goal.returns-in_ok-members-in-Some-clause-told
returns-in_ok-members-in-Some-clause-told g c = λ names units place next.
    let hands = c.args.hands.now in
    let s = state_of names hands units in
    let set = c.in-Some.set.now in
    let mixed = shuffled (members_of (g.S.Store.world hands.stage.store).rest set) hands.stage.stream in
    let group : AgentKind → List ℕ → Bool × walks.Group = λ k ms. (true, record { which = k; numbers = ms }) in
    ap (λ (v : Plain). asking v place s next) (is_set (plain c.args.value.now) set (sym c.in-Some.ensures))
    ∙ ap (λ (k : AgentKind). next (group k mixed.0) (at_stream mixed.1 s)) (sym c.kind.ensures)
    ∙ ap (λ (ms : List ℕ). next (group c.kind.result ms) (at_stream mixed.1 s)) (sym c.in_ok-members-in-Some.ensures.walk)
    ∙ ap (λ (x : State). next (group c.kind.result c.in_ok-members-in-Some.members) x) (sym (c.in_ok-members-in-Some.ensures.state names units))

pub returns-in-None-clause-told : goal.returns-in-None-clause-told
returns-in-None-clause-told g c =
    let hands = c.args.hands.now in
    let value = plain c.args.value.now in
    tells_too asked_of c.one_agent.result hands hands (asking_one value) (asking value)
    (λ place s next. no_set value (sym c.in-None.ensures) place s next) c.one_agent.ensures.told

pub returns-in-None-clause-fits : goal.returns-in-None-clause-fits
returns-in-None-clause-fits g c = c.one_agent.ensures.fits

pub returns-in-None-clause-stands : goal.returns-in-None-clause-stands
returns-in-None-clause-stands g c = record { fit = c.requires.fit; same = refl }
