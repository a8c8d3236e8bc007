-- One of the extremes is a member, or nobody.
use Rattle.std.proofs.Common.{◌≡◌, ℕ, List, [], map, IsTrue, refl, sym, subst, ◌∙◌}
use Rattle.std.specs.Prelude.{Contains, MatchOption}
use Rattle.nl_exec_meaning.specs.Walks.{extremes, is_extreme}
use Rattle.nl_value.specs.Plain.{Plain}
use Rattle.nl_exec_meaning.specs.Ground.{fits, ground_of}
use Rattle.nl_exec_meaning.specs.Seen.{ground, state_of}
use Rattle.nl_exec_meaning.specs.inner.Seen.{answered}
use Rattle.nl_exec_meaning.proofs.Standing.{stands_on}
use Rattle.nl_exec_walks.proofs.Fitting.{kept_fit, one_fits, one_small}
use Rattle.nl_exec_walks.proofs.Giving.{extreme_given}
use Rattle.nl_exec_walks.proofs.extremes.one_extreme.Goals as goal

pub agent_or_nobody-requires : goal.agent_or_nobody-requires
agent_or_nobody-requires g c =
    let w = g.S.Store.world c.args.hands.now.stage.store in
    let made = map answered c.args.answers.now in
    one_small w c.args.which (extremes c.args.up made) c.choose-chosen.result c.shape-stands.ensures.stands
    (kept_fit (ground_of w.rest) c.args.which (is_extreme c.args.up made) made c.requires.members)
    (subst (λ (l : List ℕ). MatchOption c.choose-chosen.result (l ≡ []) (Contains l)) (c.deref.ensures.value ∙ c.in_ok-members.ensures) c.choose-chosen.ensures.member)

pub returns-clause-meaning : goal.returns-clause-meaning
returns-clause-meaning g c = λ code units.
    extreme_given c.args.up c.args.which (map answered c.args.answers.now) (state_of code.names c.args.hands.now units) c.deref.result.now c.choose-chosen.result _ _
    (c.deref.ensures.value ∙ c.in_ok-members.ensures) c.agent_or_nobody.ensures c.choose-chosen.ensures.choice c.choose-chosen.ensures.state

pub returns-clause-fits : goal.returns-clause-fits
returns-clause-fits g c =
    let now = ground c.args.hands.now in
    let made = map answered c.args.answers.now in
    subst (λ (p : Plain). IsTrue (fits now p)) (sym c.agent_or_nobody.ensures)
    (one_fits now c.args.which (extremes c.args.up made) c.choose-chosen.result
    (kept_fit now c.args.which (is_extreme c.args.up made) made c.requires.members)
    (subst (λ (l : List ℕ). MatchOption c.choose-chosen.result (l ≡ []) (Contains l)) (c.deref.ensures.value ∙ c.in_ok-members.ensures) c.choose-chosen.ensures.member))

pub returns-clause-stands : goal.returns-clause-stands
returns-clause-stands g c = stands_on _ c.args.hands.now c.requires.fit.locals c.requires.fit.site refl
