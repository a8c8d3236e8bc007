-- The first member that lives is the next one.
use Rattle.std.proofs.Common.{◌≡◌, ◌+◌, ◌-◌, ◌<◌, ℕ, suc, List, Some, drop, length, slice_get, refl, ap, ◌∙◌, sym, subst, arith, rules}
use Rattle.std.proofs.lemmas.Option.{slice_get_within}
use Rattle.nl_agents.specs.declared.agents.Owner.{Owner}
use Rattle.nl_exec_meaning.specs.Code.{node_at}
use Rattle.nl_exec_meaning.specs.State.{State, Outcome, at_site, spend}
use Rattle.nl_exec_meaning.specs.Walks.{asked, turn_over, walk}
use Rattle.nl_exec_meaning.specs.declared.sites.Site.{Site}
use Rattle.nl_exec_meaning.specs.Frames.{walked_on}
use Rattle.nl_exec_meaning.specs.Ground.{SiteFits, ground_of}
use Rattle.nl_exec_meaning.specs.Seen.{ground, state_of}
use Rattle.nl_exec_meaning.specs.Standing.{MembersFit, TurnsFit}
use Rattle.nl_exec_meaning.specs.declared.turns.Turns.{Turns}
use Rattle.nl_exec_meaning.proofs.Standing.{stands_on}
use Rattle.nl_exec_walks.proofs.Turns.{member_small, member_agent_fits}
use Rattle.nl_exec_walks.proofs.Turns.{block_runs}
use Rattle.nl_exec_at_once.proofs.turns.next_member.Goals as goal

pub owner_of-requires : goal.owner_of-requires
owner_of-requires g c =
    let w = g.S.Store.world c.args.hands.now.stage.store in
    let turns = c.get-all.result.now in
    let ms = c.as_slice-members.result.now in
    let some : slice_get ms c.in-Some.at ≡ Some c.in-Some-member_at.member = sym c.member_at.ensures ∙ c.in-Some-member_at.is in
    let held = subst (λ (x : Turns). TurnsFit (ground_of w.rest) x) (sym c.get-all.ensures) c.requires.turns in
    let fit = subst (λ (l : List ℕ). MembersFit (ground_of w.rest) turns.which l) (sym c.as_slice-members.ensures) held.members in
    member_small w turns.which ms c.in-Some.at c.in-Some-member_at.member c.shape-stands.ensures.stands fit some

pub overflow_add-at : goal.overflow_add-at
overflow_add-at g c =
    let some : slice_get c.as_slice-members.result.now c.in-Some.at ≡ Some c.in-Some-member_at.member = sym c.member_at.ensures ∙ c.in-Some-member_at.is in
    let inside : c.in-Some.at < length c.as_slice-members.result.now = slice_get_within c.as_slice-members.result.now c.in-Some.at c.in-Some-member_at.member some in
    search rules

pub returns-clause-next : goal.returns-clause-next
returns-clause-next g c = λ _ prev n.
    let code = c.args.code.now in
    let index = c.args.index in
    let units = c.args.units.now in
    let turns = c.get-all.result.now in
    let t = node_at code c.args.ask in
    let b = node_at code c.args.block in
    let s : ℕ → State = λ left. at_site turns.site (state_of code.names c.args.hands.now left) in
    let ms = c.as_slice-members.result.now in
    let m = c.in-Some-member_at.member in
    let i = c.in-Some.at in
    let some : slice_get ms i ≡ Some m = sym c.member_at.ensures ∙ c.in-Some-member_at.is in
    let more : units + n ≡ suc (units - 1 + n) = omega (arith, c.if-units-eq0.false) in
    let after : List ℕ → State → Outcome = λ l s1. turn_over turns.site (prev b s1) (λ s2. walk prev t index turns.site turns.which (drop (i + 1) l) s2) in
    let by : Owner → Site = λ agent. record { agent = agent; asker = turns.site.agent; body = turns.site.body } in
    let at : State = at_site (by c.owner_of.result) (s (units - 1 + n)) in
    sym (ap (λ (x : Turns). walked_on prev t index x (at_site x.site (state_of code.names c.args.hands.now (units + n)))) c.get-all.ensures)
    ∙ sym (ap (λ (l : List ℕ). walk prev t index turns.site turns.which (drop turns.at l) (s (units + n))) c.as_slice-members.ensures)
    ∙ block_runs prev t index turns.site turns.which ms turns.at (s (units + n)) c.first_living.result c.first_living.ensures i m b c.in-Some.is some c.requires.block
    ∙ ap (λ (l : List ℕ). spend (at_site (asked turns.which m turns.site) (s (units + n))) (after l)) c.as_slice-members.ensures
    ∙ sym (ap (λ (agent : Owner). spend (at_site (by agent) (s (units + n))) (after turns.members)) c.owner_of.ensures)
    ∙ ap (λ (left : ℕ). spend (at_site (by c.owner_of.result) (s left)) (after turns.members)) more
    ∙ ap (λ (x : Turns). turn_over x.site (prev b at) (walked_on prev t index (record x { at = i + 1 }))) c.get-all.ensures
    ∙ sym (ap (λ (x : Turns). turn_over x.site (prev b at) (walked_on prev t index x)) c.go_to.ensures)

pub returns-clause-stands : goal.returns-clause-stands
returns-clause-stands g c =
    let before = c.args.hands.now in
    let now = ground before in
    let turns = c.get-all.result.now in
    let ms = c.as_slice-members.result.now in
    let some : slice_get ms c.in-Some.at ≡ Some c.in-Some-member_at.member = sym c.member_at.ensures ∙ c.in-Some-member_at.is in
    let held = subst (λ (x : Turns). TurnsFit now x) (sym c.get-all.ensures) c.requires.turns in
    let fit = subst (λ (l : List ℕ). MembersFit now turns.which l) (sym c.as_slice-members.ensures) held.members in
    let site = subst (λ (agent : Owner). SiteFits now (record { agent = agent; asker = turns.site.agent; body = turns.site.body })) (sym c.owner_of.ensures)
    (record { agent = member_agent_fits now turns.which ms c.in-Some.at c.in-Some-member_at.member fit some; asker = held.site.agent }) in
    stands_on _ before c.requires.fit.locals site refl
