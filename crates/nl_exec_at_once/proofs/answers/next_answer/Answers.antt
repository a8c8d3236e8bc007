-- The first member that lives is the next one, behind the answer that is kept or passed over.
use Rattle.std.proofs.Common.{◌≡◌, ◌+◌, ◌-◌, ◌<◌, ◌∷◌, ◌++◌, ℕ, suc, List, Some, drop, length, slice_get, refl, ap, ◌∙◌, sym, subst, arith, rules}
use Rattle.std.proofs.lemmas.Option.{slice_get_within}
use Rattle.nl_agents.specs.declared.agents.Owner.{Owner}
use Rattle.nl_exec_meaning.specs.Code.{node_at}
use Rattle.nl_exec_meaning.specs.State.{State, Outcome, at_site, spend}
use Rattle.nl_exec_meaning.specs.Walks.{asked, members_kept, owner_of, reply_to}
use Rattle.nl_exec_meaning.specs.Ground.{SiteFits, ground_of}
use Rattle.nl_exec_meaning.specs.Seen.{ground, state_of}
use Rattle.nl_exec_meaning.specs.Standing.{AnsweringFits, MembersAscend, MembersFit, TurnsFit}
use Rattle.nl_exec_meaning.specs.declared.turns.Turns.{Turns}
use Rattle.nl_exec_meaning.proofs.Standing.{stands_on}
use Rattle.nl_exec_walks.proofs.Turns.{first_of}
use Rattle.nl_exec_walks.proofs.Turns.{member_small, member_agent_fits}
use Rattle.nl_exec_short.specs.Had.{short_plain}
use Rattle.nl_exec_at_once.specs.AtOnce.{answering}
use Rattle.nl_exec_at_once.proofs.Answering.{first_among, member_there, next_ascends, next_fits, turn_begins}
use Rattle.nl_exec_at_once.proofs.answers.next_answer.Goals as goal

pub owner_of-requires : goal.owner_of-requires
owner_of-requires g c =
    let w = g.S.Store.world c.args.hands.now.stage.store in
    let all = c.get-all.result.now in
    let ms = c.as_slice-members.result.now in
    let some : slice_get ms c.in-Some.at ≡ Some c.in-Some-member_at.next = sym c.member_at.ensures ∙ c.in-Some-member_at.is in
    let held = subst (λ (x : Turns). TurnsFit (ground_of w.rest) x) (sym c.get-all.ensures) c.requires.answering.turns in
    let fit = subst (λ (l : List ℕ). MembersFit (ground_of w.rest) all.which l) (sym c.as_slice-members.ensures) held.members in
    member_small w all.which ms c.in-Some.at c.in-Some-member_at.next c.shape-stands.ensures.stands fit some

pub overflow_add-at : goal.overflow_add-at
overflow_add-at g c =
    let some : slice_get c.as_slice-members.result.now c.in-Some.at ≡ Some c.in-Some-member_at.next = sym c.member_at.ensures ∙ c.in-Some-member_at.is in
    let inside : c.in-Some.at < length c.as_slice-members.result.now = slice_get_within c.as_slice-members.result.now c.in-Some.at c.in-Some-member_at.next some in
    search rules

pub returns-clause-next : goal.returns-clause-next
returns-clause-next g c = λ _ how prev n.
    let code = c.args.code.now in
    let units = c.args.units.now in
    let turns = c.args.turns.now in
    let all = c.get-all.result.now in
    let ms = c.as_slice-members.result.now in
    let r = (g.S.Store.world c.args.hands.now.stage.store).rest in
    let t = node_at code c.args.node in
    let b = node_at code c.args.block in
    let s : ℕ → State = λ left. state_of code.names c.args.hands.now left in
    let m = c.in-Some-member_at.next in
    let i = c.in-Some.at in
    let first = first_among all turns ms c.get-all.ensures c.as_slice-members.ensures r c.first_living.result c.first_living.ensures in
    let there = member_there all turns ms c.get-all.ensures c.as_slice-members.ensures i m c.member_at.result c.member_at.ensures c.in-Some-member_at.is in
    let more : units + n ≡ suc (units - 1 + n) = omega (arith, c.if-units-eq0.false) in
    let after : Turns → State → Outcome = λ x s1. answering code prev t c.args.index c.args.word how m x c.told.new.made (prev b s1) in
    let moved : Turns = record turns { at = i + 1 } in
    let left : ℕ = units - 1 + n in
    turn_begins code prev t c.args.index c.args.word how turns c.args.member.now (short_plain c.args.short.now) c.args.made.now c.told.new.made (s (units + n))
    c.first_living.result i m b (c.told.ensures.told c.if-not-told.false) c.in-Some.is first there c.requires.block
    ∙ ap (λ (k : ℕ). spend (at_site (asked turns.which m turns.site) (s k)) (after moved)) more
    ∙ sym (ap (λ (x : Turns). after moved (at_site (record { agent = owner_of x.which m; asker = x.site.agent; body = x.site.body }) (s left))) c.get-all.ensures)
    ∙ sym (ap (λ (agent : Owner). after moved (at_site (record { agent = agent; asker = all.site.agent; body = all.site.body }) (s left))) c.owner_of.ensures)
    ∙ sym (ap (λ (x : Turns). after x (at_site (record { agent = c.owner_of.result; asker = all.site.agent; body = all.site.body }) (s left))) c.go_to.ensures)

pub returns-clause-answering : goal.returns-clause-answering
returns-clause-answering g c =
    let now = ground c.args.hands.now in
    let turns = c.args.turns.now in
    let value = c.args.short.now in
    let there = member_there c.get-all.result.now turns c.as_slice-members.result.now c.get-all.ensures c.as_slice-members.ensures c.in-Some.at c.in-Some-member_at.next c.member_at.result c.member_at.ensures c.in-Some-member_at.is in
    subst (λ (x : Turns). AnsweringFits now c.in-Some-member_at.next x c.told.new.made) (sym c.go_to.ensures)
    (next_fits now turns c.args.member.now value c.args.made.now c.told.new.made (reply_to c.args.word (short_plain value)) c.in-Some.at c.in-Some-member_at.next
    (c.told.ensures.told c.if-not-told.false) there c.requires.answering)

pub returns-clause-ascend : goal.returns-clause-ascend
returns-clause-ascend g c = λ how up.
    let turns = c.args.turns.now in
    let all = c.get-all.result.now in
    let ms = c.as_slice-members.result.now in
    let r = (g.S.Store.world c.args.hands.now.stage.store).rest in
    let value = short_plain c.args.short.now in
    let m = c.in-Some-member_at.next in
    let i = c.in-Some.at in
    let first = first_among all turns ms c.get-all.ensures c.as_slice-members.ensures r c.first_living.result c.first_living.ensures in
    let there = member_there all turns ms c.get-all.ensures c.as_slice-members.ensures i m c.member_at.result c.member_at.ensures c.in-Some-member_at.is in
    subst (λ (x : Turns). MembersAscend how (members_kept c.told.new.made ++ m ∷ drop x.at x.members)) (sym c.go_to.ensures)
    (next_ascends how turns c.args.member.now value c.args.made.now c.told.new.made (reply_to c.args.word value) (first_of r turns.which (drop turns.at turns.members)) i m
    (c.told.ensures.told c.if-not-told.false) (sym c.in-Some.is ∙ first) there up)

pub returns-clause-stands : goal.returns-clause-stands
returns-clause-stands g c =
    let before = c.args.hands.now in
    let now = ground before in
    let all = c.get-all.result.now in
    let ms = c.as_slice-members.result.now in
    let some : slice_get ms c.in-Some.at ≡ Some c.in-Some-member_at.next = sym c.member_at.ensures ∙ c.in-Some-member_at.is in
    let held = subst (λ (x : Turns). TurnsFit now x) (sym c.get-all.ensures) c.requires.answering.turns in
    let fit = subst (λ (l : List ℕ). MembersFit now all.which l) (sym c.as_slice-members.ensures) held.members in
    let site = subst (λ (agent : Owner). SiteFits now (record { agent = agent; asker = all.site.agent; body = all.site.body })) (sym c.owner_of.ensures)
    (record { agent = member_agent_fits now all.which ms c.in-Some.at c.in-Some-member_at.next fit some; asker = held.site.agent }) in
    stands_on _ before c.requires.fit.locals site refl
