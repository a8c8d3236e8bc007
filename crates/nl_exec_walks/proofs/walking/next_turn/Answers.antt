-- The walk goes on with the first member that lives.
use Rattle.std.proofs.Common.{◌≡◌, ◌+◌, List, ℕ, Some, None, drop, slice_get, ap, ◌∙◌, sym, subst}
use Rattle.nl_fixed.specs.declared.span.Span.{Span}
use Rattle.nl_exec_acts.specs.declared.fail.ErrorKind.TheVariants.{WrongType}
use Rattle.nl_agents.specs.declared.agents.Owner.{Owner}
use Rattle.nl_exec_meaning.specs.Code.{node_at}
use Rattle.nl_exec_meaning.specs.State.{State, Outcome, at_site, fails, spend}
use Rattle.nl_exec_meaning.specs.Walks.{asked, turn_over, walk}
use Rattle.nl_exec_meaning.specs.Ground.{SiteFits, ground_of}
use Rattle.nl_exec_meaning.specs.Frames.{walked_on}
use Rattle.nl_exec_meaning.specs.Seen.{ended, ground, state_of}
use Rattle.nl_exec_meaning.specs.Standing.{MembersFit, TurnsFit}
use Rattle.nl_exec_meaning.specs.declared.exits.Exit.{Exit}
use Rattle.nl_exec_meaning.specs.declared.turns.Turns.{Turns}
use Rattle.nl_exec_walks.proofs.Members.{member_small, member_agent_fits}
use Rattle.nl_exec_walks.proofs.Skipping.{none_lives, no_member, no_block, block_runs}
use Rattle.nl_exec_walks.proofs.walking.next_turn.Goals as goal

pub returns-in_default-clause-meaning : goal.returns-in_default-clause-meaning
returns-in_default-clause-meaning g c = λ prev units thrifty.
    let code = c.args.code.now in
    let turns = c.get-all.result.now in
    let t = node_at code c.args.node in
    let s = state_of code.names c.args.hands.now units in
    sym (none_lives prev t c.args.index turns.site turns.which c.as_slice-members.result.now turns.at s c.first_living.result c.first_living.ensures c.in_default.is)
    ∙ ap (λ (l : List ℕ). walk prev t c.args.index turns.site turns.which (drop turns.at l) s) c.as_slice-members.ensures
    ∙ ap (λ (x : Turns). walked_on prev t c.args.index x s) c.get-all.ensures

pub returns-in_default-member_at-clause-meaning : goal.returns-in_default-member_at-clause-meaning
returns-in_default-member_at-clause-meaning g c = λ prev units thrifty.
    let code = c.args.code.now in
    let turns = c.get-all.result.now in
    let t = node_at code c.args.node in
    let s = state_of code.names c.args.hands.now units in
    let ms = c.as_slice-members.result.now in
    let none : slice_get ms c.in-Some.at ≡ None = sym c.member_at.ensures ∙ c.in_default-member_at.is in
    sym (no_member prev t c.args.index turns.site turns.which ms turns.at s c.first_living.result c.first_living.ensures c.in-Some.at c.in-Some.is none)
    ∙ ap (λ (l : List ℕ). walk prev t c.args.index turns.site turns.which (drop turns.at l) s) c.as_slice-members.ensures
    ∙ ap (λ (x : Turns). walked_on prev t c.args.index x s) c.get-all.ensures

pub returns-in_default-part-clause-meaning : goal.returns-in_default-part-clause-meaning
returns-in_default-part-clause-meaning g c = λ prev units thrifty.
    let code = c.args.code.now in
    let turns = c.get-all.result.now in
    let t = node_at code c.args.node in
    let s = state_of code.names c.args.hands.now units in
    let ms = c.as_slice-members.result.now in
    let some : slice_get ms c.in-Some.at ≡ Some c.in-Some-member_at.member = sym c.member_at.ensures ∙ c.in-Some-member_at.is in
    ap (λ (e : Exit). ended e s) c.fault.ensures
    ∙ ap (λ (p : Span). fails WrongType p s) c.span.ensures
    ∙ sym (no_block prev t c.args.index turns.site turns.which ms turns.at s c.first_living.result c.first_living.ensures c.in-Some.at c.in-Some-member_at.member c.in-Some.is some (sym c.in_default-part.ensures.value))
    ∙ ap (λ (l : List ℕ). walk prev t c.args.index turns.site turns.which (drop turns.at l) s) c.as_slice-members.ensures
    ∙ ap (λ (x : Turns). walked_on prev t c.args.index x s) c.get-all.ensures

pub owner_of-requires : goal.owner_of-requires
owner_of-requires g c =
    let w = g.S.Store.world c.args.hands.now.stage.store in
    let turns = c.get-all.result.now in
    let ms = c.as_slice-members.result.now in
    let some : slice_get ms c.in-Some.at ≡ Some c.in-Some-member_at.member = sym c.member_at.ensures ∙ c.in-Some-member_at.is in
    let held = subst (λ (x : Turns). TurnsFit (ground_of w.rest) x) (sym c.get-all.ensures) c.requires.turns in
    let fit = subst (λ (l : List ℕ). MembersFit (ground_of w.rest) turns.which l) (sym c.as_slice-members.ensures) held.members in
    member_small w turns.which ms c.in-Some.at c.in-Some-member_at.member c.shape-stands.ensures.stands fit some

pub run_as-requires-clause-site : goal.run_as-requires-clause-site
run_as-requires-clause-site g c =
    let now = ground c.args.hands.now in
    let turns = c.get-all.result.now in
    let ms = c.as_slice-members.result.now in
    let some : slice_get ms c.in-Some.at ≡ Some c.in-Some-member_at.member = sym c.member_at.ensures ∙ c.in-Some-member_at.is in
    let held = subst (λ (x : Turns). TurnsFit now x) (sym c.get-all.ensures) c.requires.turns in
    let fit = subst (λ (l : List ℕ). MembersFit now turns.which l) (sym c.as_slice-members.ensures) held.members in
    subst (λ (agent : Owner). SiteFits now (record { agent = agent; asker = turns.site.agent; body = turns.site.body })) (sym c.owner_of.ensures)
    (record { agent = member_agent_fits now turns.which ms c.in-Some.at c.in-Some-member_at.member fit some; asker = held.site.agent })

pub returns-clause-meaning : goal.returns-clause-meaning
returns-clause-meaning g c = λ prev units thrifty.
    let code = c.args.code.now in
    let turns = c.get-all.result.now in
    let t = node_at code c.args.node in
    let s = state_of code.names c.args.hands.now units in
    let ms = c.as_slice-members.result.now in
    let m = c.in-Some-member_at.member in
    let i = c.in-Some.at in
    let some : slice_get ms i ≡ Some m = sym c.member_at.ensures ∙ c.in-Some-member_at.is in
    let b = node_at code c.in-Some-part.block in
    let after : List ℕ → State → Outcome = λ l s1. turn_over turns.site (prev b s1) (λ s2. walk prev t c.args.index turns.site turns.which (drop (i + 1) l) s2) in
    let on : Turns → State → Outcome = λ x s1. turn_over x.site (prev b s1) (λ s2. walked_on prev t c.args.index x s2) in
    ap (λ (x : Turns). spend (state_of code.names c.run_as.new.hands units) (on x)) (c.go_to.ensures ∙ ap (λ (x : Turns). record x { at = i + 1 }) (sym c.get-all.ensures))
    ∙ ap (λ (x : State). spend x (after turns.members)) (c.run_as.ensures.state code.names units)
    ∙ ap (λ (agent : Owner). spend (at_site (record { agent = agent; asker = turns.site.agent; body = turns.site.body }) s) (after turns.members)) c.owner_of.ensures
    ∙ ap (λ (l : List ℕ). spend (at_site (asked turns.which m turns.site) s) (after l)) (sym c.as_slice-members.ensures)
    ∙ sym (block_runs prev t c.args.index turns.site turns.which ms turns.at s c.first_living.result c.first_living.ensures i m b c.in-Some.is some (sym c.in-Some-part.ensures.value))
    ∙ ap (λ (l : List ℕ). walk prev t c.args.index turns.site turns.which (drop turns.at l) s) c.as_slice-members.ensures
    ∙ ap (λ (x : Turns). walked_on prev t c.args.index x s) c.get-all.ensures
