-- The links that are made are what the text means.
use Rattle.std.proofs.Common.{ℕ, List, Result, ap, ◌∙◌, sym}
use Rattle.nl_value.specs.Nouns.{Serials}
use Rattle.nl_value.specs.Plain.{Plain}
use Rattle.nl_value.specs.Views.{plain}
use Rattle.nl_agents.specs.World.{World}
use Rattle.nl_agents.specs.declared.agents.Owner.{Owner}
use Rattle.nl_agentset_query.specs.Agents.{breed_or_none}
use Rattle.nl_birth.specs.Links.{linked, linkings, most_links}
use Rattle.nl_exec_acts.specs.Acts.{turtle_in}
use Rattle.nl_exec_acts.specs.Stage.{bare}
use Rattle.nl_exec_acts.specs.declared.fail.ErrorKind.{ErrorKind}
use Rattle.nl_exec_meaning.specs.State.{State, come_to, rest_of, with_stage, with_world}
use Rattle.nl_exec_meaning.specs.Makings.{after_world, linked_by, made_by, targets_in}
use Rattle.nl_exec_meaning.specs.Seen.{state_of}
use Rattle.nl_exec_meaning.proofs.Grounds.{fits_is}
use Rattle.nl_exec_walks.proofs.Births.{bare_world, comes, comes_too, linked_bare, link_refused, keeps_globals, makes}
use Rattle.nl_exec_walks.proofs.making.link_turtles.Goals as goal

pub targets_in-requires : goal.targets_in-requires
targets_in-requires g c = sym (fits_is (g.S.Store.world c.args.hands.now.stage.store).rest (plain c.args.value.now)) ∙ c.requires.value

pub returns-clause-told : goal.returns-clause-told
returns-clause-told g c =
    let hands = c.args.hands.now in
    let w = g.S.Store.world hands.stage.store in
    let v = g.S.Store.world c.link.new.store in
    let b = c.breed_or_none-breed.result in
    let caller = c.in-Turtle.caller in
    let targets = c.in_ok-targets.targets in
    let value = plain c.args.value.now in
    makes _ hands (linked_by c.args.way c.args.one c.args.breed value) c.link.result c.told.result c.told.ensures
    (λ names units place next.
    let s = state_of names hands units in
    let s1 : State = with_stage (after_world (bare_world v) s.stage) s in
    let by_targets = λ (n : ℕ) (ts : Serials). made_by (linked c.args.way (breed_or_none c.args.breed) n ts (bare (rest_of s))) after_world place s next in
    let by_caller = λ (n : ℕ). come_to (targets_in (rest_of s) c.args.one value) place s (by_targets n) in
    comes_too c.link.result (by_targets caller targets) (come_to (turtle_in hands.site.agent) place s by_caller) place _ next
    (ap (λ (agent : Owner). come_to (turtle_in agent) place s by_caller) c.in-Turtle.is
    ∙ ap (λ (o : Result Serials ErrorKind). come_to o place s (by_targets caller)) c.in_ok-targets.ensures.told)
    (comes bare_world after_world (linked c.args.way b caller targets w) (linked c.args.way (breed_or_none c.args.breed) caller targets (bare_world w))
    (linked_bare c.args.way b caller targets w ∙ ap (λ x. linked c.args.way x caller targets (bare_world w)) c.breed_or_none-breed.ensures)
    c.link.result (linkings c.args.way b caller targets w) (most_links c.args.way b caller targets w) v c.link.ensures.outcome s _
    (ap (λ (gs : List Plain). record s1 { globals = gs }) (sym (keeps_globals w v c.link.ensures.keeps)))
    (λ is. ap (λ (x : World). with_world x s) (link_refused c.args.way b caller targets w v is)) place next))
