-- What sprouts is what the text means.
use Rattle.std.proofs.Common.{ℕ, List, min, ap, ◌∙◌, sym}
use Rattle.nl_value.specs.Plain.{Plain}
use Rattle.nl_agents.specs.declared.agents.Owner.{Owner}
use Rattle.nl_agentset_query.specs.Agents.{breed_or_none}
use Rattle.nl_birth.specs.Births.{Scene, count_of, sprouted, sproutings, turtle_room}
use Rattle.nl_exec_meaning.specs.declared.words.Making.TheVariants as the_making
use Rattle.nl_exec_meaning.specs.State.{State, come_to, with_stage}
use Rattle.nl_exec_meaning.specs.Makings.{after_scene, born_of, made_by, patch_in, scene_of}
use Rattle.nl_exec_meaning.specs.Seen.{state_of}
use Rattle.nl_exec_walks.proofs.Births.{bare_scene, birth_refused, comes, comes_too, sprouted_bare, keeps_globals, makes}
use Rattle.nl_exec_walks.proofs.making.sprout_turtles.Goals as goal

pub returns-clause-told : goal.returns-clause-told
returns-clause-told g c =
    let hands = c.args.hands.now in
    let w = g.S.Store.world hands.stage.store in
    let v = g.S.Store.world c.sprout.new.store in
    let before : Scene = record { world = w; stream = hands.stage.stream } in
    let now : Scene = record { world = v; stream = c.sprout.new.stream } in
    let b = c.breed_or_none-breed.result in
    let patch = c.in-Patch.patch in
    let many = count_of c.args.number in
    makes _ hands (born_of the_making.Sprout c.args.breed c.args.number) c.sprout.result c.told.result c.told.ensures
    (λ names units place next.
    let s = state_of names hands units in
    let s1 : State = with_stage (after_scene (bare_scene now) s.stage) s in
    let by_patch = λ (n : ℕ). made_by (sprouted n (breed_or_none c.args.breed) c.args.number (scene_of s)) after_scene place s next in
    comes_too c.sprout.result (by_patch patch) (come_to (patch_in hands.site.agent) place s by_patch) place _ next
    (ap (λ (agent : Owner). come_to (patch_in agent) place s by_patch) c.in-Patch.is)
    (comes bare_scene after_scene (sprouted patch b c.args.number before) (sprouted patch (breed_or_none c.args.breed) c.args.number (bare_scene before))
    (sprouted_bare patch b c.args.number before ∙ ap (λ x. sprouted patch x c.args.number (bare_scene before)) c.breed_or_none-breed.ensures)
    c.sprout.result (sproutings patch b before) (min many (turtle_room w)) now c.sprout.ensures.outcome s _
    (ap (λ (gs : List Plain). record s1 { globals = gs }) (sym (keeps_globals w v c.sprout.ensures.keeps)))
    (λ is. absurd (birth_refused (sproutings patch b before) w many now is)) place next))
