-- What is created is what the text means.
use Rattle.std.proofs.Common.{List, min, ap, ◌∙◌, sym}
use Rattle.nl_value.specs.Plain.{Plain}
use Rattle.nl_agentset_query.specs.Agents.{breed_or_none}
use Rattle.nl_birth.specs.Births.{Scene, count_of, created, creations, turtle_room}
use Rattle.nl_exec_meaning.specs.declared.words.Making.TheVariants as the_making
use Rattle.nl_exec_meaning.specs.State.{State, with_stage}
use Rattle.nl_exec_meaning.specs.Makings.{after_scene, born_of}
use Rattle.nl_exec_meaning.specs.Seen.{state_of}
use Rattle.nl_exec_walks.proofs.Births.{bare_scene, birth_refused, comes, created_bare, keeps_globals, makes}
use Rattle.nl_exec_walks.proofs.making.create_turtles.Goals as goal

pub returns-clause-told : goal.returns-clause-told
returns-clause-told g c =
    let hands = c.args.hands.now in
    let w = g.S.Store.world hands.stage.store in
    let v = g.S.Store.world c.create.new.store in
    let before : Scene = record { world = w; stream = hands.stage.stream } in
    let now : Scene = record { world = v; stream = c.create.new.stream } in
    let b = c.breed_or_none-breed.result in
    let many = count_of c.args.number in
    makes _ hands (born_of (the_making.Create c.args.ordered) c.args.breed c.args.number) c.create.result c.told.result c.told.ensures
    (λ names units place next.
    let s = state_of names hands units in
    let s1 : State = with_stage (after_scene (bare_scene now) s.stage) s in
    comes bare_scene after_scene (created c.args.ordered b c.args.number before) (created c.args.ordered (breed_or_none c.args.breed) c.args.number (bare_scene before))
    (created_bare c.args.ordered b c.args.number before ∙ ap (λ x. created c.args.ordered x c.args.number (bare_scene before)) c.breed_or_none-breed.ensures)
    c.create.result (creations c.args.ordered b many before) (min many (turtle_room w)) now c.create.ensures.outcome s _
    (ap (λ (gs : List Plain). record s1 { globals = gs }) (sym (keeps_globals w v c.create.ensures.keeps)))
    (λ is. absurd (birth_refused (creations c.args.ordered b many before) w many now is)) place next)
