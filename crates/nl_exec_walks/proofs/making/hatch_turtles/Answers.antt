-- What is hatched is what the text means.
use Rattle.std.proofs.Common.{ℕ, List, min, ap, ◌∙◌, sym}
use Rattle.nl_value.specs.Plain.{Plain}
use Rattle.nl_agents.specs.Changes.{turtle_of}
use Rattle.nl_agents.specs.declared.agents.Owner.{Owner}
use Rattle.nl_birth.specs.Births.{count_of, hatched, hatchings, birthplace, turtle_room}
use Rattle.nl_exec_acts.specs.Acts.{turtle_in}
use Rattle.nl_exec_acts.specs.Stage.{bare}
use Rattle.nl_exec_meaning.specs.declared.words.Making.TheVariants as the_making
use Rattle.nl_exec_meaning.specs.State.{State, come_to, rest_of, with_stage}
use Rattle.nl_exec_meaning.specs.Makings.{after_world, born_of, bred_as, made_by}
use Rattle.nl_exec_meaning.specs.Seen.{state_of}
use Rattle.nl_exec_walks.proofs.Births.{bare_world, birth_refused, comes, comes_too, hatched_bare, keeps_globals, makes}
use Rattle.nl_exec_walks.proofs.making.hatch_turtles.Goals as goal

pub returns-clause-told : goal.returns-clause-told
returns-clause-told g c =
    let hands = c.args.hands.now in
    let w = g.S.Store.world hands.stage.store in
    let v = g.S.Store.world c.hatch.new.store in
    let b = c.breed_of_hatched-breed.result in
    let parent = c.in-Turtle.parent in
    let many = count_of c.args.number in
    makes _ hands (born_of the_making.Hatch c.args.breed c.args.number) c.hatch.result c.told.result c.told.ensures
    (λ names units place next.
    let s = state_of names hands units in
    let s1 : State = with_stage (after_world (bare_world v) s.stage) s in
    let by_parent = λ (n : ℕ). made_by (hatched n (bred_as (turtle_of n (rest_of s)) c.args.breed) c.args.number (bare (rest_of s))) after_world place s next in
    comes_too c.hatch.result (by_parent parent) (come_to (turtle_in hands.site.agent) place s by_parent) place _ next
    (ap (λ (agent : Owner). come_to (turtle_in agent) place s by_parent) c.in-Turtle.is)
    (comes bare_world after_world (hatched parent b c.args.number w) (hatched parent (bred_as (turtle_of parent w.rest) c.args.breed) c.args.number (bare_world w))
    (hatched_bare parent b c.args.number w ∙ ap (λ x. hatched parent x c.args.number (bare_world w)) c.breed_of_hatched-breed.ensures.breed)
    c.hatch.result (hatchings b parent (birthplace parent w) w) (min many (turtle_room w)) v c.hatch.ensures.outcome s _
    (ap (λ (gs : List Plain). record s1 { globals = gs }) (sym (keeps_globals w v c.hatch.ensures.keeps)))
    (λ is. absurd (birth_refused (hatchings b parent (birthplace parent w) w) w many v is)) place next))
