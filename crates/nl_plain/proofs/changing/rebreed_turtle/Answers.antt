use Rattle.std.proofs.Common.{◌∙◌, ap, slice_set}
use Rattle.nl_agents.specs.Nouns.{Vars}
use Rattle.nl_agents.specs.Changes.{bred_vars}
use Rattle.nl_agents.specs.declared.agents.Turtle.{Turtle}
use Rattle.nl_plain.proofs.Found.{changed_found}
use Rattle.nl_plain.proofs.changing.rebreed_turtle.Goals as goal

pub returns : goal.returns
returns c =
    let at = c.unwrap-at.result in
    let old : Turtle = c.index_mut-turtle.result.now in
    ap (λ (vars : Vars). slice_set c.args.turtles.now.items at (record old { breed = c.args.breed; vars = vars })) c.rebreed.ensures
    ∙ changed_found (λ (t : Turtle). t.serial) (λ (t : Turtle). record t { breed = c.args.breed; vars = bred_vars c.args.layout.now c.args.breed t.vars }) c.args.turtles.now.items c.deref.result.now c.args.serial c.turtle_place.result at old c.requires.order c.deref.ensures.value c.turtle_place.ensures c.unwrap-at.ensures c.index_mut-turtle.ensures.value
