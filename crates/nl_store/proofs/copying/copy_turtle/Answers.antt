use Rattle.std.proofs.Common.{◌∙◌, ap}
use Rattle.nl_store_files.specs.Agents.{Agents}
use Rattle.nl_store.proofs.Copies.{among-breed, turtle-again, turtle-keeps}
use Rattle.nl_store.proofs.copying.copy_turtle.Goals as goal

pub add_turtle-requires-clause-breed : goal.add_turtle-requires-clause-breed
add_turtle-requires-clause-breed c =
    among-breed c.args.from.now c.args.serial c.breed_of.result c.skip_turtles.new.self.breeds c.breed_of.ensures
    (ap (λ (a : Agents). a.breeds) c.skip_turtles.ensures ∙ c.requires.breeds) c.requires.among

pub returns : goal.returns
returns c =
    turtle-again c.args.from.now.turtles c.args.serial c.breed_of.result c.at.result c.in_ok-vars.vars c.breed_of.ensures c.at.ensures (turtle-keeps c.args.from.now.turtles c.args.serial c.turtle_vars.result.now c.in_ok-vars.vars c.turtle_vars.ensures c.in_ok-vars.ensures) c.args.into.now c.skip_turtles.new.self c.add_turtle.new.self c.skip_turtles.ensures c.in_ok-add_turtle.ensures.added
