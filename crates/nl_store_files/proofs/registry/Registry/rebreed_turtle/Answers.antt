use Rattle.std.proofs.Common.{◌∙◌, List, find, IsSome, sym, ap, subst}
use Rattle.nl_agents.specs.Changes.{bred_vars, is_turtle}
use Rattle.nl_agents.specs.declared.agents.Turtle as living
use Rattle.nl_store_files.specs.Agents.{turtles_of_other_breed, Agents}
use Rattle.nl_store_files.proofs.Rebred.{filled-lives, rebred-twice}
use Rattle.nl_store_files.proofs.registry.Registry.rebreed_turtle.Goals as goal

pub refile_turtle-requires-clause-lives : goal.refile_turtle-requires-clause-lives
refile_turtle-requires-clause-lives c =
    subst (λ (a : Agents). IsSome (find (is_turtle c.args.turtle) a.turtles)) (sym c.refill_turtle.ensures)
    (filled-lives c.args.turtle c.args.breed (bred_vars c.args.layout.now c.args.breed) c.args.self.now.turtles c.requires.lives)

pub returns : goal.returns
returns c =
    c.refile_turtle.ensures
    ∙ ap (λ (a : Agents). record a { turtles = turtles_of_other_breed c.args.turtle c.args.breed a.turtles }) c.refill_turtle.ensures
    ∙ ap (λ (ts : List living.Turtle). record c.args.self.now { turtles = ts }) (rebred-twice c.args.turtle c.args.breed (bred_vars c.args.layout.now c.args.breed) c.args.self.now.turtles)
