-- What births and the making of links leave as it was.
use Rattle.std.specs.Prelude.{◌≡◌, ◌+◌, List, ◌++◌, map, length}
use Rattle.std.specs.List.{range_with_len}
use Rattle.nl_agents.specs.World.{World}
use Rattle.nl_agents.specs.declared.agents.Turtle.{Turtle}
use Rattle.nl_agents.specs.declared.agents.Link.{Link}

-- The second world is the first with so many turtles and links more, and nothing else of it is changed: who lived lives on as it was,
-- and the new ones follow, under the next serials in order.
pub record Keeps (w now : World) : Type 0 where
  pub turtles : List Turtle
  pub links : List Link
  pub turtle_serials : map (λ t. t.serial) turtles ≡ range_with_len w.rest.turtles_given (length turtles)
  pub link_serials : map (λ l. l.serial) links ≡ range_with_len w.rest.links_given (length links)
  pub rest : now ≡ record w {
    rest = record w.rest {
      turtles = w.rest.turtles ++ turtles;
      turtles_given = w.rest.turtles_given + length turtles;
      links = w.rest.links ++ links;
      links_given = w.rest.links_given + length links;
    };
  }
