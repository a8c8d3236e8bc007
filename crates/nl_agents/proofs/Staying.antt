-- What stays a part of the world when other parts of it change.
use Rattle.std.specs.Prelude.{ℕ, ◌≤◌, List, All, IsSome, find}
use Rattle.std.proofs.Common.{arith}
use Rattle.std.proofs.lemmas.List.Elements.{All-weaker}
use Rattle.nl_value.specs.Plain.{Plain}
use Rattle.nl_agents.specs.Nouns.{Vars}
use Rattle.nl_agents.specs.World.{Rest, World}
use Rattle.nl_agents.specs.Changes.{is_turtle, turtle_of}
use Rattle.nl_agents.specs.Standing.{IsTurtleOf, IsLinkOf, AreAgents, AreFew, IsWorld}
use Rattle.nl_agents.specs.declared.agents.Turtle.{Turtle}
use Rattle.nl_agents.specs.declared.agents.Link.{Link}

module _ (r : Rest) (run : List Plain) (turtles : List Turtle) (patches : List Vars) (links : List Link) (turtles_given links_given : ℕ) where
  -- the same shape, layout and base, and all else of the rest changed
  abbrev pub becomes : Rest
  becomes = record r { run = run; turtles = turtles; patches = patches; links = links; turtles_given = turtles_given; links_given = links_given }

  pub turtle_stays : (t : Turtle) → r.turtles_given ≤ turtles_given → IsTurtleOf r t → IsTurtleOf becomes t
  turtle_stays t le h = record {
    given = let a = h.given in omega arith;
    called = h.called;
    at = h.at;
    breed = h.breed;
    vars = h.vars;
    heading = h.heading;
  }

  pub turtles_stay : (ts : List Turtle) → r.turtles_given ≤ turtles_given → All (IsTurtleOf r) ts → All (IsTurtleOf becomes) ts
  turtles_stay ts le h = All-weaker (IsTurtleOf r) (IsTurtleOf becomes) (λ t. turtle_stays t le) ts h

  -- a link stays one where its ends live
  pub link_stays : (l : Link) → IsSome (find (is_turtle l.end1) turtles) → IsSome (find (is_turtle l.end2) turtles) → r.links_given ≤ links_given → IsLinkOf r l → IsLinkOf becomes l
  link_stays l first second le h = record {
    given = let a = h.given in omega arith;
    first = first;
    second = second;
    apart = h.apart;
    breed = h.breed;
    vars = h.vars;
  }

  pub links_stay : (ls : List Link) → ((serial : ℕ) → IsSome (turtle_of serial r) → IsSome (find (is_turtle serial) turtles)) → r.links_given ≤ links_given → All (IsLinkOf r) ls → All (IsLinkOf becomes) ls
  links_stay ls live le h =
      All-weaker (IsLinkOf r) (IsLinkOf becomes) (λ l a. link_stays l (live l.end1 a.first) (live l.end2 a.second) le a) ls h

-- agents, where the texts of the run or the patches change
pub agents_stay : (r : Rest) (run : List Plain) (patches : List Vars) → AreAgents r → AreAgents (record r { run = run; patches = patches })
agents_stay r run patches h = record {
  turtles = turtles_stay r run r.turtles patches r.links r.turtles_given r.links_given r.turtles (omega arith) h.turtles;
  turtles_ascend = h.turtles_ascend;
  links = links_stay r run r.turtles patches r.links r.turtles_given r.links_given r.links (λ serial a. a) (omega arith) h.links;
  links_ascend = h.links_ascend;
  links_differ = h.links_differ;
}

pub few_stay : (r : Rest) (run : List Plain) (patches : List Vars) → AreFew r → AreFew (record r { run = run; patches = patches })
few_stay r run patches h = record { turtles = h.turtles; turtles_given = h.turtles_given; links = h.links; links_given = h.links_given; base = h.base }

-- a world in which agents change
pub agents_changed : (w : World) (turtles : List Turtle) (links : List Link) (turtles_given links_given base : ℕ) → IsWorld w
    → AreAgents (record w.rest { turtles = turtles; links = links; turtles_given = turtles_given; links_given = links_given; base = base })
    → AreFew (record w.rest { turtles = turtles; links = links; turtles_given = turtles_given; links_given = links_given; base = base })
    → IsWorld (record w { rest = record w.rest { turtles = turtles; links = links; turtles_given = turtles_given; links_given = links_given; base = base } })
agents_changed w turtles links turtles_given links_given base h agents few = record {
  shape = h.shape;
  globals = h.globals;
  run = h.run;
  globals_fit = h.globals_fit;
  run_fits = h.run_fits;
  agents = agents;
  patches = record { many = h.patches.many; vars = h.patches.vars };
  few = few;
}
