-- Links that are cut one by one.
use Rattle.std.specs.Prelude.{◌≡◌, ℕ, ◌<◌, true, false, not, List, [], filter, find, length, Option, IsSome, IfSome}
use Rattle.std.specs.List.{list_any}
use Rattle.std.proofs.Common.{ap, ◌∙◌, sym, refl, subst}
use Rattle.std.proofs.lemmas.Bool.{not_from_true}
use Rattle.nl_agents.specs.Changes.{has_end, is_link, is_turtle}
use Rattle.nl_agents.specs.declared.agents.Link.{Link}
use Rattle.nl_agents.specs.declared.agents.Turtle.{Turtle}
use Rattle.nl_agents.proofs.Finding.{there}
use Rattle.nl_agents.proofs.Keyed.{filtered}
use Rattle.nl_store_files.specs.Agents.{link_serial, Agents}
use Rattle.nl_store.specs.Sound.{LinksAscend}
use Rattle.nl_store.proofs.Lists.{all-kept, passed-over, shorter}

-- only links are gone, and those of other turtles are as they were
pub record IsCut (turtle : ℕ) (start now : Agents) : Type 0 where
  pub rest : now ≡ record start { links = now.links }
  pub left : filter (λ l. not (has_end turtle l)) now.links ≡ filter (λ l. not (has_end turtle l)) start.links
  pub order : LinksAscend now.links

pub uncut : (turtle : ℕ) (start : Agents) → LinksAscend start.links → IsCut turtle start start
uncut turtle start up = record { rest = refl; left = refl; order = up }

-- the turtle lives on
pub lives-still : (turtle : ℕ) (start now : Agents) → IsCut turtle start now → IsSome (find (is_turtle turtle) start.turtles) → IsSome (find (is_turtle turtle) now.turtles)
lives-still turtle start now h lives = subst (λ (ts : List Turtle). IsSome (find (is_turtle turtle) ts)) (sym (ap (λ (a : Agents). a.turtles) h.rest)) lives

-- what a cut leaves
module _ (turtle link : ℕ) (start now after : Agents) (e : after ≡ record now { links = filter (λ l. not (is_link link l)) now.links }) where
  links-are : after.links ≡ filter (λ l. not (is_link link l)) now.links
  links-are = ap (λ (a : Agents). a.links) e

  pub cut-one : IsCut turtle start now → IsSome (find (is_link link) now.links) → IfSome (find (is_link link) now.links) (λ l. has_end turtle l ≡ true) → IsCut turtle start after
  cut-one h lives touches =
      let at = there (find (is_link link) now.links) lives in
      let ends = subst (λ (o : Option Link). IfSome o (λ l. has_end turtle l ≡ true)) at.1 touches in
      record {
        rest = e ∙ ap (λ (a : Agents). record a { links = filter (λ l. not (is_link link l)) now.links }) h.rest ∙ ap (λ (ls : List Link). record start { links = ls }) (sym links-are);
        left = ap (filter (λ l. not (has_end turtle l))) links-are
            ∙ passed-over link_serial (λ l. not (has_end turtle l)) now.links link at.0 h.order at.1 (not_from_true (has_end turtle at.0) ends)
            ∙ h.left;
        order = subst LinksAscend (sym links-are) (filtered link_serial (λ l. not (is_link link l)) now.links h.order);
      }

  -- there are fewer
  pub fewer-links : IsSome (find (is_link link) now.links) → length after.links < length now.links
  fewer-links lives = subst (λ (ls : List Link). length ls < length now.links) (sym links-are) (shorter (is_link link) now.links lives)

  -- and nothing else is changed
  pub only-links : now ≡ record start { links = now.links } → after ≡ record start { links = after.links }
  only-links rest = e ∙ ap (λ (a : Agents). record a { links = filter (λ l. not (is_link link l)) now.links }) rest ∙ ap (λ (ls : List Link). record start { links = ls }) (sym links-are)

pub all-cut : (turtle : ℕ) (start now : Agents) → IsCut turtle start now → list_any (has_end turtle) now.links ≡ false → now ≡ record start { links = filter (λ l. not (has_end turtle l)) start.links }
all-cut turtle start now h none =
    h.rest ∙ ap (λ (ls : List Link). record start { links = ls }) (sym (all-kept (has_end turtle) now.links none) ∙ h.left)

-- what is left of turtles
module _ (turtle : ℕ) (start now after : Agents) (e : after ≡ record now { turtles = filter (λ t. not (is_turtle turtle t)) now.turtles }) where
  turtles-are : after.turtles ≡ filter (λ t. not (is_turtle turtle t)) now.turtles
  turtles-are = ap (λ (a : Agents). a.turtles) e

  pub fewer-turtles : IsSome (find (is_turtle turtle) now.turtles) → length after.turtles < length now.turtles
  fewer-turtles lives = subst (λ (ts : List Turtle). length ts < length now.turtles) (sym turtles-are) (shorter (is_turtle turtle) now.turtles lives)

  pub only-turtles : now ≡ record start { turtles = now.turtles } → after ≡ record start { turtles = after.turtles }
  only-turtles rest = e ∙ ap (λ (a : Agents). record a { turtles = filter (λ t. not (is_turtle turtle t)) now.turtles }) rest ∙ ap (λ (ts : List Turtle). record start { turtles = ts }) (sym turtles-are)

-- a list without links has none of a turtle
pub none-of : (turtle : ℕ) (start now : Agents) → start.links ≡ [] → now ≡ record start { turtles = now.turtles } → list_any (has_end turtle) now.links ≡ false
none-of turtle start now none rest = ap (λ (a : Agents). list_any (has_end turtle) a.links) rest ∙ ap (list_any (has_end turtle)) none
