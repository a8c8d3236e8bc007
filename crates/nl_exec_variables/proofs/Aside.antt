-- Variables that are kept under no slot: what there is of an agent, and that it fits the world.
use Rattle.std.proofs.Common.{◌≡◌, ℕ, zero, suc, IsTrue, Option, Some, None, IfSome, option_map, refl, ap, ◌∙◌, sym, subst}
use Rattle.std.specs.Option.{option_and_then}
use Rattle.nl_value.specs.Plain.{Plain}
use Rattle.nl_grid.specs.Geometry.{patch_at}
use Rattle.nl_grid.specs.declared.point.Point.{Point}
use Rattle.nl_agents_layout.specs.Layouts.{is_turtle_breed, is_link_breed}
use Rattle.nl_agents.specs.World.{Rest, World}
use Rattle.nl_agents.specs.Changes.{turtle_of, link_of, is_link}
use Rattle.nl_agents.specs.Standing.{IsWorld, IsLinkOf}
use Rattle.nl_agents.specs.declared.agents.Turtle as the_turtle
use Rattle.nl_agents.specs.declared.agents.Link as the_link
use Rattle.nl_agents.specs.declared.agents.Owner.{Owner}
use Rattle.nl_agents.specs.declared.agents.Owner.TheVariants as owner
use Rattle.nl_agents.proofs.Finding.{found_all}
use Rattle.nl_agents.proofs.LivingMembers.{turtle_found}
use Rattle.nl_exec_meaning.specs.declared.words.Apart.{Apart}
use Rattle.nl_exec_meaning.specs.declared.words.Apart.TheVariants as apart
use Rattle.nl_exec_meaning.specs.Variables.{apart_value, of_patch, of_turtle, of_link, breed_set, link_breed_set}
use Rattle.nl_exec_meaning.specs.Ground.{ground_of, set_in, fits}

pub turtle_there : (w : World) (serial : ℕ) (t : the_turtle.Turtle) → IsWorld w → turtle_of serial w.rest ≡ Some t → t.serial ≡ serial
turtle_there w serial t stands is = (turtle_found w serial t stands is).0

pub on_patch : (which : Apart) (r : Rest) (o : Option the_turtle.Turtle) (at : Point) → ((t : the_turtle.Turtle) → of_turtle which r t ≡ of_patch which r (patch_at r.shape t.at)) →
    option_map (λ t. t.at) o ≡ Some at → of_patch which r (patch_at r.shape at) ≡ option_and_then (of_turtle which r) o
on_patch which r None at same is = absurd (cc)
on_patch which r (Some t) at same is = let here : t.at ≡ at = cc in sym (same t ∙ ap (λ (p : Point). of_patch which r (patch_at r.shape p)) here)

breed_fits : (r : Rest) (breed : ℕ) → IsTrue (is_turtle_breed r.layout breed) → IsTrue (fits (ground_of r) (breed_set breed))
unfolding set_in
breed_fits r zero is = refl
breed_fits r (suc n) is = is

link_breed_fits : (r : Rest) (breed : ℕ) → IsTrue (is_link_breed r.layout breed) → IsTrue (fits (ground_of r) (link_breed_set breed))
unfolding set_in
link_breed_fits r zero is = refl
link_breed_fits r (suc n) is = is

patch_fits : (which : Apart) (r : Rest) (patch : ℕ) → IfSome (of_patch which r patch) (λ value. IsTrue (fits (ground_of r) value))
patch_fits apart.Pxcor r patch = refl
patch_fits apart.Pycor r patch = refl
patch_fits apart.Who r patch = tt
patch_fits apart.Xcor r patch = tt
patch_fits apart.Ycor r patch = tt
patch_fits apart.Breed r patch = tt
patch_fits apart.End1 r patch = tt
patch_fits apart.End2 r patch = tt

turtle_fits : (which : Apart) (r : Rest) (t : the_turtle.Turtle) → IsTrue (is_turtle_breed r.layout t.breed) → IfSome (of_turtle which r t) (λ value. IsTrue (fits (ground_of r) value))
turtle_fits apart.Pxcor r t breed = refl
turtle_fits apart.Pycor r t breed = refl
turtle_fits apart.Who r t breed = refl
turtle_fits apart.Xcor r t breed = refl
turtle_fits apart.Ycor r t breed = refl
turtle_fits apart.Breed r t breed = breed_fits r t.breed breed
turtle_fits apart.End1 r t breed = tt
turtle_fits apart.End2 r t breed = tt

link_fits : (which : Apart) (r : Rest) (l : the_link.Link) → IsTrue (is_link_breed r.layout l.breed) → IfSome (of_link which l) (λ value. IsTrue (fits (ground_of r) value))
link_fits apart.Pxcor r l breed = tt
link_fits apart.Pycor r l breed = tt
link_fits apart.Who r l breed = tt
link_fits apart.Xcor r l breed = tt
link_fits apart.Ycor r l breed = tt
link_fits apart.Breed r l breed = link_breed_fits r l.breed breed
link_fits apart.End1 r l breed = refl
link_fits apart.End2 r l breed = refl

all_fit : (w : World) (which : Apart) (agent : Owner) → IsWorld w → IfSome (apart_value w.rest which agent) (λ value. IsTrue (fits (ground_of w.rest) value))
all_fit w which owner.Observer stands = tt
all_fit w which (owner.Patch patch) stands = patch_fits which w.rest patch
all_fit w which (owner.Turtle turtle) stands = by (turtle_of turtle w.rest) refl
  where
    by : (o : Option the_turtle.Turtle) → turtle_of turtle w.rest ≡ o → IfSome (option_and_then (of_turtle which w.rest) o) (λ value. IsTrue (fits (ground_of w.rest) value))
    by None is = tt
    by (Some t) is = turtle_fits which w.rest t (turtle_found w turtle t stands is).1.breed
all_fit w which (owner.Link link) stands = by (link_of link w.rest) refl
  where
    by : (o : Option the_link.Link) → link_of link w.rest ≡ o → IfSome (option_and_then (of_link which) o) (λ value. IsTrue (fits (ground_of w.rest) value))
    by None is = tt
    by (Some l) is = link_fits which w.rest l (found_all (is_link link) (IsLinkOf w.rest) w.rest.links l stands.agents.links is).breed

pub aside_fits : (w : World) (which : Apart) (agent : Owner) (value : Plain) → IsWorld w → Some value ≡ apart_value w.rest which agent → IsTrue (fits (ground_of w.rest) value)
aside_fits w which agent value stands is =
    subst (λ (o : Option Plain). IfSome o (λ v. IsTrue (fits (ground_of w.rest) v))) (sym is) (all_fit w which agent stands)
