-- A small world for tests: turtles 1 and 2 live, of which 2 is a fox, and links 1 to 4.
use Rattle.std.specs.Prelude.{ℕ, Bool, true, ◌||◌, ◌&&◌, ◌==◌, nat_le, if◌then◌else◌, [], ◌∷◌, codes}
use Rattle.std.specs.List.{filter}
use Rattle.nl_fixed.specs.Nouns.{Bytes}
use Rattle.nl_value.specs.Nouns.{Serials}
use Rattle.nl_value.specs.declared.sets.AgentSet.{AgentSet}
use Rattle.nl_value.specs.declared.sets.AgentSet.TheVariants.{Turtles, Breed, Patches, Links, LinkBreed, SomeTurtles, SomePatches, SomeLinks}
use Rattle.nl_value.specs.Plain.{Plain, PlainTurtle, PlainLink, PlainSet}
use Rattle.nl_value.specs.Living.{Living, LinkPlace}

abbrev pub small_turtle_lives : ℕ → Bool
small_turtle_lives n = n == 1 || n == 2

abbrev pub small_link_lives : ℕ → Bool
small_link_lives n = nat_le 1 n && nat_le n 4

abbrev pub small_members : AgentSet → Serials
small_members Turtles = 1 ∷ 2 ∷ []
small_members (Breed breed) = 2 ∷ []
small_members Patches = 0 ∷ []
small_members Links = 1 ∷ 2 ∷ 3 ∷ 4 ∷ []
small_members (LinkBreed breed) = 3 ∷ []
small_members (SomeTurtles numbers) = filter small_turtle_lives numbers
small_members (SomePatches numbers) = numbers
small_members (SomeLinks numbers) = filter small_link_lives numbers

abbrev pub small_place : ℕ → LinkPlace
small_place n =
    if n == 1 then record { end1 = 1; end2 = 2; breed = 0 } else
    if n == 3 then record { end1 = 0; end2 = 1; breed = 1 } else
    record { end1 = 0; end2 = 1; breed = 0 }

abbrev pub small_set_name : AgentSet → Bytes
small_set_name (Breed breed) = codes "(agentset, 1 foxes)"
small_set_name set = codes "(agentset, 2 turtles)"

abbrev pub small_name : Plain → Bytes
small_name (PlainTurtle n) = if n == 2 then codes "(fox 2)" else codes "(turtle 1)"
small_name (PlainLink n) = codes "(link 0 1)"
small_name (PlainSet set) = small_set_name set
small_name value = codes "(patch 1 -2)"

abbrev pub small_world : Living
small_world = record {
  turtle_lives = small_turtle_lives;
  link_lives = small_link_lives;
  members = small_members;
  link_place = small_place;
  name = small_name;
  patch_fits = λ patch. true;
  set_fits = λ set. true;
}
