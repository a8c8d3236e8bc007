-- The definitions at examples, by the codes of words, over a small world: five patches wide and going on behind its left and right side, five
-- high and closed above and below.
use Rattle.std.proofs.Common.{◌≡◌, ℕ, ◌*◌, ℤ, pos, neg_ℤ, Bool, true, false, Some, None, Ok, Err, List, [], ◌∷◌, refl}
use Rattle.std.specs.Prelude.{replicate}
use Rattle.nl_fixed.specs.Numbers.{one, as_number, rounded_quotient, sum_of}
use Rattle.nl_fixed.specs.Sines.{heading_of}
use Rattle.nl_value.specs.Plain.{Plain, PlainNumber, PlainTruth, PlainItems, PlainTurtle, PlainPatch, PlainLink, PlainNobody, PlainSet, plains}
use Rattle.nl_value.specs.declared.sets.AgentSet.TheVariants as set
use Rattle.nl_grid.specs.Geometry.{plane_of, moved_inside, wrapped, wrapped_point, point_beside, number_of_patch, patch_at, axis_offset, heading_between}
use Rattle.nl_grid.specs.declared.point.Point.{Point}
use Rattle.nl_draw.specs.Stream.{first_state, next_state, word_of, state_after, words_from, drawn, shuffled, shuffled_from, chosen}
use Rattle.nl_words.specs.declared.codes.TheConstants as code
use Rattle.nl_words.specs.Row.{Code}
use Rattle.nl_agents_layout.specs.Nouns.{BreedNumber}
use Rattle.nl_agents.specs.World.{Rest}
use Rattle.nl_agents_layout.specs.declared.layout.Layout.{Layout}
use Rattle.nl_agents.specs.declared.agents.Turtle as the_turtle
use Rattle.nl_agents.specs.declared.agents.Link as the_link
use Rattle.nl_agents.specs.declared.agents.Owner.{Owner}
use Rattle.nl_agents.specs.declared.agents.Owner.TheVariants as owner
use Rattle.nl_agentset_query.specs.declared.fail.QueryFail.TheVariants.{WrongType, NoAgent, OutOfWorld, SamePoint, Overflow, Domain, TooFew}
use Rattle.nl_agentset_query.specs.Outcomes.{QueryOutcome, outcome_map}
use Rattle.nl_agentset_query.specs.Words.{query_word}
use Rattle.nl_agentset.specs.Queries.{queried}
use Rattle.nl_agentset.specs.Reads.{few_reads_by}

-- ---- the world

abbrev layout : Layout
layout = record {
  globals = 0;
  coded = [];
  slots = 2;
  every_turtle = 0 ∷ 1 ∷ [];
  every_patch = [];
  every_link = [];
  some_turtle = 0 ∷ 1 ∷ [];
  some_link = [];
  breeds = [];
}

abbrev at : ℤ → ℤ → Point
at x y = record { x = x; y = y }

abbrev turtle : ℕ → BreedNumber → Point → ℤ → the_turtle.Turtle
turtle serial breed place heading = record {
  serial = serial;
  breed = breed;
  at = place;
  vars = Some (PlainNumber (pos 0)) ∷ Some (PlainNumber heading) ∷ [];
}

abbrev link : ℕ → BreedNumber → Bool → ℕ → ℕ → the_link.Link
link serial breed directed end1 end2 = record { serial = serial; breed = breed; directed = directed; end1 = end1; end2 = end2; vars = [] }

-- Turtle 0 has the serial 2, is of no breed and stands at 2 0; turtles 1 and 3 are of breed 1, at -2 0 and at 0.4 -1.2; the turtle of the
-- serial 4 has died. Links of breed 3 have a direction, those of no breed and of breed 2 have none.
abbrev world : Rest
world = record {
  shape = plane_of (neg_ℤ (pos 2)) (pos 2) (neg_ℤ (pos 2)) (pos 2) true false;
  layout = layout;
  run = [];
  turtles =
      turtle 2 0 (at (pos 2_000_000) (pos 0)) (pos 90_000_000)
      ∷ turtle 3 1 (at (neg_ℤ (pos 2_000_000)) (pos 0)) (pos 0)
      ∷ turtle 5 1 (at (pos 400_000) (neg_ℤ (pos 1_200_000))) (pos 0)
      ∷ [];
  patches = replicate 25 [];
  links = link 0 3 true 5 2 ∷ link 1 3 true 2 5 ∷ link 2 2 false 2 3 ∷ link 3 0 false 2 3 ∷ [];
  turtles_given = 6;
  links_given = 5;
  base = 2;
}

-- ---- values and answers

abbrev n : ℕ → Plain
n whole = PlainNumber (pos (whole * one))

abbrev minus : ℕ → Plain
minus whole = PlainNumber (neg_ℤ (pos (whole * one)))

abbrev l : List Plain → Plain
l items = PlainItems (plains items)

abbrev turtles : List ℕ → Plain
turtles numbers = PlainSet (set.SomeTurtles numbers)

abbrev patches : List ℕ → Plain
patches numbers = PlainSet (set.SomePatches numbers)

abbrev links : List ℕ → Plain
links numbers = PlainSet (set.SomeLinks numbers)

abbrev all : Plain
all = PlainSet set.Turtles

abbrev zero_turtle : Owner
zero_turtle = owner.Turtle 2

-- what a word answers turtle 0, and what it answers in the form of a breed
abbrev gives : Code → List Plain → QueryOutcome Plain
gives word inputs = outcome_map (λ answer. answer.0) (queried world word None zero_turtle inputs 0)

abbrev bred : BreedNumber → Code → List Plain → QueryOutcome Plain
bred breed word inputs = outcome_map (λ answer. answer.0) (queried world word (Some breed) zero_turtle inputs 0)

-- ---- sets and names

turtles_are_all : gives code.TURTLES [] ≡ Ok all
turtles_are_all = refl

a_breed_is_a_set : bred 1 code.TURTLES [] ≡ Ok (PlainSet (set.Breed 1))
a_breed_is_a_set = refl

turtles_are_called_from_the_base_on : gives code.TURTLE (n 3 ∷ []) ≡ Ok (PlainTurtle 5)
turtles_are_called_from_the_base_on = refl

a_dead_turtle_is_not_found : gives code.TURTLE (n 2 ∷ []) ≡ Ok PlainNobody
a_dead_turtle_is_not_found = refl

a_negative_name_is_nobodys : gives code.TURTLE (minus 1 ∷ []) ≡ Ok PlainNobody
a_negative_name_is_nobodys = refl

half_a_turtle_is_of_the_wrong_kind : gives code.TURTLE (PlainNumber (pos 500_000) ∷ []) ≡ Err WrongType
half_a_turtle_is_of_the_wrong_kind = refl

a_turtle_of_another_breed_is_of_the_wrong_kind : bred 1 code.TURTLE (n 0 ∷ []) ≡ Err WrongType
a_turtle_of_another_breed_is_of_the_wrong_kind = refl

no_turtle_of_a_breed_is_nobody : bred 1 code.TURTLE (n 7 ∷ []) ≡ Ok PlainNobody
no_turtle_of_a_breed_is_nobody = refl

a_link_is_found_either_way_round : gives code.LINK (n 1 ∷ n 0 ∷ []) ≡ Ok (PlainLink 3)
a_link_is_found_either_way_round = refl

a_directed_link_is_found_one_way : bred 3 code.LINK (n 3 ∷ n 0 ∷ []) ≡ Ok (PlainLink 0)
a_directed_link_is_found_one_way = refl

an_unbred_link_is_no_wire : gives code.LINK (n 0 ∷ n 3 ∷ []) ≡ Ok PlainNobody
an_unbred_link_is_no_wire = refl

a_dead_turtle_is_of_no_breed : bred 1 code.IS_TURTLE (PlainTurtle 4 ∷ []) ≡ Ok (PlainTruth false)
a_dead_turtle_is_of_no_breed = refl

others_are_all_but_the_caller : gives code.OTHER (all ∷ []) ≡ Ok (turtles (3 ∷ 5 ∷ []))
others_are_all_but_the_caller = refl

dead_members_are_not_counted : gives code.COUNT (turtles (2 ∷ 4 ∷ 5 ∷ []) ∷ []) ≡ Ok (n 2)
dead_members_are_not_counted = refl

nobody_is_no_set : gives code.COUNT (PlainNobody ∷ []) ≡ Err WrongType
nobody_is_no_set = refl

a_set_of_the_dead_has_no_members : gives code.ANY (turtles (4 ∷ []) ∷ []) ≡ Ok (PlainTruth false)
a_set_of_the_dead_has_no_members = refl

a_union_has_each_member_once : gives code.TURTLE_SET (l (PlainTurtle 5 ∷ l (PlainSet (set.Breed 1) ∷ []) ∷ []) ∷ PlainNobody ∷ PlainTurtle 4 ∷ PlainLink 4 ∷ []) ≡ Ok (turtles (3 ∷ 5 ∷ []))
a_union_has_each_member_once = refl

a_union_of_turtles_takes_no_patch : gives code.TURTLE_SET (PlainPatch 3 ∷ []) ≡ Err WrongType
a_union_of_turtles_takes_no_patch = refl

a_union_of_turtles_takes_no_empty_set_of_links : gives code.TURTLE_SET (links [] ∷ []) ≡ Err WrongType
a_union_of_turtles_takes_no_empty_set_of_links = refl

-- ---- links

links_of_all_breeds : gives code.MY_LINKS [] ≡ Ok (links (0 ∷ 1 ∷ 2 ∷ 3 ∷ []))
links_of_all_breeds = refl

links_that_lead_to_the_caller : gives code.MY_IN_LINKS [] ≡ Ok (links (0 ∷ 2 ∷ 3 ∷ []))
links_that_lead_to_the_caller = refl

wires_that_lead_from_the_caller : bred 3 code.MY_OUT_LINKS [] ≡ Ok (links (1 ∷ []))
wires_that_lead_from_the_caller = refl

neighbors_of_a_breed : bred 2 code.LINK_NEIGHBORS [] ≡ Ok (turtles (3 ∷ []))
neighbors_of_a_breed = refl

a_neighbor_is_one_by_any_breed : gives code.OUT_LINK_NEIGHBOR (PlainTurtle 5 ∷ []) ≡ Ok (PlainTruth true)
a_neighbor_is_one_by_any_breed = refl

a_patch_is_no_neighbor : gives code.LINK_NEIGHBOR (PlainPatch 0 ∷ []) ≡ Ok (PlainTruth false)
a_patch_is_no_neighbor = refl

a_dead_turtle_is_no_agent : gives code.LINK_WITH (PlainTurtle 4 ∷ []) ≡ Err NoAgent
a_dead_turtle_is_no_agent = refl

-- the link of no breed comes first in the order of links, although it was made last
the_least_link_is_not_the_first : gives code.LINK_WITH (PlainTurtle 3 ∷ []) ≡ Ok (PlainLink 3)
the_least_link_is_not_the_first = refl

-- the link from the caller comes before the one to it, which was made first
the_least_link_goes_by_its_ends : gives code.LINK_WITH (PlainTurtle 5 ∷ []) ≡ Ok (PlainLink 1)
the_least_link_goes_by_its_ends = refl

no_link_to_itself : gives code.LINK_WITH (PlainTurtle 2 ∷ []) ≡ Ok PlainNobody
no_link_to_itself = refl

ends_in_order : outcome_map (λ answer. answer.0) (queried world code.BOTH_ENDS None (owner.Link 0) [] 0) ≡ Ok (turtles (2 ∷ 5 ∷ []))
ends_in_order = refl

-- ---- places

a_negative_radius : gives code.IN_RADIUS (all ∷ minus 1 ∷ []) ≡ Err Domain
a_negative_radius = refl

links_are_in_no_radius : gives code.IN_RADIUS (links [] ∷ minus 1 ∷ []) ≡ Err WrongType
links_are_in_no_radius = refl

no_direction_to_itself : gives code.TOWARDS (PlainTurtle 2 ∷ []) ≡ Err SamePoint
unfolding heading_between axis_offset heading_of
no_direction_to_itself = refl

no_distance_to_a_link : gives code.DISTANCE (PlainLink 0 ∷ []) ≡ Err WrongType
no_distance_to_a_link = refl

a_point_above_the_world : gives code.DISTANCEXY (n 0 ∷ n 3 ∷ []) ≡ Err OutOfWorld
unfolding wrapped_point wrapped moved_inside
a_point_above_the_world = refl

turtles_of_a_breed_on_a_patch : bred 1 code.TURTLES_ON (PlainTurtle 5 ∷ []) ≡ Ok (turtles (5 ∷ []))
unfolding patch_at number_of_patch rounded_quotient
turtles_of_a_breed_on_a_patch = refl

turtles_on_nobody : gives code.TURTLES_ON (PlainNobody ∷ []) ≡ Err NoAgent
turtles_on_nobody = refl

turtles_at_an_offset_behind_the_side : gives code.TURTLES_AT (n 1 ∷ n 0 ∷ []) ≡ Ok (turtles (3 ∷ []))
unfolding patch_at number_of_patch rounded_quotient point_beside sum_of as_number wrapped_point wrapped moved_inside
turtles_at_an_offset_behind_the_side = refl

members_at_offsets : gives code.AT_POINTS (all ∷ l (l (n 0 ∷ n 0 ∷ []) ∷ l (n 0 ∷ n 9 ∷ []) ∷ []) ∷ []) ≡ Ok (turtles (2 ∷ []))
unfolding patch_at number_of_patch rounded_quotient point_beside sum_of as_number wrapped_point wrapped moved_inside
members_at_offsets = refl

offsets_are_judged_before_any_is_used : gives code.AT_POINTS (all ∷ l (l (n 9_000_000_000_000 ∷ n 0 ∷ []) ∷ n 3 ∷ []) ∷ []) ≡ Err WrongType
offsets_are_judged_before_any_is_used = refl

an_offset_out_of_range : gives code.PATCH_AT (n 9_000_000_000_000 ∷ n 0 ∷ []) ≡ Err Overflow
unfolding point_beside sum_of as_number
an_offset_out_of_range = refl

nobody_outside : gives code.PATCH_AT (n 0 ∷ n 3 ∷ []) ≡ Ok PlainNobody
unfolding point_beside sum_of as_number wrapped_point wrapped moved_inside
nobody_outside = refl

-- ---- what is read at most

abbrev reads : Code → List Plain → ℕ
reads word inputs = few_reads_by world zero_turtle (query_word word) inputs

each_link_of_the_caller_is_read : reads code.MY_LINKS [] ≡ 5
each_link_of_the_caller_is_read = refl

a_link_is_sought_among_those_of_its_first_end : reads code.LINK (n 1 ∷ n 0 ∷ []) ≡ 3
a_link_is_sought_among_those_of_its_first_end = refl

no_link_of_nobody_is_sought : reads code.LINK (n 2 ∷ n 0 ∷ []) ≡ 0
no_link_of_nobody_is_sought = refl

turtles_on_patches_of_turtles : reads code.TURTLES_ON (all ∷ []) ≡ 10
unfolding patch_at number_of_patch rounded_quotient
turtles_on_patches_of_turtles = refl

turtles_on_listed_patches : reads code.TURTLES_ON (patches (0 ∷ 1 ∷ []) ∷ []) ≡ 2
unfolding patch_at number_of_patch rounded_quotient
turtles_on_listed_patches = refl

turtles_at_an_offset : reads code.TURTLES_AT (n 1 ∷ n 0 ∷ []) ≡ 2
unfolding patch_at number_of_patch rounded_quotient point_beside sum_of as_number wrapped_point wrapped moved_inside
turtles_at_an_offset = refl

no_turtles_outside : reads code.TURTLES_AT (n 0 ∷ n 3 ∷ []) ≡ 0
unfolding point_beside sum_of as_number wrapped_point wrapped moved_inside
no_turtles_outside = refl

members_are_listed_for_offsets : reads code.AT_POINTS (all ∷ l [] ∷ []) ≡ 4
members_are_listed_for_offsets = refl

members_are_listed_once_for_a_choice : reads code.N_OF (n 2 ∷ all ∷ []) ≡ 4
members_are_listed_once_for_a_choice = refl

each_set_of_a_union_is_listed : reads code.TURTLE_SET (all ∷ l (all ∷ PlainTurtle 2 ∷ []) ∷ []) ≡ 8
each_set_of_a_union_is_listed = refl

-- ---- choices

a_choice_among_none : gives code.ONE_OF (turtles (4 ∷ []) ∷ []) ≡ Ok PlainNobody
unfolding chosen
a_choice_among_none = refl

an_item_of_none : gives code.ONE_OF (l [] ∷ []) ≡ Err TooFew
unfolding chosen
an_item_of_none = refl

fewer_than_wanted : gives code.N_OF (n 4 ∷ all ∷ []) ≡ Err TooFew
fewer_than_wanted = refl

as_many_as_there_are : gives code.UP_TO_N_OF (n 4 ∷ turtles (2 ∷ 4 ∷ []) ∷ []) ≡ Ok (turtles (2 ∷ []))
unfolding shuffled shuffled_from
as_many_as_there_are = refl

less_than_none : gives code.N_OF (PlainNumber (neg_ℤ (pos 500_000)) ∷ l [] ∷ []) ≡ Err Domain
less_than_none = refl

-- the first places of a shuffle of seed 42 are 2, 1 and 0, so the last of three is kept, and then the last two in their order
last_of_three : outcome_map (λ answer. answer.0) (queried world code.N_OF None zero_turtle (PlainNumber (pos 1_900_000) ∷ l (n 1 ∷ n 2 ∷ n 3 ∷ []) ∷ []) (first_state 42)) ≡ Ok (l (n 3 ∷ []))
unfolding first_state next_state word_of state_after words_from drawn shuffled shuffled_from
last_of_three = refl

last_two_in_order : outcome_map (λ answer. answer.0) (queried world code.N_OF None zero_turtle (n 2 ∷ all ∷ []) (first_state 42)) ≡ Ok (turtles (3 ∷ 5 ∷ []))
unfolding first_state next_state word_of state_after words_from drawn shuffled shuffled_from
last_two_in_order = refl
