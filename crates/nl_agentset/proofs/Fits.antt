-- What queries answer fits the world.
use Rattle.std.specs.Prelude.{◌≡◌, ℕ, ℤ, pos, ◌<◌, ◌||◌, int_lt, Bool, true, false, if◌then◌else◌, List, filter, All, Option, Some, None, Result, Ok, Err, IfOk, IsTrue, refl}
use Rattle.std.proofs.Common.{ap, subst, get_or, arith}
use Rattle.std.proofs.lemmas.Bool.{lt-ltb}
use Rattle.std.proofs.lemmas.Int.{ints}
use Rattle.std.proofs.lemmas.List.Elements.{All-filter, All-contains_itself}
use Rattle.std.proofs.lemmas.List.Sums.{list_all-from_AllPass}
use Rattle.nl_fixed.specs.Numbers.{sum_of}
use Rattle.nl_fixed.specs.declared.number.NumFault.{NumFault}
use Rattle.nl_value.specs.Nouns.{Serials}
use Rattle.nl_value.specs.Sets.{set_kind}
use Rattle.nl_value.specs.Plain.{Plain, PlainNumber, PlainTurtle, PlainPatch, PlainSet, plains}
use Rattle.nl_value.specs.declared.sets.AgentKind.{AgentKind}
use Rattle.nl_value.specs.declared.sets.AgentKind.TheVariants as kind
use Rattle.nl_value.specs.declared.sets.AgentSet.{AgentSet}
use Rattle.nl_value.specs.declared.sets.AgentSet.TheVariants as set
use Rattle.nl_grid.specs.Geometry.{Plane, IsAxis, IsWithinLimits, IsInside, IsPointOf, patches_of, patch_at, wrapped, wrapped_point, point_of_both, point_beside, point_of_sums, point_ahead, neighbors_of, neighbors4_of}
use Rattle.nl_grid.specs.declared.axis.Axis.{Axis}
use Rattle.nl_grid.specs.declared.point.Point.{Point}
use Rattle.nl_grid.proofs.AxisLemmas.{wrapped_lies_inside}
use Rattle.nl_grid.proofs.CoverLemmas.{patch_at_below}
use Rattle.nl_grid.proofs.LawLemmas.{neighbors_are_others}
use Rattle.nl_agents_layout.specs.Nouns.{BreedNumber}
use Rattle.nl_agents.specs.World.{Rest, World}
use Rattle.nl_agents.specs.Changes.{OwnerLives, turtle_of, link_of}
use Rattle.nl_agents.specs.Members.{members_of, is_listed}
use Rattle.nl_agents.specs.Names.{patch_fits}
use Rattle.nl_agents.specs.Standing.{IsWorld, fits_rest}
use Rattle.nl_agents.specs.declared.agents.Turtle as the_turtle
use Rattle.nl_agents.specs.declared.agents.Link as the_link
use Rattle.nl_agents.specs.declared.agents.Owner.{Owner}
use Rattle.nl_agents.specs.declared.agents.Owner.TheVariants as owner
use Rattle.nl_agents.proofs.LivingMembers.{turtle_found}
use Rattle.nl_agentset_query.specs.Agents.{agent_or_nobody, listed_value, is_of, own_patch, place_of, heading_in, origin, point_of}
use Rattle.nl_agentset_query.specs.Inputs.{value_at, number_at, set_at, list_at, agent_at, standing_set_at, point_at}
use Rattle.nl_agentset_query.specs.Outcomes.{QueryOutcome, and_then, outcome_map, summed, or_fail}
use Rattle.nl_agentset_query.specs.declared.fail.QueryFail.{QueryFail}
use Rattle.nl_agentset_query.specs.declared.fail.QueryFail.TheVariants.{WrongType, Domain, SamePoint}
use Rattle.nl_agentset_query.specs.declared.words.QueryWord.{QueryWord}
use Rattle.nl_agentset_query.specs.declared.words.QueryWord.TheVariants as word
use Rattle.nl_agentset_query.specs.declared.words.Whole.{Whole}
use Rattle.nl_agentset_query.specs.declared.words.Whole.TheVariants as whole
use Rattle.nl_agentset_query.specs.declared.words.LookUp.{LookUp}
use Rattle.nl_agentset_query.specs.declared.words.LookUp.TheVariants as look_up
use Rattle.nl_agentset_query.specs.declared.words.OfSet.{OfSet}
use Rattle.nl_agentset_query.specs.declared.words.OfSet.TheVariants as of_set
use Rattle.nl_agentset_query.specs.declared.words.Standing.{Standing}
use Rattle.nl_agentset_query.specs.declared.words.Standing.TheVariants as standing
use Rattle.nl_agentset_query.specs.declared.words.Around.{Around}
use Rattle.nl_agentset_query.specs.declared.words.Around.TheVariants as which_around
use Rattle.nl_agentset_query.specs.declared.words.PatchBy.{PatchBy}
use Rattle.nl_agentset_query.specs.declared.words.PatchBy.TheVariants as patch_by
use Rattle.nl_agentset_query.specs.declared.words.Facing.{Facing}
use Rattle.nl_agentset_query.specs.declared.words.Facing.TheVariants as facing
use Rattle.nl_agentset_query.specs.declared.words.Measure.{Measure}
use Rattle.nl_agentset_query.specs.declared.words.Measure.TheVariants as measure
use Rattle.nl_agentset_query.specs.declared.words.OfEnds.{OfEnds}
use Rattle.nl_agentset_query.specs.declared.words.OfEnds.TheVariants as of_ends
use Rattle.nl_agentset_query.specs.declared.words.Side.{Side}
use Rattle.nl_agentset.specs.Links.{own_links, own_neighbors, neighbor_tested, link_told, link_found, of_link_found, ends_told}
use Rattle.nl_agentset.specs.Places.{bred_on, patches_of_value, patch_found, patch_beside, patch_ahead, offsets_in, patches_at, members_on, near_caller, in_cone_of_caller, standing_by, patches_around, turned_by, turned_ahead, patch_reached, faced, measured, measured_to_xy}
use Rattle.nl_agentset.specs.Queries.{told, word_breed_fits}
use Rattle.nl_agentset.specs.Sets.{whole_set, whole_or_wrong, turtle_named, bred_or_wrong, turtle_called, link_called, looked_up, of_agents}
use Rattle.nl_agentset_query.specs.Unions.{all_united, union_of}
use Rattle.nl_agentset_query.proofs.Inside.{patch_members}

-- ---- outcomes of one step after another

then_so : {X Y : Type 0} (P : Y → Type 0) (o : QueryOutcome X) (f : X → QueryOutcome Y) → ((x : X) → IfOk (f x) P) → IfOk (and_then o f) P
then_so P (Ok x) f each = each x
then_so P (Err fail) f each = tt

map_so : {X Y : Type 0} (P : Y → Type 0) (o : QueryOutcome X) (f : X → Y) → IfOk o (λ x. P (f x)) → IfOk (outcome_map f o) P
map_so P (Ok x) f is = is
map_so P (Err fail) f is = tt

each_so : {X Y : Type 0} (P : Y → Type 0) (o : QueryOutcome X) (f : X → Y) → ((x : X) → P (f x)) → IfOk (outcome_map f o) P
each_so P (Ok x) f each = each x
each_so P (Err fail) f each = tt

unless_so : {Y : Type 0} (P : Y → Type 0) (b : Bool) (fail : QueryFail) (y : Y) → P y → IfOk (if b then Err fail else Ok y) P
unless_so P true fail y is = tt
unless_so P false fail y is = is

when_so : {Y : Type 0} (P : Y → Type 0) (b : Bool) (fail : QueryFail) (y : Y) → P y → IfOk (if b then Ok y else Err fail) P
when_so P true fail y is = is
when_so P false fail y is = tt

-- ---- points that were found

both_inside : (plane : Plane) (x y : ℤ) (a b : Option ℤ) (at : Point) → IsWithinLimits plane → wrapped plane.x x ≡ a → wrapped plane.y y ≡ b → point_of_both a b ≡ Some at → IsPointOf plane at
both_inside plane x y (Some i) (Some j) at few one two is =
    let same : record { x = i; y = j } ≡ at = cc in
    subst (IsPointOf plane) same (record { x = wrapped_lies_inside plane.x x i few.x one; y = wrapped_lies_inside plane.y y j few.y two })
both_inside plane x y (Some i) None at few one two is = cc
both_inside plane x y None b at few one two is = cc

wrapped_inside : (plane : Plane) (x y : ℤ) (at : Point) → IsWithinLimits plane → wrapped_point plane x y ≡ Some at → IsPointOf plane at
unfolding wrapped_point
wrapped_inside plane x y at few is = both_inside plane x y (wrapped plane.x x) (wrapped plane.y y) at few refl refl is

beside_inside : (plane : Plane) (from : Point) (dx dy : ℤ) (at : Point) → IsWithinLimits plane → point_beside plane from dx dy ≡ Ok (Some at) → IsPointOf plane at
unfolding point_beside
beside_inside plane from dx dy at few is = by (sum_of from.x dx) (sum_of from.y dy) is
  where
    by : (a b : Result ℤ NumFault) → point_of_sums plane a b ≡ Ok (Some at) → IsPointOf plane at
    by (Ok x) (Ok y) is = let same : wrapped_point plane x y ≡ Some at = cc in wrapped_inside plane x y at few same
    by (Ok x) (Err fault) is = cc
    by (Err fault) b is = cc

ahead_inside : (plane : Plane) (from : Point) (heading distance : ℤ) (at : Point) → IsWithinLimits plane → point_ahead plane from heading distance ≡ Ok (Some at) → IsPointOf plane at
unfolding point_ahead
ahead_inside plane from heading distance at few is = beside_inside plane from _ _ at few is

zero_inside : (axis : Axis) → IsAxis axis → IsInside axis (pos 0)
zero_inside axis stands = omega (arith, ints, stands.low, stands.high)

-- ---- the words, in a world

module _ (w : World) (world : IsWorld w) where
  abbrev r : Rest
  r = w.rest

  abbrev Fits : Plain → Type 0
  Fits p = fits_rest r p ≡ true

  -- a patch or none
  abbrev Below : Option ℕ → Type 0
  Below found = Fits (agent_or_nobody kind.Patch found)

  below : (patch : ℕ) → patch < patches_of r.shape → Fits (PlainPatch patch)
  below patch inside = lt-ltb patch (patches_of r.shape) inside

  below_at : (at : Point) → IsPointOf r.shape at → Fits (PlainPatch (patch_at r.shape at))
  below_at at inside = below (patch_at r.shape at) (patch_at_below r.shape at world.shape inside)

  found_below : (o : Option Point) → ((at : Point) → o ≡ Some at → IsPointOf r.shape at) → Below (patch_found r.shape o)
  found_below None inside = refl
  found_below (Some at) inside = below_at at (inside at refl)

  summed_below : (s : Result (Option Point) NumFault) → ((at : Point) → s ≡ Ok (Some at) → IsPointOf r.shape at) → IfOk (outcome_map (patch_found r.shape) (summed s)) Below
  summed_below (Ok o) inside = found_below o (λ at is. inside at (ap Ok is))
  summed_below (Err fault) inside = tt

  beside_below : (caller : Owner) (dx dy : ℤ) → IfOk (patch_beside r caller dx dy) Below
  beside_below caller dx dy =
      summed_below (point_beside r.shape (place_of r caller) dx dy) (λ at is. beside_inside r.shape (place_of r caller) dx dy at world.shape is)

  ahead_below : (caller : Owner) (heading distance : ℤ) → IfOk (patch_ahead r caller heading distance) Below
  ahead_below caller heading distance =
      summed_below (point_ahead r.shape (place_of r caller) heading distance) (λ at is. ahead_inside r.shape (place_of r caller) heading distance at world.shape is)

  -- sets
  patches_fit : (numbers : Serials) → All (λ patch. patch < patches_of r.shape) numbers → Fits (PlainSet (set.SomePatches numbers))
  patches_fit numbers inside =
      list_all-from_AllPass (patch_fits r) numbers (λ k z here. lt-ltb (get_or numbers k z) (patches_of r.shape) (inside k z here))

  filtered_fits : (agents : AgentSet) (test : ℕ → Bool) → Fits (listed_value (set_kind agents) (filter test (members_of r agents)))
  filtered_fits agents test = by (set_kind agents) refl
    where
      by : (which : AgentKind) → set_kind agents ≡ which → Fits (listed_value which (filter test (members_of r agents)))
      by kind.Turtle is = refl
      by kind.Patch is = patches_fit (filter test (members_of r agents)) (All-filter test (λ patch. patch < patches_of r.shape) (members_of r agents) (patch_members r agents is))
      by kind.Link is = refl

  turtles_fit : (number : Option ℕ) → Fits (agent_or_nobody kind.Turtle number)
  turtles_fit None = refl
  turtles_fit (Some number) = refl

  links_fit : (number : Option ℕ) → Fits (agent_or_nobody kind.Link number)
  links_fit None = refl
  links_fit (Some number) = refl

  -- ---- sets, and agents by what they are called

  whole_fits : (which : Whole) (breed : Option BreedNumber) → IsTrue (word_breed_fits r.layout (word.Whole which) breed) → Fits (PlainSet (whole_set which breed))
  whole_fits whole.Turtles None is = refl
  whole_fits whole.Turtles (Some breed) is = is
  whole_fits whole.Patches breed is = refl
  whole_fits whole.Links None is = refl
  whole_fits whole.Links (Some breed) is = is
  whole_fits whole.NoTurtles breed is = refl
  whole_fits whole.NoPatches breed is = refl
  whole_fits whole.NoLinks breed is = refl

  bred_fits : (breed : Option BreedNumber) (o : Option the_turtle.Turtle) → IfOk (bred_or_wrong breed o) Fits
  bred_fits breed None = refl
  bred_fits breed (Some t) = when_so Fits (is_of breed t.breed) WrongType (PlainTurtle t.serial) refl

  looked_up_fits : (which : LookUp) (breed : Option BreedNumber) (inputs : List Plain) → IfOk (looked_up r which breed inputs) Fits
  looked_up_fits look_up.Turtle breed inputs =
      then_so Fits (number_at inputs 0) (turtle_called r breed) (λ number.
      then_so Fits (whole_or_wrong number) (λ n. bred_or_wrong breed (turtle_named r n)) (λ n. bred_fits breed (turtle_named r n)))
  looked_up_fits look_up.Patch breed inputs =
      then_so Fits (number_at inputs 0) _ (λ x. then_so Fits (number_at inputs 1) _ (λ y.
      found_below (wrapped_point r.shape x y) (λ at is. wrapped_inside r.shape x y at world.shape is)))
  looked_up_fits look_up.Link breed inputs =
      then_so Fits (number_at inputs 0) _ (λ first. then_so Fits (number_at inputs 1) (link_called r breed first) (λ second.
      then_so Fits (whole_or_wrong first) _ (λ a. then_so Fits (whole_or_wrong second) _ (λ b. links_fit _))))

  of_agents_fits : (caller : Owner) (which : OfSet) (agents : AgentSet) → Fits (of_agents r caller which agents)
  of_agents_fits caller of_set.Other agents = filtered_fits agents _
  of_agents_fits caller of_set.Count agents = refl
  of_agents_fits caller of_set.Any agents = refl

  union_fits : (which : AgentKind) (inputs : List Plain) → IfOk (union_of r which (plains inputs)) Fits
  union_fits kind.Turtle inputs = then_so Fits (all_united r kind.Turtle (plains inputs)) _ (λ numbers. refl)
  union_fits kind.Patch inputs = then_so Fits (all_united r kind.Patch (plains inputs)) _ (λ numbers. filtered_fits set.Patches (is_listed numbers))
  union_fits kind.Link inputs = then_so Fits (all_united r kind.Link (plains inputs)) _ (λ numbers. refl)

  -- ---- agents by where they stand

  near_fits : (caller : Owner) (agents : AgentSet) (radius : ℤ) → IfOk (near_caller r caller agents radius) Fits
  near_fits caller agents radius = unless_so Fits (int_lt radius (pos 0)) Domain _ (filtered_fits agents _)

  cone_fits : (caller : Owner) (agents : AgentSet) (radius angle : ℤ) → IfOk (in_cone_of_caller r caller agents radius angle) Fits
  cone_fits caller agents radius angle = unless_so Fits (int_lt radius (pos 0) || int_lt angle (pos 0)) Domain _ (filtered_fits agents _)

  standing_fits : (breed : Option BreedNumber) (caller : Owner) (which : Standing) (inputs : List Plain) → IfOk (standing_by r breed caller which inputs) Fits
  standing_fits breed caller standing.On inputs = then_so Fits (value_at inputs 0) _ (λ value. each_so Fits (patches_of_value r value) (bred_on r breed) (λ patches. refl))
  standing_fits breed caller standing.Here inputs = refl
  standing_fits breed caller standing.At inputs =
      then_so Fits (number_at inputs 0) _ (λ dx. then_so Fits (number_at inputs 1) _ (λ dy. each_so Fits (patch_beside r caller dx dy) _ (λ found. refl)))
  standing_fits breed caller standing.AtPoints inputs =
      then_so Fits (standing_set_at inputs 0) _ (λ agents. then_so Fits (list_at inputs 1) _ (λ items. then_so Fits (offsets_in items) _ (λ offsets.
      each_so Fits (patches_at r caller offsets) (members_on r agents) (λ patches. filtered_fits agents _))))
  standing_fits breed caller standing.InRadius inputs =
      then_so Fits (standing_set_at inputs 0) _ (λ agents. then_so Fits (number_at inputs 1) (near_caller r caller agents) (near_fits caller agents))
  standing_fits breed caller standing.InCone inputs =
      then_so Fits (standing_set_at inputs 0) _ (λ agents. then_so Fits (number_at inputs 1) _ (λ radius.
      then_so Fits (number_at inputs 2) (in_cone_of_caller r caller agents radius) (cone_fits caller agents radius)))

  -- ---- patches around the caller

  around : (patch : ℕ) → All (λ other. other < patches_of r.shape) (neighbors_of r.shape patch)
  around patch k z here = (neighbors_are_others r.shape patch _ (All-contains_itself (neighbors_of r.shape patch) k z here)).1

  around4 : (patch : ℕ) → All (λ other. other < patches_of r.shape) (neighbors4_of r.shape patch)
  unfolding neighbors4_of
  around4 patch = All-filter _ (λ other. other < patches_of r.shape) (neighbors_of r.shape patch) (around patch)

  around_fits : (caller : Owner) (which : Around) → Fits (patches_around r caller which)
  around_fits caller which_around.Neighbors = patches_fit (neighbors_of r.shape (own_patch r caller)) (around (own_patch r caller))
  around_fits caller which_around.Neighbors4 = patches_fit (neighbors4_of r.shape (own_patch r caller)) (around4 (own_patch r caller))

  origin_inside : IsPointOf r.shape origin
  origin_inside = record { x = zero_inside r.shape.x world.shape.x; y = zero_inside r.shape.y world.shape.y }

  own_fits : (caller : Owner) → OwnerLives caller w → Fits (PlainPatch (own_patch r caller))
  own_fits (owner.Patch patch) lives = below patch lives
  own_fits owner.Observer lives = below_at origin origin_inside
  own_fits (owner.Link serial) lives = below_at origin origin_inside
  own_fits (owner.Turtle serial) lives = by (turtle_of serial r) refl
    where
      by : (o : Option the_turtle.Turtle) → turtle_of serial r ≡ o → Fits (PlainPatch (patch_at r.shape (point_of o)))
      by None is = below_at origin origin_inside
      by (Some t) is = below_at t.at (turtle_found w serial t world is).1.at

  turned_below : (caller : Owner) (to_left : Bool) (inputs : List Plain) → IfOk (turned_ahead r caller to_left inputs) Below
  turned_below caller to_left inputs =
      then_so Below (number_at inputs 0) _ (λ angle. then_so Below (number_at inputs 1) _ (λ distance.
      then_so Below (turned_by r caller to_left angle) (λ heading. patch_ahead r caller heading distance) (λ heading. ahead_below caller heading distance)))

  reached_below : (caller : Owner) (which : PatchBy) (inputs : List Plain) → OwnerLives caller w → IfOk (patch_reached r caller which inputs) Below
  reached_below caller patch_by.Here inputs lives = own_fits caller lives
  reached_below caller patch_by.At inputs lives = then_so Below (number_at inputs 0) _ (λ dx. then_so Below (number_at inputs 1) (patch_beside r caller dx) (beside_below caller dx))
  reached_below caller patch_by.Ahead inputs lives = then_so Below (number_at inputs 0) (patch_ahead r caller (heading_in r caller)) (ahead_below caller (heading_in r caller))
  reached_below caller patch_by.LeftAndAhead inputs lives = turned_below caller true inputs
  reached_below caller patch_by.RightAndAhead inputs lives = turned_below caller false inputs
  reached_below caller patch_by.HeadingAndDistance inputs lives =
      then_so Below (number_at inputs 0) _ (λ heading. then_so Below (number_at inputs 1) (patch_ahead r caller heading) (ahead_below caller heading))

  -- ---- numbers and truths

  faced_fits : (caller : Owner) (which : Facing) (inputs : List Plain) → IfOk (faced r caller which inputs) Fits
  faced_fits caller facing.CanMove inputs =
      then_so Fits (number_at inputs 0) _ (λ distance. each_so Fits (patch_ahead r caller (heading_in r caller) distance) _ (λ found. refl))
  faced_fits caller facing.Dx inputs = refl
  faced_fits caller facing.Dy inputs = refl

  measured_fits : (which : Measure) (from to : Point) → IfOk (measured r.shape which from to) Fits
  measured_fits measure.Distance from to = refl
  measured_fits measure.Towards from to = each_so Fits (or_fail SamePoint _) PlainNumber (λ heading. refl)

  measured_xy_fits : (caller : Owner) (which : Measure) (inputs : List Plain) → IfOk (measured_to_xy r caller which inputs) Fits
  measured_xy_fits caller which inputs =
      then_so Fits (number_at inputs 0) _ (λ x. then_so Fits (number_at inputs 1) _ (λ y.
      then_so Fits (or_fail _ (wrapped_point r.shape x y)) (measured r.shape which (place_of r caller)) (measured_fits which (place_of r caller))))

  -- ---- links

  ends_fit : (which : OfEnds) (o : Option the_link.Link) → IfOk (of_link_found r which o) Fits
  ends_fit which None = tt
  ends_fit of_ends.Both (Some l) = refl
  ends_fit of_ends.Length (Some l) = measured_fits measure.Distance (point_of (turtle_of l.end1 r)) (point_of (turtle_of l.end2 r))
  ends_fit of_ends.Heading (Some l) = measured_fits measure.Towards (point_of (turtle_of l.end1 r)) (point_of (turtle_of l.end2 r))

  ends_told_fits : (which : OfEnds) (caller : Owner) → IfOk (ends_told r which caller) Fits
  ends_told_fits which (owner.Link serial) = ends_fit which (link_of serial r)
  ends_told_fits which owner.Observer = tt
  ends_told_fits which (owner.Turtle serial) = tt
  ends_told_fits which (owner.Patch patch) = tt

  own_links_fit : (side : Side) (breed : Option BreedNumber) (caller : Owner) → IfOk (own_links r side breed caller) Fits
  own_links_fit side breed (owner.Turtle turtle) = refl
  own_links_fit side breed owner.Observer = tt
  own_links_fit side breed (owner.Patch patch) = tt
  own_links_fit side breed (owner.Link serial) = tt

  own_neighbors_fit : (side : Side) (breed : Option BreedNumber) (caller : Owner) → IfOk (own_neighbors r side breed caller) Fits
  own_neighbors_fit side breed (owner.Turtle turtle) = refl
  own_neighbors_fit side breed owner.Observer = tt
  own_neighbors_fit side breed (owner.Patch patch) = tt
  own_neighbors_fit side breed (owner.Link serial) = tt

  tested_fits : (side : Side) (breed : Option BreedNumber) (caller : Owner) (inputs : List Plain) → IfOk (neighbor_tested r side breed caller inputs) Fits
  tested_fits side breed (owner.Turtle turtle) inputs = then_so Fits (agent_at r inputs 0) _ (λ agent. refl)
  tested_fits side breed owner.Observer inputs = tt
  tested_fits side breed (owner.Patch patch) inputs = tt
  tested_fits side breed (owner.Link serial) inputs = tt

  link_found_fits : (side : Side) (breed : Option BreedNumber) (caller : Owner) (inputs : List Plain) → IfOk (link_found r side breed caller inputs) Fits
  link_found_fits side breed (owner.Turtle turtle) inputs = then_so Fits (agent_at r inputs 0) _ (λ agent. links_fit (link_told r side breed turtle agent))
  link_found_fits side breed owner.Observer inputs = tt
  link_found_fits side breed (owner.Patch patch) inputs = tt
  link_found_fits side breed (owner.Link serial) inputs = tt

  -- ---- all

  pub told_fits : (breed : Option BreedNumber) (caller : Owner) (which : QueryWord) (inputs : List Plain) → OwnerLives caller w → IsTrue (word_breed_fits r.layout which breed)
      → IfOk (told r breed caller which inputs) Fits
  told_fits breed caller (word.Whole which) inputs lives is = whole_fits which breed is
  told_fits breed caller (word.LookUp which) inputs lives is = looked_up_fits which breed inputs
  told_fits breed caller (word.OfBreed which) inputs lives is = then_so Fits (value_at inputs 0) _ (λ value. refl)
  told_fits breed caller (word.OfSet which) inputs lives is = then_so Fits (set_at inputs 0) _ (of_agents_fits caller which)
  told_fits breed caller (word.Union which) inputs lives is = union_fits which inputs
  told_fits breed caller (word.Choice which) inputs lives is = tt
  told_fits breed caller (word.Standing which) inputs lives is = standing_fits breed caller which inputs
  told_fits breed caller (word.Around which) inputs lives is = around_fits caller which
  told_fits breed caller (word.PatchBy which) inputs lives is = map_so Fits (patch_reached r caller which inputs) (agent_or_nobody kind.Patch) (reached_below caller which inputs lives)
  told_fits breed caller (word.Facing which) inputs lives is = faced_fits caller which inputs
  told_fits breed caller (word.Measure which) inputs lives is = then_so Fits (point_at r inputs 0) (measured r.shape which (place_of r caller)) (measured_fits which (place_of r caller))
  told_fits breed caller (word.MeasureXy which) inputs lives is = measured_xy_fits caller which inputs
  told_fits breed caller (word.OfEnds which) inputs lives is = ends_told_fits which caller
  told_fits breed caller (word.MyLinks which) inputs lives is = own_links_fit which breed caller
  told_fits breed caller (word.Neighbors which) inputs lives is = own_neighbors_fit which breed caller
  told_fits breed caller (word.IsNeighbor which) inputs lives is = tested_fits which breed caller inputs
  told_fits breed caller (word.LinkTo which) inputs lives is = link_found_fits which breed caller inputs
