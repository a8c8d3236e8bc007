-- Laws of queries.
use Rattle.std.specs.Prelude.{◌≡◌, ℕ, ℤ, pos, int_le, ◌≤ℤ◌, ◌==◌, ◌&&◌, ◌||◌, not, Bool, true, false, List, [], ◌∷◌, filter, All, Option, Some, None, Ok, Err, IfOk, IsTrue, refl}
use Rattle.std.proofs.Common.{get_or, ap, sym, ◌∙◌, subst, arith}
use Rattle.std.specs.List.{list_any}
use Rattle.std.specs.List.Sorted.{IsStrictlyIncreasing}
use Rattle.std.proofs.lemmas.Bool.{and_parts}
use Rattle.std.proofs.lemmas.Int.{ints}
use Rattle.std.proofs.lemmas.List.Elements.{All-head, All-tail}
use Rattle.std.proofs.lemmas.List.Kept.{IsStrictlyIncreasing-filter}
use Rattle.nl_value.specs.Nouns.{Serials}
use Rattle.nl_value.specs.Plain.{Plain}
use Rattle.nl_value.specs.Sets.{set_kind}
use Rattle.nl_value.specs.declared.sets.AgentKind.{AgentKind}
use Rattle.nl_value.specs.declared.sets.AgentKind.TheVariants as kind
use Rattle.nl_grid.specs.Geometry.{center_of, distance_of}
use Rattle.nl_grid.specs.declared.point.Point.{Point}
use Rattle.nl_agents_layout.specs.Nouns.{BreedNumber}
use Rattle.nl_agents_layout.proofs.Ascending.{has_filter}
use Rattle.nl_agents.specs.World.{Rest, World}
use Rattle.nl_agents.specs.Changes.{OwnerLives, turtle_of, has_end}
use Rattle.nl_agents.specs.Members.{members_of, is_listed}
use Rattle.nl_agents.specs.Standing.{IsWorld, fits_rest}
use Rattle.nl_agents.specs.declared.agents.Link as the_link
use Rattle.nl_agents.specs.declared.agents.Turtle as the_turtle
use Rattle.nl_agents.specs.declared.agents.Owner.{Owner}
use Rattle.nl_agents.proofs.LivingMembers.{members_ascend}
use Rattle.nl_agentset.proofs.ChosenFits.{chosen_fits}
use Rattle.nl_agentset_query.specs.Agents.{is_of, listed_value}
use Rattle.nl_agentset_query.specs.Inputs.{inputs_fit}
use Rattle.nl_agentset_query.specs.Near.{is_within, stands_where}
use Rattle.nl_agentset_query.specs.Outcomes.{QueryOutcome, outcome_map, and_then}
use Rattle.nl_agentset_query.specs.declared.words.QueryWord.{QueryWord}
use Rattle.nl_agentset_query.specs.declared.words.QueryWord.TheVariants as word
use Rattle.nl_agentset_query.specs.declared.words.Side.{Side}
use Rattle.nl_agentset_query.specs.declared.words.Side.TheVariants as side
use Rattle.nl_agentset.specs.Laws.{AnswersFit, OthersAreAllButTheCaller, GreaterRadiiReachMore, UnionsAscend, UndirectedLeadBothWays}
use Rattle.nl_agentset.specs.Links.{is_link_to, other_end_of}
use Rattle.nl_agentset.specs.Queries.{told, query_answer, word_breed_fits}
use Rattle.nl_agentset.specs.Sets.{is_caller}
use Rattle.nl_agentset_query.specs.Unions.{all_of, all_united}
use Rattle.nl_agentset.proofs.Answering.{given_so}
use Rattle.nl_agentset.proofs.Fits.{told_fits}

-- ---- every answer fits

beside_so : (P : Plain → Type 0) (o : QueryOutcome Plain) (state : ℕ) → IfOk o P → IfOk (outcome_map (λ value. (value, state)) o) (λ (answer : Plain × ℕ). P answer.0)
beside_so P (Ok value) state so = so
beside_so P (Err fail) state so = tt

answers_fit : (w : World) (breed : Option BreedNumber) (caller : Owner) (which : QueryWord) (inputs : List Plain) (state : ℕ)
    → IsWorld w → OwnerLives caller w → IsTrue (word_breed_fits w.rest.layout which breed) → IsTrue (inputs_fit w.rest inputs)
    → IfOk (query_answer w.rest breed caller which inputs state) (λ (answer : Plain × ℕ). fits_rest w.rest answer.0 ≡ true)
answers_fit w breed caller (word.Choice which) inputs state world lives is fit = chosen_fits w.rest which inputs state fit
answers_fit w breed caller (word.Whole which) inputs state world lives is fit = beside_so (λ p. fits_rest w.rest p ≡ true) (told w.rest breed caller (word.Whole which) inputs) state (told_fits w world breed caller (word.Whole which) inputs lives is)
answers_fit w breed caller (word.LookUp which) inputs state world lives is fit = beside_so (λ p. fits_rest w.rest p ≡ true) (told w.rest breed caller (word.LookUp which) inputs) state (told_fits w world breed caller (word.LookUp which) inputs lives is)
answers_fit w breed caller (word.OfBreed which) inputs state world lives is fit = beside_so (λ p. fits_rest w.rest p ≡ true) (told w.rest breed caller (word.OfBreed which) inputs) state (told_fits w world breed caller (word.OfBreed which) inputs lives is)
answers_fit w breed caller (word.OfSet which) inputs state world lives is fit = beside_so (λ p. fits_rest w.rest p ≡ true) (told w.rest breed caller (word.OfSet which) inputs) state (told_fits w world breed caller (word.OfSet which) inputs lives is)
answers_fit w breed caller (word.Union which) inputs state world lives is fit = beside_so (λ p. fits_rest w.rest p ≡ true) (told w.rest breed caller (word.Union which) inputs) state (told_fits w world breed caller (word.Union which) inputs lives is)
answers_fit w breed caller (word.Standing which) inputs state world lives is fit = beside_so (λ p. fits_rest w.rest p ≡ true) (told w.rest breed caller (word.Standing which) inputs) state (told_fits w world breed caller (word.Standing which) inputs lives is)
answers_fit w breed caller (word.Around which) inputs state world lives is fit = beside_so (λ p. fits_rest w.rest p ≡ true) (told w.rest breed caller (word.Around which) inputs) state (told_fits w world breed caller (word.Around which) inputs lives is)
answers_fit w breed caller (word.PatchBy which) inputs state world lives is fit = beside_so (λ p. fits_rest w.rest p ≡ true) (told w.rest breed caller (word.PatchBy which) inputs) state (told_fits w world breed caller (word.PatchBy which) inputs lives is)
answers_fit w breed caller (word.Facing which) inputs state world lives is fit = beside_so (λ p. fits_rest w.rest p ≡ true) (told w.rest breed caller (word.Facing which) inputs) state (told_fits w world breed caller (word.Facing which) inputs lives is)
answers_fit w breed caller (word.Measure which) inputs state world lives is fit = beside_so (λ p. fits_rest w.rest p ≡ true) (told w.rest breed caller (word.Measure which) inputs) state (told_fits w world breed caller (word.Measure which) inputs lives is)
answers_fit w breed caller (word.MeasureXy which) inputs state world lives is fit = beside_so (λ p. fits_rest w.rest p ≡ true) (told w.rest breed caller (word.MeasureXy which) inputs) state (told_fits w world breed caller (word.MeasureXy which) inputs lives is)
answers_fit w breed caller (word.OfEnds which) inputs state world lives is fit = beside_so (λ p. fits_rest w.rest p ≡ true) (told w.rest breed caller (word.OfEnds which) inputs) state (told_fits w world breed caller (word.OfEnds which) inputs lives is)
answers_fit w breed caller (word.MyLinks which) inputs state world lives is fit = beside_so (λ p. fits_rest w.rest p ≡ true) (told w.rest breed caller (word.MyLinks which) inputs) state (told_fits w world breed caller (word.MyLinks which) inputs lives is)
answers_fit w breed caller (word.Neighbors which) inputs state world lives is fit = beside_so (λ p. fits_rest w.rest p ≡ true) (told w.rest breed caller (word.Neighbors which) inputs) state (told_fits w world breed caller (word.Neighbors which) inputs lives is)
answers_fit w breed caller (word.IsNeighbor which) inputs state world lives is fit = beside_so (λ p. fits_rest w.rest p ≡ true) (told w.rest breed caller (word.IsNeighbor which) inputs) state (told_fits w world breed caller (word.IsNeighbor which) inputs lives is)
answers_fit w breed caller (word.LinkTo which) inputs state world lives is fit = beside_so (λ p. fits_rest w.rest p ≡ true) (told w.rest breed caller (word.LinkTo which) inputs) state (told_fits w world breed caller (word.LinkTo which) inputs lives is)

pub each_answer_fits : AnswersFit
each_answer_fits w breed caller which inputs state after answer world lives is fit given =
    given_so (λ (a : Plain × ℕ). fits_rest w.rest a.0 ≡ true) (query_answer w.rest breed caller which inputs state) (answer, after) (answers_fit w breed caller which inputs state world lives is fit) given

-- ---- sets

pub others_but_the_caller : OthersAreAllButTheCaller
others_but_the_caller r caller agents number = has_filter (λ n. not (is_caller caller (set_kind agents) n)) (members_of r agents) number

same_listed : (which : AgentKind) (xs ys : Serials) → listed_value which xs ≡ listed_value which ys → xs ≡ ys
same_listed kind.Turtle xs ys is = cc
same_listed kind.Patch xs ys is = cc
same_listed kind.Link xs ys is = cc

pub union_ascends : UnionsAscend
union_ascends w which values numbers world is = by (all_united w.rest which values) is
  where
    by : (o : QueryOutcome Serials) → and_then o (λ found. Ok (listed_value which (filter (is_listed found) (members_of w.rest (all_of which))))) ≡ Ok (listed_value which numbers) → IsStrictlyIncreasing numbers
    by (Ok found) given =
        let kept = filter (is_listed found) (members_of w.rest (all_of which)) in
        let alike : listed_value which kept ≡ listed_value which numbers = cc in
        subst (λ (l : List ℕ). IsStrictlyIncreasing l) (same_listed which kept numbers alike) (IsStrictlyIncreasing-filter (is_listed found) (members_of w.rest (all_of which)) (members_ascend w (all_of which) world))
    by (Err fail) given = cc

-- ---- members near a point

le_more : (plain : ℕ) (radius greater : ℤ) → radius ≤ℤ greater → int_le (pos plain) radius ≡ true → int_le (pos plain) greater ≡ true
le_more plain radius greater more le = grind (arith, ints)

both_true : (a b : Bool) → a ≡ true → b ≡ true → (a && b) ≡ true
both_true true b first second = second
both_true false b first second = first

abbrev there : (Point → Bool) → Option the_turtle.Turtle → Bool
there test None = false
there test (Some t) = test t.at

turtle_more : (p q : Point → Bool) → ((to : Point) → p to ≡ true → q to ≡ true) → (o : Option the_turtle.Turtle) → there p o ≡ true → there q o ≡ true
turtle_more p q more None is = is
turtle_more p q more (Some t) is = more t.at is

-- where a test passes more points, more agents stand
stands_more : (r : Rest) (p q : Point → Bool) → ((to : Point) → p to ≡ true → q to ≡ true) → (which : AgentKind) (number : ℕ)
    → stands_where p r which number ≡ true → stands_where q r which number ≡ true
stands_more r p q more kind.Turtle number is = turtle_more p q more (turtle_of number r) is
stands_more r p q more kind.Patch number is = more (center_of r.shape number) is
stands_more r p q more kind.Link number is = is

pub greater_reach_more : GreaterRadiiReachMore
greater_reach_more r agents at radius greater number more is =
    let near : ℕ → Bool = stands_where (is_within r.shape at radius) r (set_kind agents) in
    let wide : ℕ → Bool = stands_where (is_within r.shape at greater) r (set_kind agents) in
    let members = members_of r agents in
    let parts = and_parts (is_listed members number) (near number) (sym (has_filter near members number) ∙ is) in
    let reached =
    stands_more r (is_within r.shape at radius) (is_within r.shape at greater) (λ to. le_more (distance_of r.shape at to) radius greater more)
    (set_kind agents) number parts.1 in
    has_filter wide members number ∙ both_true (is_listed members number) (wide number) parts.0 reached

-- ---- neighbors

any_same : (p q : the_link.Link → Bool) (ls : List the_link.Link) → All (λ (l : the_link.Link). p l ≡ q l) ls → list_any p ls ≡ list_any q ls
any_same p q [] same = refl
any_same p q (l ∷ ls) same =
    ap (λ b. b || list_any p ls) (All-head (λ (x : the_link.Link). p x ≡ q x) l ls same)
    ∙ ap (λ b. q l || b) (any_same p q ls (All-tail (λ (x : the_link.Link). p x ≡ q x) l ls same))

undirected_so : (h x y d o : Bool) → (IsTrue x → y ≡ false) → (((h && x) && (not y || d)) && o) ≡ (((h && x) && true) && o)
undirected_so false x y d o none = refl
undirected_so true false y d o none = refl
undirected_so true true false d o none = refl
undirected_so true true true d o none = let wrong = none refl in cc

undirected_leads : (which : Side) (breed : Option BreedNumber) (one other : ℕ) (l : the_link.Link) → (IsTrue (is_of breed l.breed) → l.directed ≡ false)
    → is_link_to which breed one other l ≡ is_link_to side.Any breed one other l
undirected_leads side.Any breed one other l plain = refl
undirected_leads side.In breed one other l plain = undirected_so (has_end one l) (is_of breed l.breed) l.directed (l.end2 == one) (other_end_of one l == other) plain
undirected_leads side.Out breed one other l plain = undirected_so (has_end one l) (is_of breed l.breed) l.directed (l.end1 == one) (other_end_of one l == other) plain

pub undirected_both_ways : UndirectedLeadBothWays
undirected_both_ways r which breed one other plain =
    any_same (is_link_to which breed one other) (is_link_to side.Any breed one other) r.links (λ k z inside. undirected_leads which breed one other (get_or r.links k z) (plain k z inside))
