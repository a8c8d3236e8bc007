-- Where climbs end.
use Rattle.std.proofs.Common.{◌≡◌, ℕ, ℤ, ◌<◌, ◌==◌, Bool, true, false, not, if◌then◌else◌, List, [], ◌∷◌, length, map, Option, Some, None, refl, sym, ap, ◌∙◌, subst, arith}
use Rattle.std.specs.Prelude.{is_some, option_map, unwrap_or, MatchOption}
use Rattle.std.specs.List.{list_any, Contains}
use Rattle.std.proofs.lemmas.Bool.{false≢true}
use Rattle.std.proofs.lemmas.Option.{none-some, same_Some}
use Rattle.std.proofs.lemmas.List.{get_or-map, length-map}
use Rattle.std.proofs.lemmas.List.Folds.{list_any_at}
use Rattle.nl_value.specs.Plain.{PlainNumber}
use Rattle.nl_grid.specs.Nouns.{Patches}
use Rattle.nl_grid.specs.Geometry.{center_of, heading_between}
use Rattle.nl_grid.specs.declared.point.Point.{Point}
use Rattle.nl_grid.proofs.RangeLemmas.{by_test, in_kept}
use Rattle.nl_draw.specs.Stream.{chosen}
use Rattle.nl_draw.proofs.Shuffles.{chosen-member}
use Rattle.nl_agents_layout.specs.Nouns.{Slot}
use Rattle.nl_agents_layout.specs.BuiltIn.{heading_slot}
use Rattle.nl_agents.specs.World.{World}
use Rattle.nl_agents.specs.Changes.{is_turtle, turtle_of, TurtleLives, moved, revalued, value_of}
use Rattle.nl_agents.specs.declared.agents.Turtle.{Turtle}
use Rattle.nl_agents.specs.declared.agents.Owner.TheVariants as owner
use Rattle.nl_agents.proofs.Finding.{found_changed, found_passes, there}
use Rattle.nl_motion.specs.Climbing.{ring_of, patch_number, surpasses, is_best, best_of, choice_around, climb_end, home_of, headed, centered, faced, climbed_to, climbed, state_climbed}
use Rattle.nl_motion.specs.Laws.{summit, IsSummit}
use Rattle.nl_motion.proofs.Living.{lives_moved, lives_revalued}
use Rattle.nl_motion.proofs.Climbs.{faced_shape}

-- ---- the chosen neighbor

decided : (up : Bool) (number : ℕ → Option ℤ) (from : ℕ) (choice : Option ℕ) (to : ℕ) → climb_end up number from choice ≡ Some to
    → (choice ≡ Some to) × (surpasses up (number to) (number from) ≡ true)
decided up number from None to is = absurd (none-some to is)
decided up number from (Some found) to is =
    by_test (surpasses up (number found) (number from))
    (λ t.
    let same : found ≡ to = same_Some found to (sym (ap (λ b. if b then Some found else None) t) ∙ is) in
    (ap Some same, subst (λ p. surpasses up (number p) (number from) ≡ true) same t))
    (λ f. absurd (none-some to (sym (ap (λ b. if b then Some found else None) f) ∙ is)))

member : (list : List ℕ) (choice : Option ℕ) (to : ℕ) → MatchOption choice (list ≡ []) (Contains list) → choice ≡ Some to → Contains list to
member list choice to known is = subst (λ o. MatchOption o (list ≡ []) (Contains list)) is known

-- what is best is a number that none of the others surpasses
unbeaten : (up : Bool) (others : List (Option ℤ)) (number : Option ℤ) → is_best up others number ≡ true → list_any (λ other. surpasses up other number) others ≡ false
unbeaten up others None best = absurd (false≢true best)
unbeaten up others (Some count) best =
    by_test (list_any (λ other. surpasses up other (Some count)) others)
    (λ t. absurd (false≢true (sym (ap not t) ∙ best))) (λ f. f)

none_beats : (up : Bool) (number : ℕ → Option ℤ) (ring : Patches) (to other : ℕ) → list_any (λ n. surpasses up n (number to)) (map number ring) ≡ false
    → Contains ring other → surpasses up (number other) (number to) ≡ false
none_beats up number ring to other none held =
    by_test (surpasses up (number other) (number to))
    (λ t.
    let within : held.0 < length (map number ring) = subst (λ n. held.0 < n) (sym (length-map ring number)) held.1 in
    let same = get_or-map number ring held.0 other (number other) held.1 ∙ ap number held.2 in
    let found = list_any_at (λ n. surpasses up n (number to)) (map number ring) held.0 (number other) within (ap (λ n. surpasses up n (number to)) same ∙ t) in
    absurd (false≢true (sym none ∙ found)))
    (λ f. f)

pub leads_to_summit : (up four : Bool) (slot : Slot) (from to : ℕ) (w : World) (state : ℕ)
    → climb_end up (patch_number w slot) from (choice_around up four slot from w state).0 ≡ Some to → IsSummit up four slot w from to
leads_to_summit up four slot from to w state is =
    let number : ℕ → Option ℤ = patch_number w slot in
    let ring = ring_of four w.rest.shape from in
    let known = decided up number from _ to is in
    let held = member (best_of up number ring) _ to (chosen-member (best_of up number ring) state) known.0 in
    let best = (in_kept (λ patch. is_best up (map number ring) (number patch)) ring to held).1 in
    record {
      higher = known.1;
      highest = λ other there_is. none_beats up number ring to other (unbeaten up (map number ring) (number to) best) there_is;
    }

-- ---- no numbers

nothing_in : (list : List ℕ) → ((x : ℕ) → Contains list x → ⊥) → list ≡ []
nothing_in [] none = refl
nothing_in (x ∷ xs) none = absurd (none x (0, omega arith, refl))

none_best : (up : Bool) (number : ℕ → Option ℤ) (ring : Patches) → ((other : ℕ) → Contains ring other → number other ≡ None) → best_of up number ring ≡ []
none_best up number ring none =
    nothing_in (best_of up number ring) (λ x held.
    let kept = in_kept (λ patch. is_best up (map number ring) (number patch)) ring x held in
    false≢true (sym (ap (is_best up (map number ring)) (none x kept.0)) ∙ kept.1))

pub no_numbers : (turtle : ℕ) (slot : Slot) (up four : Bool) (w : World) (state : ℕ)
    → ((other : ℕ) → Contains (ring_of four w.rest.shape (home_of turtle w)) other → patch_number w slot other ≡ None)
    → (state_climbed turtle slot up four w state ≡ state) × (climbed turtle slot up four w state ≡ centered turtle (home_of turtle w) w)
unfolding chosen
no_numbers turtle slot up four w state none =
    let from = home_of turtle w in
    let empty = none_best up (patch_number w slot) (ring_of four w.rest.shape from) none in (
      ap (λ list. (chosen list state).1) empty,
      ap (λ list. climbed_to turtle from (climb_end up (patch_number w slot) from (chosen list state).0) (centered turtle from w)) empty,
    )

-- ---- the turtle stands at a center

same_serial : (turtle : ℕ) (to : Point) (t : Turtle) (b : Bool) → (if b then record t { at = to } else t).serial ≡ t.serial
same_serial turtle to t true = refl
same_serial turtle to t false = refl

chosen_at : (to : Point) (t : Turtle) (b : Bool) → b ≡ true → (if b then record t { at = to } else t).at ≡ to
chosen_at to t b is = ap (λ c. (if c then record t { at = to } else t).at) is

stands_at : (turtle : ℕ) (to : Point) (w : World) → TurtleLives turtle w → option_map (λ t. t.at) (turtle_of turtle (moved turtle to w).rest) ≡ Some to
stands_at turtle to w lives =
    let here : Turtle → Turtle = λ t. if is_turtle turtle t then record t { at = to } else t in
    let one = there (turtle_of turtle w.rest) lives in
    let found = found_changed (is_turtle turtle) here (λ t. ap (λ n. n == turtle) (same_serial turtle to t (is_turtle turtle t))) w.rest.turtles in
    let passes = found_passes (is_turtle turtle) w.rest.turtles one.0 one.1 in
    ap (λ o. option_map (λ t. t.at) o) found ∙ ap (λ o. option_map (λ t. t.at) (option_map here o)) one.1 ∙ ap Some (chosen_at to one.0 (is_turtle turtle one.0) passes)

lives_chosen : (turtle : ℕ) (heading : ℤ) (w : World) (b : Bool) → TurtleLives turtle w
    → TurtleLives turtle (if b then revalued (owner.Turtle turtle) heading_slot (PlainNumber heading) w else w)
lives_chosen turtle heading w true lives = lives_revalued turtle heading_slot (PlainNumber heading) w lives
lives_chosen turtle heading w false lives = lives

lives_headed : (turtle : ℕ) (heading : Option ℤ) (w : World) → TurtleLives turtle w → TurtleLives turtle (headed turtle heading w)
lives_headed turtle None w lives = lives
lives_headed turtle (Some heading) w lives = lives_chosen turtle heading w (is_some (value_of (owner.Turtle turtle) heading_slot w)) lives

ends_at : (turtle from : ℕ) (end : Option ℕ) (w : World) → TurtleLives turtle w
    → option_map (λ t. t.at) (turtle_of turtle (climbed_to turtle from end (centered turtle from w)).rest) ≡ Some (center_of w.rest.shape (unwrap_or end from))
ends_at turtle from None w lives = stands_at turtle (center_of w.rest.shape from) w lives
ends_at turtle from (Some to) w lives =
    let mid = centered turtle from w in
    let turned = faced turtle from to mid in
    let lives_mid = lives_moved turtle (center_of w.rest.shape from) w lives in
    let lives_turned = lives_headed turtle (heading_between mid.rest.shape (center_of mid.rest.shape from) (center_of mid.rest.shape to)) mid lives_mid in
    stands_at turtle (center_of turned.rest.shape to) turned lives_turned ∙ ap (λ plane. Some (center_of plane to)) (faced_shape turtle from to mid)

pub ends_at_center : (turtle : ℕ) (slot : Slot) (up four : Bool) (w : World) (state : ℕ) → TurtleLives turtle w
    → option_map (λ t. t.at) (turtle_of turtle (climbed turtle slot up four w state).rest) ≡ Some (center_of w.rest.shape (summit turtle slot up four w state))
ends_at_center turtle slot up four w state lives =
    ends_at turtle (home_of turtle w) (climb_end up (patch_number w slot) (home_of turtle w) (choice_around up four slot (home_of turtle w) w state).0) w lives
