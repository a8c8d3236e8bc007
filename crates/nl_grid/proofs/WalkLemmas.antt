-- A walk over the patches near a patch that writes down all but the patch itself.
use Rattle.std.proofs.Common.{ℕ, zero, suc, ◌+◌, ◌-◌, ◌<◌, ◌≤◌, ◌≡◌, Bool, true, false, cond, not, ◌==◌, nat_lt, pos, List, [], ◌∷◌, ◌++◌, length, take, set, get_or, filter, find, slice_get, Option, Some, None, arith, length-append, append-nil, take_all, refl, sym, ap, subst, ◌∙◌}
use Rattle.std.proofs.Math.Seq.{take-suc-set}
use Rattle.std.proofs.lemmas.Bool.{eq-eqb, ne_eqb, ltb-true}
use Rattle.std.proofs.lemmas.List.Elements.{filter_more}
use Rattle.std.proofs.lemmas.Option.{get_or_from_slice_get}
use Rattle.nl_grid.specs.Geometry.{Plane, patches_near, is_in_line, neighbors_of, neighbors4_of}
use Rattle.nl_grid.proofs.RangeLemmas.{by_test, some_is}

-- the test of a patch other than this one
abbrev pub is_other : ℕ → ℕ → Bool
is_other patch other = not (other == patch)

-- the walk stands at an index of the list, and what came before it is written down
pub record Walked (patch : ℕ) (list : List ℕ) (next : Option ℕ) (out : List ℕ) (count : ℕ) : Type 0 where
  pub index : ℕ
  pub stands : next ≡ slice_get list index
  pub kept : take count out ≡ filter (is_other patch) (take index list)
  pub counted : count ≡ length (filter (is_other patch) (take index list))

pub walk_begins : (patch : ℕ) (list out : List ℕ) (next : Option ℕ) → next ≡ slice_get list 0 → Walked patch list next out 0
walk_begins patch list out next is = record { index = 0; stands = is; kept = refl; counted = refl }

within_list : (list : List ℕ) (index other : ℕ) → slice_get list index ≡ Some other → index < length list
within_list [] index other is = absurd (let wrong = is in cc)
within_list (x ∷ xs) zero other is = omega arith
within_list (x ∷ xs) (suc index) other is = omega (arith, within_list xs index other is)

-- what the filter keeps of one number more
pub more_kept : (patch : ℕ) (list : List ℕ) (index other : ℕ) → slice_get list index ≡ Some other → is_other patch other ≡ true → filter (is_other patch) (take (index + 1) list) ≡ filter (is_other patch) (take index list) ++ other ∷ []
more_kept patch list index other is passes =
    let read = get_or_from_slice_get list index other 0 is in
    let more = filter_more (is_other patch) list index 0 (within_list list index other is) in
    let test : is_other patch (get_or list index 0) ≡ true = ap (is_other patch) read ∙ passes in
    more ∙ ap (λ b. filter (is_other patch) (take index list) ++ cond b (get_or list index 0 ∷ []) []) test ∙ ap (λ x. filter (is_other patch) (take index list) ++ x ∷ []) read

pub more_skipped : (patch : ℕ) (list : List ℕ) (index other : ℕ) → slice_get list index ≡ Some other → is_other patch other ≡ false → filter (is_other patch) (take (index + 1) list) ≡ filter (is_other patch) (take index list)
more_skipped patch list index other is fails =
    let read = get_or_from_slice_get list index other 0 is in
    let more = filter_more (is_other patch) list index 0 (within_list list index other is) in
    let test : is_other patch (get_or list index 0) ≡ false = ap (is_other patch) read ∙ fails in
    more ∙ ap (λ b. filter (is_other patch) (take index list) ++ cond b (get_or list index 0 ∷ []) []) test ∙ append-nil (filter (is_other patch) (take index list))

other_passes : (patch other : ℕ) → (other ≡ patch → ⊥) → is_other patch other ≡ true
other_passes patch other apart = ap not (ne_eqb other patch apart)

same_fails : (patch other : ℕ) → other ≡ patch → is_other patch other ≡ false
same_fails patch other same = ap not (eq-eqb other patch same)

take_of_none : (p : ℕ → Bool) (index : ℕ) → length (filter p (take index [])) ≤ 0
take_of_none p zero = omega arith
take_of_none p (suc index) = omega arith

kept_before : (p : ℕ → Bool) (list : List ℕ) (index : ℕ) → length (filter p (take index list)) ≤ length (filter p list)
kept_before p [] index = take_of_none p index
kept_before p (x ∷ xs) zero = omega arith
kept_before p (x ∷ xs) (suc index) =
    let later = kept_before p xs index in
    by_test (p x) (λ passes. rw passes (omega (arith, later))) (λ fails. rw fails later)

-- there is room for one more
pub room_for : (patch : ℕ) (list : List ℕ) (out : List ℕ) (next : Option ℕ) (count other most : ℕ) → Walked patch list next out count → next ≡ Some other → (other ≡ patch → ⊥) → length (filter (is_other patch) list) ≤ most → count < most
room_for patch list out next count other most walked is apart few =
    let here = sym walked.stands ∙ is in
    let more = ap length (more_kept patch list walked.index other here (other_passes patch other apart)) ∙ length-append (filter (is_other patch) (take walked.index list)) (other ∷ []) in
    omega (arith, walked.counted, more, kept_before (is_other patch) list (walked.index + 1), few)

pub walk_keeps : (patch : ℕ) (list out : List ℕ) (next after : Option ℕ) (count other : ℕ) → Walked patch list next out count → next ≡ Some other → (other ≡ patch → ⊥) → count < length out → ((index : ℕ) → slice_get list index ≡ Some other → after ≡ slice_get list (index + 1)) → Walked patch list after (set out count other) (count + 1)
walk_keeps patch list out next after count other walked is apart room walk =
    let here = sym walked.stands ∙ is in
    let more = more_kept patch list walked.index other here (other_passes patch other apart) in
    let one : count + 1 ≡ suc count = omega arith in
    record {
      index = walked.index + 1;
      stands = walk walked.index here;
      kept = ap (λ n. take n (set out count other)) one ∙ take-suc-set out count other room ∙ ap (λ xs. xs ++ other ∷ []) walked.kept ∙ sym more;
      counted = let long = ap length more ∙ length-append (filter (is_other patch) (take walked.index list)) (other ∷ []) in omega (arith, walked.counted, long);
    }

pub walk_skips : (patch : ℕ) (list out : List ℕ) (next after : Option ℕ) (count other : ℕ) → Walked patch list next out count → next ≡ Some other → other ≡ patch → ((index : ℕ) → slice_get list index ≡ Some other → after ≡ slice_get list (index + 1)) → Walked patch list after out count
walk_skips patch list out next after count other walked is same walk =
    let here = sym walked.stands ∙ is in
    let more = more_skipped patch list walked.index other here (same_fails patch other same) in
    record { index = walked.index + 1; stands = walk walked.index here; kept = walked.kept ∙ sym more; counted = walked.counted ∙ ap length (sym more) }

past_list : (list : List ℕ) (index : ℕ) → slice_get list index ≡ None → take index list ≡ list
past_list [] zero is = refl
past_list [] (suc index) is = refl
past_list (x ∷ xs) zero is = absurd (let wrong = is in cc)
past_list (x ∷ xs) (suc index) is = ap (λ ys. x ∷ ys) (past_list xs index is)

-- at the end all are written down
pub walk_ends : (patch : ℕ) (list out : List ℕ) (next : Option ℕ) (count : ℕ) → Walked patch list next out count → next ≡ None → (take count out ≡ filter (is_other patch) list) × (count ≡ length (filter (is_other patch) list))
walk_ends patch list out next count walked is =
    let all = past_list list walked.index (sym walked.stands ∙ is) in
    (walked.kept ∙ ap (filter (is_other patch)) all, walked.counted ∙ ap (λ xs. length (filter (is_other patch) xs)) all)

found_passes : (p : ℕ → Bool) (list : List ℕ) (x : ℕ) → find p list ≡ Some x → p x ≡ true
found_passes p [] x is = absurd (let wrong = is in cc)
found_passes p (y ∷ ys) x is =
    let P : Bool → Type 0 = λ b. cond b (Some y) (find p ys) ≡ Some x in
    by_test (p y)
    (λ passes. let same = some_is (subst P passes is) in ap p (sym same) ∙ passes)
    (λ fails. found_passes p ys x (subst P fails is))

-- how much of the walk is left, at most
abbrev pub left_of : Option ℕ → ℕ
left_of (Some other) = 4294967296 - other
left_of None = 0

-- the next patch comes later
pub walk_goes_on : (list : List ℕ) (other : ℕ) (next after : Option ℕ) → other < 4294967296 → next ≡ Some other → after ≡ find (λ q. nat_lt other q) list → left_of after < left_of next
walk_goes_on list other next (Some later) small is found =
    let over = ltb-true other later (found_passes (λ q. nat_lt other q) list later (sym found)) in
    rw is (omega (arith, small, over))
walk_goes_on list other next None small is found = rw is (omega (arith, small))

-- what the walk writes down are the neighbors
pub neighbors_are : (plane : Plane) (patch : ℕ) (list : List ℕ) → list ≡ patches_near plane (pos 1) patch → filter (is_other patch) list ≡ neighbors_of plane patch
unfolding neighbors_of
neighbors_are plane patch list is = ap (filter (is_other patch)) is

pub not_some : (answer : Option ℕ) → ((x : ℕ) → answer ≡ Some x → ⊥) → answer ≡ None
not_some (Some x) refused = absurd (refused x refl)
not_some None refused = refl

-- ---- picking from a list what passes a test

pub record Picked (p : ℕ → Bool) (list : List ℕ) (index : ℕ) (out : List ℕ) (count : ℕ) : Type 0 where
  pub kept : take count out ≡ filter p (take index list)
  pub counted : count ≡ length (filter p (take index list))

pub pick_begins : (p : ℕ → Bool) (list out : List ℕ) → Picked p list 0 out 0
pick_begins p list out = record { kept = refl; counted = refl }

pub more_picked : (p : ℕ → Bool) (list : List ℕ) (index : ℕ) → index < length list → p (get_or list index 0) ≡ true → filter p (take (index + 1) list) ≡ filter p (take index list) ++ get_or list index 0 ∷ []
more_picked p list index within passes = filter_more p list index 0 within ∙ ap (λ b. filter p (take index list) ++ cond b (get_or list index 0 ∷ []) []) passes

pub room_to_pick : (p : ℕ → Bool) (list out : List ℕ) (index count most : ℕ) → Picked p list index out count → index < length list → p (get_or list index 0) ≡ true → length (filter p list) ≤ most → count < most
room_to_pick p list out index count most picked within passes few =
    let more = ap length (more_picked p list index within passes) ∙ length-append (filter p (take index list)) (get_or list index 0 ∷ []) in
    omega (arith, picked.counted, more, kept_before p list (index + 1), few)

pub pick_keeps : (p : ℕ → Bool) (list out : List ℕ) (index count : ℕ) → Picked p list index out count → index < length list → p (get_or list index 0) ≡ true → count < length out → Picked p list (index + 1) (set out count (get_or list index 0)) (count + 1)
pick_keeps p list out index count picked within passes room =
    let more = more_picked p list index within passes in
    let one : count + 1 ≡ suc count = omega arith in
    record {
      kept = ap (λ n. take n (set out count (get_or list index 0))) one ∙ take-suc-set out count (get_or list index 0) room ∙ ap (λ xs. xs ++ get_or list index 0 ∷ []) picked.kept ∙ sym more;
      counted = let long = ap length more ∙ length-append (filter p (take index list)) (get_or list index 0 ∷ []) in omega (arith, picked.counted, long);
    }

pub pick_skips : (p : ℕ → Bool) (list out : List ℕ) (index count : ℕ) → Picked p list index out count → index < length list → p (get_or list index 0) ≡ false → Picked p list (index + 1) out count
pick_skips p list out index count picked within fails =
    let more = filter_more p list index 0 within ∙ ap (λ b. filter p (take index list) ++ cond b (get_or list index 0 ∷ []) []) fails ∙ append-nil (filter p (take index list)) in
    record { kept = picked.kept ∙ sym more; counted = picked.counted ∙ ap length (sym more) }

pub pick_ends : (p : ℕ → Bool) (list out : List ℕ) (index count : ℕ) → Picked p list index out count → length list ≤ index → (take count out ≡ filter p list) × (count ≡ length (filter p list))
pick_ends p list out index count picked past =
    let all = take_all index list past in
    (picked.kept ∙ ap (filter p) all, picked.counted ∙ ap (λ xs. length (filter p xs)) all)

-- the picked neighbors
pub in_line_are : (plane : Plane) (patch : ℕ) (list : List ℕ) → list ≡ neighbors_of plane patch → filter (is_in_line plane patch) list ≡ neighbors4_of plane patch
unfolding neighbors4_of
in_line_are plane patch list is = ap (filter (is_in_line plane patch)) is
