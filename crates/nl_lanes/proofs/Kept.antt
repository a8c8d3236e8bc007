-- The lanes as they are kept, seen as plain data.
use Rattle.std.proofs.Common.{◌≡◌, ℕ, zero, suc, ◌+◌, ◌-◌, ◌≤◌, ◌<◌, List, [], ◌∷◌, Bool, true, false, Option, Some, None, get_or, set, take, length, All, is_some, replicate, refl, sym, ap, ◌∙◌, subst, arith}
use Rattle.std.proofs.lemmas.List.{get_or-replicate, get_or-take, length-replicate, length-set, length-take-le, map-set, set-set}
use Rattle.std.proofs.lemmas.List.Elements.{All-get_or, All-set}
use Rattle.std.proofs.Math.ListN.{get_or-map}
use Rattle.std.specs.Option.{option_map}
use Rattle.nl_lanes.specs.Runs.{LoneRuns, run_of}
use Rattle.nl_lanes.specs.Turns.{Standing, held_in, taken, worked}
use Rattle.nl_lanes.specs.Pools.{IsSound, held_count}
use Rattle.nl_lanes.specs.inner.Lanes.{IsIn, IsOf, IsStillOf, IsWhole, held, held_all}
use Rattle.nl_lanes.specs.declared.lane.Lane.{Ghosts}
use Rattle.nl_lanes.specs.declared.held.OpenRun.{OpenRun}
use Rattle.nl_lanes.proofs.Keeping.{advanced-ends, advanced-goes, held_count-come, held_count-leave, held_count-stay, taken-busy, taken-full, taken-next, worked-some}

-- where the lanes stand
abbrev pub seen : {R : Type 0} (G : Ghosts R) → List (Option (OpenRun R)) → ℕ → ℕ → Standing
seen G items begun ended = record { lanes = held_all G items; begun = begun; ended = ended }

-- what is seen in a lane
pub held_in-seen : {R : Type 0} (G : Ghosts R) (items : List (Option (OpenRun R))) (i begun ended : ℕ)
    → held_in (seen G items begun ended) (i + 1) ≡ option_map (held G) (get_or items i None)
held_in-seen G items i begun ended =
    let e : i + 1 - 1 ≡ i = omega arith in rw e (get_or-map (option_map (held G)) items i None)

pub held_all-set : {R : Type 0} (G : Ghosts R) (items : List (Option (OpenRun R))) (i : ℕ) (x : Option (OpenRun R))
    → held_all G (set items i x) ≡ set (held_all G items) (i + 1 - 1) (option_map (held G) x)
held_all-set G items i x =
    let e : i + 1 - 1 ≡ i = omega arith in rw e (map-set (option_map (held G)) items i x)

-- a lane takes a run
pub seen-next : {R : Type 0} (G : Ghosts R) (items : List (Option (OpenRun R))) (i begun ended : ℕ) (list : LoneRuns) (run : R)
    → get_or items i None ≡ None → begun < length list → G.wants run ≡ (run_of list (begun + 1)).units
    → seen G (set items i (Some (record { number = begun + 1; run = run }))) (begun + 1) ended
    ≡ taken list (i + 1) (seen G items begun ended)
seen-next G items i begun ended list run free more wants =
    let e : held_in (seen G items begun ended) (i + 1) ≡ None =
    held_in-seen G items i begun ended ∙ ap (option_map (held G)) free in
    rw (held_all-set, wants) (sym (taken-next list (i + 1) (seen G items begun ended) e more))

pub seen-busy : {R : Type 0} (G : Ghosts R) (items : List (Option (OpenRun R))) (i begun ended : ℕ) (list : LoneRuns) (r : OpenRun R)
    → get_or items i None ≡ Some r
    → seen G items begun ended ≡ taken list (i + 1) (seen G items begun ended)
seen-busy G items i begun ended list r is =
    sym (taken-busy list (i + 1) (seen G items begun ended) (held G r)
    (held_in-seen G items i begun ended ∙ ap (option_map (held G)) is))

-- its run goes on
pub seen-goes : {R : Type 0} (G : Ghosts R) (items : List (Option (OpenRun R))) (i begun ended units : ℕ) (old new : OpenRun R)
    → get_or items i None ≡ Some old → IsStillOf G units old new
    → worked (i + 1) units (seen G items begun ended)
    ≡ record { standing = seen G (set (set items i None) i (Some new)) begun ended; gives = None }
seen-goes G items i begun ended units old new is still =
    let e = worked-some (i + 1) units (seen G items begun ended) (held G old)
    (held_in-seen G items i begun ended ∙ ap (option_map (held G)) is) in
    let f = advanced-goes (i + 1) units (held G old) (seen G items begun ended) still.beyond in
    let n = still.number in let w = still.wants in
    e ∙ f ∙ rw (set-set, held_all-set, n, w) refl

-- or it ends
pub seen-ends : {R : Type 0} (G : Ghosts R) (items : List (Option (OpenRun R))) (i begun ended units : ℕ) (old : OpenRun R)
    → get_or items i None ≡ Some old → G.wants old.run ≤ units
    → worked (i + 1) units (seen G items begun ended)
    ≡ record { standing = seen G (set items i None) begun (ended + 1); gives = Some old.number }
seen-ends G items i begun ended units old is enough =
    let e = worked-some (i + 1) units (seen G items begun ended) (held G old)
    (held_in-seen G items i begun ended ∙ ap (option_map (held G)) is) in
    let f = advanced-ends (i + 1) units (held G old) (seen G items begun ended) enough in
    e ∙ f ∙ rw (held_all-set) refl

-- no run is left to take
pub seen-full : {R : Type 0} (G : Ghosts R) (items : List (Option (OpenRun R))) (i begun ended runs : ℕ) (list : LoneRuns)
    → runs ≤ length list → begun ≡ runs
    → seen G items begun ended ≡ taken (take runs list) (i + 1) (seen G items begun ended)
seen-full G items i begun ended runs list within full =
    let e = length-take-le runs list within in
    sym (taken-full (take runs list) (i + 1) (seen G items begun ended) (omega arith))

pub seen-kept : {R : Type 0} (G : Ghosts R) (items : List (Option (OpenRun R))) (i begun ended : ℕ) (list : LoneRuns)
    (x : Option (OpenRun R)) → is_some x ≡ true → get_or items i None ≡ x
    → seen G items begun ended ≡ taken list (i + 1) (seen G items begun ended)
seen-kept G items i begun ended list None some is = absurd cc
seen-kept G items i begun ended list (Some r) some is = seen-busy G items i begun ended list r is

pub none-is : {X : Type 0} (x : Option X) → is_some x ≡ false → x ≡ None
none-is None none = refl
none-is (Some x) none = absurd cc

-- ---- what is kept

pub run_of-take : (list : LoneRuns) (runs number : ℕ) → number - 1 < runs → run_of (take runs list) number ≡ run_of list number
run_of-take list runs number below = get_or-take runs list (number - 1) _ below

seen-at : {R : Type 0} (G : Ghosts R) (items : List (Option (OpenRun R))) (i : ℕ) (x : Option (OpenRun R))
    → get_or items i None ≡ x → get_or (held_all G items) i None ≡ option_map (held G) x
seen-at G items i x is = get_or-map (option_map (held G)) items i None ∙ ap (option_map (held G)) is

count-set : {R : Type 0} (G : Ghosts R) (items : List (Option (OpenRun R))) (i : ℕ) (x : Option (OpenRun R))
    → held_count (held_all G (set items i x)) ≡ held_count (set (held_all G items) i (option_map (held G) x))
count-set G items i x = ap held_count (map-set (option_map (held G)) items i x)

length-all : {R : Type 0} (G : Ghosts R) (items : List (Option (OpenRun R))) → length (held_all G items) ≡ length items
length-all G [] = refl
length-all G (x ∷ xs) = ap suc (length-all G xs)

pub within-items : {R : Type 0} (G : Ghosts R) (items : List (Option (OpenRun R))) (i : ℕ) → i < length (held_all G items) → i < length items
within-items G items i h = let e = length-all G items in omega arith

pub whole-next : {R : Type 0} (G : Ghosts R) (runs : ℕ) (list : LoneRuns) (items : List (Option (OpenRun R))) (begun ended : ℕ)
    (failed : Bool) (i : ℕ) (run : R)
    → IsWhole G runs list items begun ended failed → failed ≡ true → i < length items → get_or items i None ≡ None → begun < runs
    → G.has_ended run ≡ false → G.lone_text run ≡ (run_of list (begun + 1)).text
    → IsWhole G runs list (set items i (Some (record { number = begun + 1; run = run }))) (begun + 1) ended failed
whole-next {R = R} G runs list items begun ended failed i run w is_failed within free more going text =
    let x : Option (OpenRun R) = Some (record { number = begun + 1; run = run }) in
    let n = length-set items i x in
    let m = length-all G items in
    let a = count-set G items i x in
    let b = held_count-come (held_all G items) i (held G (record { number = begun + 1; run = run })) (omega arith) (seen-at G items i None free) in
    let here : begun + 1 - 1 < runs = omega arith in
    let most = w.most in
    record {
      runs_within = w.runs_within;
      begun_within = omega arith;
      some = rw n w.some;
      own = All-set (IsIn G (take runs list)) items i x
          (record { going = going; text = text ∙ sym (ap (λ r. r.text) (run_of-take list runs (begun + 1) here)) }) w.own;
      most = omega (arith, a, b, most);
      just = λ h. absurd cc;
    }

pub whole-free : {R : Type 0} (G : Ghosts R) (runs : ℕ) (list : LoneRuns) (items : List (Option (OpenRun R))) (begun ended : ℕ)
    (failed : Bool) (i : ℕ) (r : OpenRun R)
    → IsWhole G runs list items begun ended failed → failed ≡ true → get_or items i None ≡ Some r
    → IsWhole G runs list (set items i None) begun ended failed
whole-free G runs list items begun ended failed i r w is_failed is =
    let n = length-set items i None in
    let a = count-set G items i None in
    let b = held_count-leave (held_all G items) i (held G r) (seen-at G items i (Some r) is) in
    let most = w.most in
    record {
      runs_within = w.runs_within;
      begun_within = w.begun_within;
      some = rw n w.some;
      own = All-set (IsIn G (take runs list)) items i None tt w.own;
      most = omega (arith, a, b, most);
      just = λ h. absurd cc;
    }

pub whole-ends : {R : Type 0} (G : Ghosts R) (runs : ℕ) (list : LoneRuns) (items : List (Option (OpenRun R))) (begun ended : ℕ)
    (failed : Bool) (i : ℕ) (r : OpenRun R)
    → IsWhole G runs list items begun ended failed → failed ≡ true → get_or items i None ≡ Some r
    → IsWhole G runs list (set items i None) begun (ended + 1) failed
whole-ends G runs list items begun ended failed i r w is_failed is =
    let n = length-set items i None in
    let a = count-set G items i None in
    let b = held_count-leave (held_all G items) i (held G r) (seen-at G items i (Some r) is) in
    let most = w.most in
    record {
      runs_within = w.runs_within;
      begun_within = w.begun_within;
      some = rw n w.some;
      own = All-set (IsIn G (take runs list)) items i None tt w.own;
      most = omega (arith, a, b, most);
      just = λ h. absurd cc;
    }

-- one more run may end
pub ended-below : {R : Type 0} (G : Ghosts R) (runs : ℕ) (list : LoneRuns) (items : List (Option (OpenRun R))) (begun ended : ℕ)
    (failed : Bool) (i : ℕ) (r : OpenRun R)
    → IsWhole G runs list items begun ended failed → get_or items i None ≡ Some r → ended + 1 ≤ begun
ended-below G runs list items begun ended failed i r w is =
    let b = held_count-leave (held_all G items) i (held G r) (seen-at G items i (Some r) is) in
    let most = w.most in
    omega (arith, b, most)

-- the run that is open in a lane is of the list
pub own-at : {R : Type 0} (G : Ghosts R) (runs : ℕ) (list : LoneRuns) (items : List (Option (OpenRun R))) (begun ended : ℕ)
    (failed : Bool) (i : ℕ) (r : OpenRun R)
    → IsWhole G runs list items begun ended failed → i < length items → get_or items i None ≡ Some r → IsOf G (take runs list) r
own-at G runs list items begun ended failed i r w within is =
    subst (IsIn G (take runs list)) is (All-get_or (IsIn G (take runs list)) items i None within w.own)

pub whole-goes : {R : Type 0} (G : Ghosts R) (runs : ℕ) (list : LoneRuns) (items : List (Option (OpenRun R))) (begun ended units : ℕ)
    (failed : Bool) (i : ℕ) (old new : OpenRun R)
    → IsWhole G runs list items begun ended failed → failed ≡ true → i < length items → get_or items i None ≡ Some old
    → IsStillOf G units old new
    → IsWhole G runs list (set (set items i None) i (Some new)) begun ended failed
whole-goes G runs list items begun ended units failed i old new w is_failed within is still =
    let n = length-set items i (Some new) in
    let a = count-set G items i (Some new) in
    let b = held_count-stay (held_all G items) i (held G old) (held G new) (seen-at G items i (Some old) is) in
    let most = w.most in
    let own = own-at G runs list items begun ended failed i old w within is in
    let e = still.number in
    rw set-set (record {
      runs_within = w.runs_within;
      begun_within = w.begun_within;
      some = rw n w.some;
      own = All-set (IsIn G (take runs list)) items i (Some new)
          (record { going = still.going; text = still.text ∙ own.text ∙ ap (λ k. (run_of (take runs list) k).text) (sym e) }) w.own;
      most = omega (arith, a, b, most);
      just = λ h. absurd cc;
    })

-- ---- a new pool

pub held_all-free : {R : Type 0} (G : Ghosts R) (n : ℕ) → held_all G (replicate n None) ≡ replicate n None
held_all-free G zero = refl
held_all-free G (suc n) = ap (λ l. None ∷ l) (held_all-free G n)

count-free : (n : ℕ) → held_count (replicate n None) ≡ 0
count-free zero = refl
count-free (suc n) = count-free n

own-free : {R : Type 0} (G : Ghosts R) (list : LoneRuns) (n : ℕ) → All (IsIn G list) (replicate n None)
own-free {R = R} G list n =
    let free : Option (OpenRun R) = None in
    λ k d h. rw (get_or-replicate n k free d (omega (arith, length-replicate n free))) tt

pub whole-first : {R : Type 0} (G : Ghosts R) (runs : ℕ) (list : LoneRuns) (items : List (Option (OpenRun R))) (n : ℕ)
    → items ≡ replicate n None → 1 ≤ n → runs ≤ length list → IsWhole G runs list items 0 0 false
whole-first {R = R} G runs list items n is some within =
    let none : List (Option (OpenRun R)) = replicate n None in
    let free : Option (OpenRun R) = None in
    let e = length-replicate n free in
    let k : held_count (held_all G none) ≡ 0 = ap held_count (held_all-free G n) ∙ count-free n in
    rw is (record {
      runs_within = within;
      begun_within = omega arith;
      some = rw e some;
      own = own-free G (take runs list) n;
      most = omega (arith, k);
      just = λ h. omega (arith, k);
    })

pub held_all-first : {R : Type 0} (G : Ghosts R) (items : List (Option (OpenRun R))) (n : ℕ) → items ≡ replicate n None
    → held_all G items ≡ replicate n None
held_all-first G items n is = ap (held_all G) is ∙ held_all-free G n

-- ---- a turn that is done

pub whole-done : {R : Type 0} (G : Ghosts R) (runs : ℕ) (list : LoneRuns) (items : List (Option (OpenRun R))) (begun ended : ℕ)
    (failed : Bool) (s : Standing)
    → IsWhole G runs list items begun ended failed → seen G items begun ended ≡ s → IsSound (take runs list) s
    → IsWhole G runs list items begun ended false
whole-done G runs list items begun ended failed s w is sound =
    let now : IsSound (take runs list) (seen G items begun ended) = subst (IsSound (take runs list)) (sym is) sound in
    record {
      runs_within = w.runs_within;
      begun_within = w.begun_within;
      some = w.some;
      own = w.own;
      most = w.most;
      just = λ h. now.begun;
    }

pub seen-sound : {R : Type 0} (G : Ghosts R) (runs : ℕ) (list : LoneRuns) (items : List (Option (OpenRun R))) (begun ended : ℕ)
    (failed : Bool) → IsWhole G runs list items begun ended failed → failed ≡ false
    → IsSound (take runs list) (seen G items begun ended)
seen-sound G runs list items begun ended failed w going =
    let e = length-take-le runs list w.runs_within in
    let m = length-all G items in
    let b = w.begun_within in
    let n = w.some in
    record { begun = w.just going; within = omega (arith, e, b); some = omega (arith, m, n) }
