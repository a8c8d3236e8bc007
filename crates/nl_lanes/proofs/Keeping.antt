-- What a turn does to the lanes as they are kept, and to the counts.
use Rattle.std.proofs.Common.{◌≡◌, ℕ, zero, suc, ◌+◌, ◌-◌, ◌≤◌, ◌<◌, ◌&&◌, List, [], ◌∷◌, Bool, true, false, cond, Option, Some, None, get_or, set, length, refl, ap, arith, is_none, nat_le}
use Rattle.std.proofs.lemmas.Bool.{lt-ltb, le-ltb, le-leb}
use Rattle.nl_lanes.specs.Runs.{LoneRuns}
use Rattle.nl_lanes.specs.Turns.{Held, Standing, advanced, advanced_in, first_held, held_in, taken, with_held, worked}
use Rattle.nl_lanes.specs.Pools.{held_count}

-- ---- cases of the definitions

pub taken-full : (list : LoneRuns) (lane : ℕ) (s : Standing) → length list ≤ s.begun → taken list lane s ≡ s
taken-full list lane s full =
    let e = le-ltb s.begun (length list) full in
    let f : (b : Bool) (x : Standing) → cond (b && false) x s ≡ s = elim [ true ↦ λ x. refl | false ↦ λ x. refl ] in
    rw e (f (is_none (held_in s lane)) _)

pub taken-busy : (list : LoneRuns) (lane : ℕ) (s : Standing) (held : Held) → held_in s lane ≡ Some held → taken list lane s ≡ s
taken-busy list lane s held is = rw is refl

-- the lane with the least run that hasn't begun
abbrev pub with_next : LoneRuns → ℕ → Standing → Standing
with_next list lane s = record (with_held s lane (Some (first_held list (s.begun + 1)))) { begun = s.begun + 1 }

pub taken-next : (list : LoneRuns) (lane : ℕ) (s : Standing) → held_in s lane ≡ None → s.begun < length list
    → taken list lane s ≡ with_next list lane s
taken-next list lane s free more = rw (free, lt-ltb s.begun (length list) more) refl

pub worked-none : (lane units : ℕ) (s : Standing) → held_in s lane ≡ None
    → worked lane units s ≡ record { standing = s; gives = None }
worked-none lane units s free = rw free refl

pub worked-some : (lane units : ℕ) (s : Standing) (held : Held) → held_in s lane ≡ Some held
    → worked lane units s ≡ advanced lane units held s
worked-some lane units s held is = ap (λ h. advanced_in lane units h s) is

pub advanced-ends : (lane units : ℕ) (held : Held) (s : Standing) → held.wants ≤ units
    → advanced lane units held s
    ≡ record { standing = record (with_held s lane None) { ended = s.ended + 1 }; gives = Some held.number }
advanced-ends lane units held s enough =
    rw (le-leb held.wants units enough) refl

pub advanced-goes : (lane units : ℕ) (held : Held) (s : Standing) → units < held.wants
    → advanced lane units held s
    ≡ record { standing = with_held s lane (Some (record held { wants = held.wants - units })); gives = None }
advanced-goes lane units held s beyond =
    let e : nat_le held.wants units ≡ false = grind (arith) in rw e refl

-- ---- counts

-- a run comes into a lane
pub held_count-come : (lanes : List (Option Held)) (i : ℕ) (h : Held) → i < length lanes → get_or lanes i None ≡ None
    → held_count (set lanes i (Some h)) ≡ held_count lanes + 1
held_count-come [] i h within is = absurd (omega arith)
held_count-come (None ∷ lanes) zero h within is = refl
held_count-come (Some x ∷ lanes) zero h within is = absurd cc
held_count-come (None ∷ lanes) (suc i) h within is = held_count-come lanes i h (omega arith) is
held_count-come (Some x ∷ lanes) (suc i) h within is = ap (λ n. n + 1) (held_count-come lanes i h (omega arith) is)

-- and leaves it
pub held_count-leave : (lanes : List (Option Held)) (i : ℕ) (h : Held) → get_or lanes i None ≡ Some h
    → held_count (set lanes i None) + 1 ≡ held_count lanes
held_count-leave [] i h is = absurd cc
held_count-leave (None ∷ lanes) zero h is = absurd cc
held_count-leave (Some x ∷ lanes) zero h is = refl
held_count-leave (None ∷ lanes) (suc i) h is = held_count-leave lanes i h is
held_count-leave (Some x ∷ lanes) (suc i) h is = ap (λ n. n + 1) (held_count-leave lanes i h is)

-- or goes on in it
pub held_count-stay : (lanes : List (Option Held)) (i : ℕ) (h new : Held) → get_or lanes i None ≡ Some h
    → held_count (set lanes i (Some new)) ≡ held_count lanes
held_count-stay [] i h new is = absurd cc
held_count-stay (None ∷ lanes) zero h new is = absurd cc
held_count-stay (Some x ∷ lanes) zero h new is = refl
held_count-stay (None ∷ lanes) (suc i) h new is = held_count-stay lanes i h new is
held_count-stay (Some x ∷ lanes) (suc i) h new is = ap (λ n. n + 1) (held_count-stay lanes i h new is)
