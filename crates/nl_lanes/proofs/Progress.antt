-- A round leaves less, so that rounds end.
use Rattle.std.proofs.Common.{◌≡◌, ℕ, zero, suc, ◌+◌, ◌-◌, ◌≤◌, ◌<◌, ◌⊎◌, inl, inr, List, [], ◌∷◌, ◌++◌, Bool, true, false, Option, Some, None, get_or, set, drop, length, refl, sym, ap, ◌∙◌, subst, add-one, arith, eq-eqb}
use Rattle.std.proofs.lemmas.Bool.{cases_lt}
use Rattle.std.proofs.lemmas.List.{drop_more, get_or-set_same}
use Rattle.nl_lanes.specs.Runs.{LoneRun, LoneRuns, run_of}
use Rattle.nl_lanes.specs.Turns.{Held, Standing, first_held, held_in, taken, turned, worked}
use Rattle.nl_lanes.specs.Rounds.{Ran, all_ended, left, left_in_lanes, left_of, round, rounds, rounds_from, turns_of_a_round}
use Rattle.nl_lanes.specs.Pools.{IsSound, held_count}
use Rattle.nl_lanes.proofs.Keeping.{with_next}
use Rattle.nl_lanes.proofs.Cases.{ended_at, gone_at, taken-cases, taken-full-cases, turned-is, turned-sound, worked-cases}
use Rattle.nl_lanes.proofs.Turning.{first_turns, first_turns-standing, round-is, turns-length}

left-come : (lanes : List (Option Held)) (i : ℕ) (h : Held) → i < length lanes → get_or lanes i None ≡ None
    → left_in_lanes (set lanes i (Some h)) ≡ h.wants + 1 + left_in_lanes lanes
left-come [] i h within is = absurd (omega arith)
left-come (None ∷ lanes) zero h within is = refl
left-come (Some x ∷ lanes) zero h within is = absurd cc
left-come (None ∷ lanes) (suc i) h within is = left-come lanes i h (omega arith) is
left-come (Some x ∷ lanes) (suc i) h within is =
    let e = left-come lanes i h (omega arith) is in omega (arith, e)

left-leave : (lanes : List (Option Held)) (i : ℕ) (h : Held) → get_or lanes i None ≡ Some h
    → left_in_lanes (set lanes i None) + (h.wants + 1) ≡ left_in_lanes lanes
left-leave [] i h is = absurd cc
left-leave (None ∷ lanes) zero h is = absurd cc
left-leave (Some x ∷ lanes) zero h is =
    let e : x ≡ h = cc in let f : x.wants ≡ h.wants = ap (λ (y : Held). y.wants) e in omega (arith, f)
left-leave (None ∷ lanes) (suc i) h is = left-leave lanes i h is
left-leave (Some x ∷ lanes) (suc i) h is = let e = left-leave lanes i h is in omega (arith, e)

left-stay : (lanes : List (Option Held)) (i : ℕ) (h new : Held) → get_or lanes i None ≡ Some h
    → left_in_lanes (set lanes i (Some new)) + (h.wants + 1) ≡ left_in_lanes lanes + (new.wants + 1)
left-stay [] i h new is = absurd cc
left-stay (None ∷ lanes) zero h new is = absurd cc
left-stay (Some x ∷ lanes) zero h new is =
    let e : x ≡ h = cc in let f : x.wants ≡ h.wants = ap (λ (y : Held). y.wants) e in omega (arith, f)
left-stay (None ∷ lanes) (suc i) h new is = left-stay lanes i h new is
left-stay (Some x ∷ lanes) (suc i) h new is = let e = left-stay lanes i h new is in omega (arith, e)

left_of-next : (list : LoneRuns) (begun : ℕ) → begun < length list
    → left_of (drop begun list) ≡ (run_of list (begun + 1)).units + 1 + left_of (drop (begun + 1) list)
left_of-next list begun more =
    let e : begun + 1 - 1 ≡ begun = omega arith in
    let d : LoneRun = record { text = []; units = 0 } in
    rw e (ap left_of (drop_more list begun d more))

left-is : (list : LoneRuns) (s : Standing) → left list s ≡ left_in_lanes s.lanes + left_of (drop s.begun list)
unfolding left
left-is list s = refl

taken-left : (list : LoneRuns) (lane : ℕ) (s : Standing) → lane - 1 < length s.lanes → left list (taken list lane s) ≡ left list s
taken-left list lane s within =
    taken-cases (λ t. left list t ≡ left list s) list lane s refl
    (λ free more.
    let a = left-come s.lanes (lane - 1) (first_held list (s.begun + 1)) within free in
    let b = left_of-next list s.begun more in
    let c = left-is list s in
    let d = left-is list (with_next list lane s) in
    omega (arith, a, b, c, d))

-- a turn in which nothing is done, or less is left
abbrev pub Idle : LoneRuns → ℕ → Standing → Standing → Type 0
Idle list lane s after = (held_in s lane ≡ None) × (length list ≤ s.begun) × (after ≡ s)

worked-left : (list : LoneRuns) (lane units : ℕ) (s : Standing) → 1 ≤ units
    → ((held_in s lane ≡ None) × ((worked lane units s).standing ≡ s)) ⊎ (left list (worked lane units s).standing < left list s)
worked-left list lane units s some =
    worked-cases (λ t. ((held_in s lane ≡ None) × (t.standing ≡ s)) ⊎ (left list t.standing < left list s)) lane units s
    (λ free. inl (free, refl))
    (λ h is enough.
    let a = left-leave s.lanes (lane - 1) h is in
    let c = left-is list s in
    let d = left-is list (ended_at lane h s).standing in
    inr (omega (arith, a, c, d)))
    (λ h is beyond.
    let new : Held = record h { wants = h.wants - units } in
    let a = left-stay s.lanes (lane - 1) h new is in
    let c = left-is list s in
    let d = left-is list (gone_at lane units h s).standing in
    inr (omega (arith, a, c, d)))

taken-idle : (list : LoneRuns) (lane : ℕ) (s : Standing) → lane - 1 < length s.lanes → held_in (taken list lane s) lane ≡ None
    → Idle list lane s (taken list lane s)
taken-idle list lane s within =
    taken-full-cases (λ t. held_in t lane ≡ None → Idle list lane s t) list lane s
    (λ full free. (free, full free, refl))
    (λ free more now.
    let e = get_or-set_same s.lanes (lane - 1) (Some (first_held list (s.begun + 1))) None within in absurd cc)

pub turned-left : (list : LoneRuns) (lane units : ℕ) (s : Standing) → 1 ≤ units → lane - 1 < length s.lanes
    → Idle list lane s (turned list lane units s).standing ⊎ (left list (turned list lane units s).standing < left list s)
turned-left list lane units s some within =
    let u = taken list lane s in
    let same = taken-left list lane s within in
    rw turned-is (elim (worked-left list lane units u some) [
      | inl idle ↦ let f = taken-idle list lane s within idle.0 in inl (f.0, f.1, idle.1 ∙ f.2)
      | inr less ↦ inr (omega (arith, same, less))
    ])

-- ---- a round

abbrev pub IdleTo : LoneRuns → ℕ → Standing → Standing → Type 0
IdleTo list lanes s after =
    ((k : ℕ) → k < lanes → get_or s.lanes k None ≡ None) × (0 < lanes → length list ≤ s.begun) × (after ≡ s)

step : (list : LoneRuns) (lanes : ℕ) (s u after : Standing)
    → IdleTo list lanes s u ⊎ (left list u < left list s)
    → Idle list (lanes + 1) u after ⊎ (left list after < left list u)
    → IdleTo list (suc lanes) s after ⊎ (left list after < left list s)
step list lanes s u after (inl idle) (inl last) =
    let at : lanes + 1 - 1 ≡ lanes = omega arith in
    let here : get_or s.lanes lanes None ≡ None =
    subst (λ (t : Standing). get_or t.lanes lanes None ≡ None) idle.2 (subst (λ n. get_or u.lanes n None ≡ None) at last.0) in
    let full : length list ≤ s.begun = subst (λ (t : Standing). length list ≤ t.begun) idle.2 last.1 in
    inl (
      (λ k below. elim (cases_lt k lanes) [
        | inl less ↦ idle.0 k less
        | inr most ↦ let is : lanes ≡ k = omega arith in subst (λ n. get_or s.lanes n None ≡ None) is here
      ]),
      (λ h. full),
      last.2 ∙ idle.2,
    )
step list lanes s u after (inl idle) (inr less) =
    let e : left list u ≡ left list s = ap (left list) idle.2 in inr (omega (arith, e, less))
step list lanes s u after (inr less) (inl last) =
    let e : left list after ≡ left list u = ap (left list) last.2 in inr (omega (arith, e, less))
step list lanes s u after (inr less) (inr last) = inr (omega arith)

first_turns-left : (list : LoneRuns) (lanes units : ℕ) (s : Standing) → 1 ≤ units → lanes ≤ length s.lanes
    → IdleTo list lanes s (first_turns list lanes units s).standing
    ⊎ (left list (first_turns list lanes units s).standing < left list s)
first_turns-left list zero units s some within = inl ((λ k below. absurd (omega arith)), (λ h. absurd (omega arith)), refl)
first_turns-left list (suc lanes) units s some within =
    let u = (first_turns list lanes units s).standing in
    let m : length u.lanes ≡ length s.lanes = turns-length list (turns_of_a_round lanes units) s in
    let at : lanes + 1 - 1 < length u.lanes = omega (arith, m) in
    let e : (first_turns list (suc lanes) units s).standing ≡ (turned list (lanes + 1) units u).standing =
    ap (λ n. (first_turns list n units s).standing) (sym (add-one lanes)) ∙ first_turns-standing list lanes units s in
    subst (λ after. IdleTo list (suc lanes) s after ⊎ (left list after < left list s)) (sym e)
    (step list lanes s u (turned list (lanes + 1) units u).standing
    (first_turns-left list lanes units s some (omega arith)) (turned-left list (lanes + 1) units u some at))

count-none : (lanes : List (Option Held)) → ((k : ℕ) → k < length lanes → get_or lanes k None ≡ None) → held_count lanes ≡ 0
count-none [] all = refl
count-none (None ∷ lanes) all = count-none lanes (λ k below. all (suc k) (omega arith))
count-none (Some h ∷ lanes) all = let e = all 0 (omega arith) in absurd cc

pub round-less : (list : LoneRuns) (units : ℕ) (s : Standing) → 1 ≤ units → IsSound list s → all_ended list s ≡ false
    → left list (round list units s).standing < left list s
round-less list units s some sound going =
    rw round-is (elim (first_turns-left list (length s.lanes) units s some (omega arith)) [
      | inl idle ↦
          let none = count-none s.lanes idle.0 in
          let full = idle.1 sound.some in
          let b = sound.begun in
          let w = sound.within in
          let e : s.ended ≡ length list = omega (arith, none, full, b, w) in
          let f = eq-eqb s.ended (length list) e in absurd cc
      | inr less ↦ less
    ])

first_turns-sound : (list : LoneRuns) (lanes units : ℕ) (s : Standing) → lanes ≤ length s.lanes → IsSound list s
    → IsSound list (first_turns list lanes units s).standing
first_turns-sound list zero units s within sound = sound
first_turns-sound list (suc lanes) units s within sound =
    let u = (first_turns list lanes units s).standing in
    let m : length u.lanes ≡ length s.lanes = turns-length list (turns_of_a_round lanes units) s in
    let at : lanes + 1 - 1 < length u.lanes = omega (arith, m) in
    let e : (first_turns list (suc lanes) units s).standing ≡ (turned list (lanes + 1) units u).standing =
    ap (λ n. (first_turns list n units s).standing) (sym (add-one lanes)) ∙ first_turns-standing list lanes units s in
    subst (IsSound list) (sym e)
    (turned-sound list (lanes + 1) units u at (first_turns-sound list lanes units s (omega arith) sound))

pub round-sound : (list : LoneRuns) (units : ℕ) (s : Standing) → IsSound list s → IsSound list (round list units s).standing
round-sound list units s sound = rw round-is (first_turns-sound list (length s.lanes) units s (omega arith) sound)

-- ---- rounds

-- rounds that follow one
abbrev pub after_round : LoneRuns → ℕ → Standing → Ran → Ran
after_round list units s rest = record rest { given = (round list units s).given ++ rest.given }

pub rounds_from-done : (most : ℕ) (list : LoneRuns) (units : ℕ) (s : Standing) → all_ended list s ≡ true
    → rounds_from most list units s ≡ record { standing = s; given = [] }
rounds_from-done zero list units s done = refl
rounds_from-done (suc most) list units s done = rw done refl

pub rounds_from-step : (most : ℕ) (list : LoneRuns) (units : ℕ) (s : Standing) → all_ended list s ≡ false
    → rounds_from (suc most) list units s
    ≡ after_round list units s (rounds_from most list units (round list units s).standing)
rounds_from-step most list units s going = rw going refl

both : (m n : ℕ) (list : LoneRuns) (units : ℕ) (s : Standing) → 1 ≤ units → IsSound list s → left list s ≤ m → left list s ≤ n
    → (b : Bool) → all_ended list s ≡ b → rounds_from m list units s ≡ rounds_from n list units s
both m n list units s some sound one two true is =
    rounds_from-done m list units s is ∙ sym (rounds_from-done n list units s is)
both zero n list units s some sound one two false is =
    let less = round-less list units s some sound is in absurd (omega (arith, less, one))
both (suc m) zero list units s some sound one two false is =
    let less = round-less list units s some sound is in absurd (omega (arith, less, two))
both (suc m) (suc n) list units s some sound one two false is =
    let less = round-less list units s some sound is in
    let t = (round list units s).standing in
    rounds_from-step m list units s is
    ∙ ap (after_round list units s)
    (both m n list units t some (round-sound list units s sound) (omega (arith, less, one)) (omega (arith, less, two)) (all_ended list t) refl)
    ∙ sym (rounds_from-step n list units s is)

pub rounds-is : (list : LoneRuns) (units : ℕ) (s : Standing) → rounds list units s ≡ rounds_from (left list s) list units s
unfolding rounds
rounds-is list units s = refl

pub rounds-any : (most : ℕ) (list : LoneRuns) (units : ℕ) (s : Standing) → 1 ≤ units → IsSound list s → left list s ≤ most
    → rounds_from most list units s ≡ rounds list units s
rounds-any most list units s some sound within =
    both most (left list s) list units s some sound within (omega arith) (all_ended list s) refl ∙ sym (rounds-is list units s)

pub rounds-done : (list : LoneRuns) (units : ℕ) (s : Standing) → all_ended list s ≡ true
    → rounds list units s ≡ record { standing = s; given = [] }
rounds-done list units s done = rounds-is list units s ∙ rounds_from-done (left list s) list units s done

pub rounds-step : (list : LoneRuns) (units : ℕ) (s : Standing) → 1 ≤ units → IsSound list s → all_ended list s ≡ false
    → rounds list units s ≡ after_round list units s (rounds list units (round list units s).standing)
rounds-step list units s some sound going =
    let less = round-less list units s some sound going in
    let t = (round list units s).standing in
    sym (rounds-any (suc (left list s)) list units s some sound (omega arith))
    ∙ rounds_from-step (left list s) list units s going
    ∙ ap (after_round list units s)
    (rounds-any (left list s) list units t some (round-sound list units s sound) (omega (arith, less)))
