-- The cases of a turn, and what each of them keeps.
use Rattle.std.proofs.Common.{◌≡◌, ℕ, ◌+◌, ◌-◌, ◌≤◌, ◌<◌, Bool, true, false, Option, Some, None, length, refl, sym, ap, ◌∙◌, subst, arith, nat_lt}
use Rattle.std.proofs.lemmas.Bool.{ltb-true, ltb-false}
use Rattle.std.proofs.lemmas.List.{length-set}
use Rattle.nl_lanes.specs.Runs.{LoneRuns}
use Rattle.nl_lanes.specs.Turns.{Held, Standing, Turned, advanced, first_held, held_in, taken, turned, with_held, worked}
use Rattle.nl_lanes.specs.Pools.{IsSound}
use Rattle.nl_lanes.proofs.Keeping.{advanced-ends, advanced-goes, held_count-come, held_count-leave, held_count-stay, taken-busy, taken-full, taken-next, with_next, worked-none, worked-some}

-- what a turn leaves where the run ends, and where it goes on
abbrev pub ended_at : ℕ → Held → Standing → Turned
ended_at lane h s = record { standing = record (with_held s lane None) { ended = s.ended + 1 }; gives = Some h.number }

abbrev pub gone_at : ℕ → ℕ → Held → Standing → Turned
gone_at lane units h s =
    record { standing = with_held s lane (Some (record h { wants = h.wants - units })); gives = None }

taken-at : (P : Standing → Type 0) (list : LoneRuns) (lane : ℕ) (s : Standing) (o : Option Held) (b : Bool)
    → held_in s lane ≡ o → nat_lt s.begun (length list) ≡ b
    → P s → (held_in s lane ≡ None → s.begun < length list → P (with_next list lane s))
    → P (taken list lane s)
taken-at P list lane s (Some h) b is more same next = subst P (sym (taken-busy list lane s h is)) same
taken-at P list lane s None true is more same next =
    let below = ltb-true s.begun (length list) more in
    subst P (sym (taken-next list lane s is below)) (next is below)
taken-at P list lane s None false is more same next =
    subst P (sym (taken-full list lane s (ltb-false s.begun (length list) more))) same

pub taken-cases : (P : Standing → Type 0) (list : LoneRuns) (lane : ℕ) (s : Standing)
    → P s → (held_in s lane ≡ None → s.begun < length list → P (with_next list lane s))
    → P (taken list lane s)
taken-cases P list lane s same next = taken-at P list lane s (held_in s lane) (nat_lt s.begun (length list)) refl refl same next

taken-full-at : (P : Standing → Type 0) (list : LoneRuns) (lane : ℕ) (s : Standing) (o : Option Held) (b : Bool)
    → held_in s lane ≡ o → nat_lt s.begun (length list) ≡ b
    → ((held_in s lane ≡ None → length list ≤ s.begun) → P s)
    → (held_in s lane ≡ None → s.begun < length list → P (with_next list lane s))
    → P (taken list lane s)
taken-full-at P list lane s (Some h) b is more same next =
    subst P (sym (taken-busy list lane s h is)) (same (λ free. absurd cc))
taken-full-at P list lane s None true is more same next =
    let below = ltb-true s.begun (length list) more in
    subst P (sym (taken-next list lane s is below)) (next is below)
taken-full-at P list lane s None false is more same next =
    let full = ltb-false s.begun (length list) more in
    subst P (sym (taken-full list lane s full)) (same (λ free. full))

-- the same, with why a free lane takes none
pub taken-full-cases : (P : Standing → Type 0) (list : LoneRuns) (lane : ℕ) (s : Standing)
    → ((held_in s lane ≡ None → length list ≤ s.begun) → P s)
    → (held_in s lane ≡ None → s.begun < length list → P (with_next list lane s))
    → P (taken list lane s)
taken-full-cases P list lane s same next =
    taken-full-at P list lane s (held_in s lane) (nat_lt s.begun (length list)) refl refl same next

advanced-at : (P : Turned → Type 0) (lane units : ℕ) (h : Held) (s : Standing) (b : Bool) → nat_lt units h.wants ≡ b
    → (h.wants ≤ units → P (ended_at lane h s)) → (units < h.wants → P (gone_at lane units h s)) → P (advanced lane units h s)
advanced-at P lane units h s true is ends goes =
    let beyond = ltb-true units h.wants is in subst P (sym (advanced-goes lane units h s beyond)) (goes beyond)
advanced-at P lane units h s false is ends goes =
    let enough = ltb-false units h.wants is in subst P (sym (advanced-ends lane units h s enough)) (ends enough)

worked-at : (P : Turned → Type 0) (lane units : ℕ) (s : Standing) (o : Option Held) → held_in s lane ≡ o
    → (held_in s lane ≡ None → P (record { standing = s; gives = None }))
    → ((h : Held) → held_in s lane ≡ Some h → h.wants ≤ units → P (ended_at lane h s))
    → ((h : Held) → held_in s lane ≡ Some h → units < h.wants → P (gone_at lane units h s))
    → P (worked lane units s)
worked-at P lane units s None is free ends goes = subst P (sym (worked-none lane units s is)) (free is)
worked-at P lane units s (Some h) is free ends goes =
    subst P (sym (worked-some lane units s h is)) (advanced-at P lane units h s (nat_lt units h.wants) refl (ends h is) (goes h is))

pub worked-cases : (P : Turned → Type 0) (lane units : ℕ) (s : Standing)
    → (held_in s lane ≡ None → P (record { standing = s; gives = None }))
    → ((h : Held) → held_in s lane ≡ Some h → h.wants ≤ units → P (ended_at lane h s))
    → ((h : Held) → held_in s lane ≡ Some h → units < h.wants → P (gone_at lane units h s))
    → P (worked lane units s)
worked-cases P lane units s free ends goes = worked-at P lane units s (held_in s lane) refl free ends goes

pub turned-is : (list : LoneRuns) (lane units : ℕ) (s : Standing) → turned list lane units s ≡ worked lane units (taken list lane s)
unfolding turned
turned-is list lane units s = refl

-- ---- soundness

pub taken-sound : (list : LoneRuns) (lane : ℕ) (s : Standing) → lane - 1 < length s.lanes → IsSound list s
    → IsSound list (taken list lane s)
taken-sound list lane s within sound =
    taken-cases (IsSound list) list lane s sound
    (λ free more.
    let h = first_held list (s.begun + 1) in
    let b = sound.begun in
    let n = length-set s.lanes (lane - 1) (Some h) in
    let e = held_count-come s.lanes (lane - 1) h within free in
    record { begun = omega (arith, e, b); within = omega arith; some = rw n sound.some })

pub worked-sound : (list : LoneRuns) (lane units : ℕ) (s : Standing) → IsSound list s
    → IsSound list (worked lane units s).standing
worked-sound list lane units s sound =
    worked-cases (λ t. IsSound list t.standing) lane units s
    (λ free. sound)
    (λ h is enough.
    let b = sound.begun in
    let n = length-set s.lanes (lane - 1) None in
    let e = held_count-leave s.lanes (lane - 1) h is in
    record { begun = omega (arith, e, b); within = sound.within; some = rw n sound.some })
    (λ h is beyond.
    let new : Held = record h { wants = h.wants - units } in
    let b = sound.begun in
    let n = length-set s.lanes (lane - 1) (Some new) in
    let e = held_count-stay s.lanes (lane - 1) h new is in
    record { begun = omega (arith, e, b); within = sound.within; some = rw n sound.some })

pub taken-length : (list : LoneRuns) (lane : ℕ) (s : Standing) → length (taken list lane s).lanes ≡ length s.lanes
taken-length list lane s =
    taken-cases (λ t. length t.lanes ≡ length s.lanes) list lane s refl
    (λ free more. length-set s.lanes (lane - 1) (Some (first_held list (s.begun + 1))))

pub worked-length : (lane units : ℕ) (s : Standing) → length (worked lane units s).standing.lanes ≡ length s.lanes
worked-length lane units s =
    worked-cases (λ t. length t.standing.lanes ≡ length s.lanes) lane units s
    (λ free. refl)
    (λ h is enough. length-set s.lanes (lane - 1) None)
    (λ h is beyond. length-set s.lanes (lane - 1) (Some (record h { wants = h.wants - units })))

pub turned-length : (list : LoneRuns) (lane units : ℕ) (s : Standing)
    → length (turned list lane units s).standing.lanes ≡ length s.lanes
turned-length list lane units s =
    ap (λ (t : Turned). length t.standing.lanes) (turned-is list lane units s)
    ∙ worked-length lane units (taken list lane s) ∙ taken-length list lane s

pub turned-sound : (list : LoneRuns) (lane units : ℕ) (s : Standing) → lane - 1 < length s.lanes → IsSound list s
    → IsSound list (turned list lane units s).standing
turned-sound list lane units s within sound =
    rw turned-is (worked-sound list lane units (taken list lane s) (taken-sound list lane s within sound))
