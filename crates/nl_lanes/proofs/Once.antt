-- Runs that have begun have given their texts or are in lanes, each of them once.
use Rattle.std.proofs.Common.{◌≡◌, ℕ, zero, suc, ◌+◌, ◌-◌, ◌<◌, List, [], ◌∷◌, ◌++◌, Option, Some, None, All, get_or, set, length, refl, sym, ap, ◌∙◌, subst, add-one, append_assoc, append-nil, arith}
use Rattle.std.specs.List.Sorted.{IsPermutation}
use Rattle.std.proofs.lemmas.List.Sorted.{IsPermutation-refl, IsPermutation-sym, IsPermutation-trans, IsPermutation-to_front, IsPermutation-append_right, IsPermutation-cons, IsPermutation-middle}
use Rattle.nl_lanes.specs.Runs.{LoneRuns, up_to}
use Rattle.nl_lanes.specs.Turns.{Held, Standing, first_held, taken, turned, worked}
use Rattle.nl_lanes.specs.Rounds.{Turn, before, turns}
use Rattle.nl_lanes.specs.Laws.{IsOfLanes, numbers_in}
use Rattle.nl_lanes.proofs.Cases.{taken-cases, turned-is, turned-length, worked-cases}
use Rattle.nl_lanes.proofs.Turning.{before-append}
use Rattle.nl_lanes.proofs.Ends.{All-first, All-rest}

swapped : (a b : ℕ) (l : List ℕ) → IsPermutation (a ∷ b ∷ l) (b ∷ a ∷ l)
swapped a b l = IsPermutation-middle (a ∷ []) b l

numbers-come : (lanes : List (Option Held)) (i : ℕ) (h : Held) → i < length lanes → get_or lanes i None ≡ None
    → IsPermutation (numbers_in (set lanes i (Some h))) (h.number ∷ numbers_in lanes)
numbers-come [] i h within is = absurd (omega arith)
numbers-come (None ∷ lanes) zero h within is = IsPermutation-refl (h.number ∷ numbers_in lanes)
numbers-come (Some x ∷ lanes) zero h within is = absurd cc
numbers-come (None ∷ lanes) (suc i) h within is = numbers-come lanes i h (omega arith) is
numbers-come (Some x ∷ lanes) (suc i) h within is =
    IsPermutation-trans _ _ _ (IsPermutation-cons x.number _ _ (numbers-come lanes i h (omega arith) is))
    (swapped x.number h.number (numbers_in lanes))

numbers-leave : (lanes : List (Option Held)) (i : ℕ) (h : Held) → get_or lanes i None ≡ Some h
    → IsPermutation (h.number ∷ numbers_in (set lanes i None)) (numbers_in lanes)
numbers-leave [] i h is = absurd cc
numbers-leave (None ∷ lanes) zero h is = absurd cc
numbers-leave (Some x ∷ lanes) zero h is =
    let e : h.number ≡ x.number = cc in rw e (IsPermutation-refl (x.number ∷ numbers_in lanes))
numbers-leave (None ∷ lanes) (suc i) h is = numbers-leave lanes i h is
numbers-leave (Some x ∷ lanes) (suc i) h is =
    IsPermutation-trans _ _ _ (swapped h.number x.number (numbers_in (set lanes i None)))
    (IsPermutation-cons x.number _ _ (numbers-leave lanes i h is))

pub numbers-stay : (lanes : List (Option Held)) (i : ℕ) (h new : Held) → get_or lanes i None ≡ Some h → new.number ≡ h.number
    → numbers_in (set lanes i (Some new)) ≡ numbers_in lanes
numbers-stay [] i h new is same = absurd cc
numbers-stay (None ∷ lanes) zero h new is same = absurd cc
numbers-stay (Some x ∷ lanes) zero h new is same =
    let e : new.number ≡ x.number = cc in ap (λ n. n ∷ numbers_in lanes) e
numbers-stay (None ∷ lanes) (suc i) h new is same = numbers-stay lanes i h new is same
numbers-stay (Some x ∷ lanes) (suc i) h new is same = ap (λ l. x.number ∷ l) (numbers-stay lanes i h new is same)

-- those that were given and those in lanes are those that have begun
abbrev pub Once : List ℕ → Standing → Type 0
Once given s = IsPermutation (given ++ numbers_in s.lanes) (up_to s.begun)

taken-once : (list : LoneRuns) (lane : ℕ) (s : Standing) (given : List ℕ) → lane - 1 < length s.lanes → Once given s
    → Once given (taken list lane s)
taken-once list lane s given within once =
    taken-cases (Once given) list lane s once
    (λ free more.
    let n = s.begun + 1 in
    let h = first_held list n in
    let after = numbers_in (set s.lanes (lane - 1) (Some h)) in
    let a = IsPermutation-append_right given after (n ∷ numbers_in s.lanes) (numbers-come s.lanes (lane - 1) h within free) in
    let b = IsPermutation-middle given n (numbers_in s.lanes) in
    let c = IsPermutation-cons n _ _ once in
    let d = IsPermutation-sym _ _ (IsPermutation-to_front (up_to s.begun) n) in
    let all : IsPermutation (given ++ after) (up_to s.begun ++ n ∷ []) =
    IsPermutation-trans _ _ _ a (IsPermutation-trans _ _ _ b (IsPermutation-trans _ _ _ c d)) in
    subst (λ (k : ℕ). IsPermutation (given ++ after) (up_to k)) (sym (add-one s.begun)) all)

worked-once : (lane units : ℕ) (s : Standing) (given : List ℕ) → Once given s
    → Once (given ++ before (worked lane units s).gives []) (worked lane units s).standing
worked-once lane units s given once =
    worked-cases (λ t. Once (given ++ before t.gives []) t.standing) lane units s
    (λ free. rw append-nil once)
    (λ h is enough.
    let after = numbers_in (set s.lanes (lane - 1) None) in
    let a = IsPermutation-append_right given (h.number ∷ after) (numbers_in s.lanes) (numbers-leave s.lanes (lane - 1) h is) in
    let b : IsPermutation (given ++ (h.number ∷ after)) (up_to s.begun) = IsPermutation-trans _ _ _ a once in
    subst (λ (l : List ℕ). IsPermutation l (up_to s.begun)) (sym (append_assoc given (h.number ∷ []) after)) b)
    (λ h is beyond.
    let new : Held = record h { wants = h.wants - units } in
    let e = numbers-stay s.lanes (lane - 1) h new is refl in
    let f : given ++ [] ++ numbers_in (set s.lanes (lane - 1) (Some new)) ≡ given ++ numbers_in s.lanes =
    ap (λ l. l ++ numbers_in (set s.lanes (lane - 1) (Some new))) (append-nil given) ∙ ap (λ l. given ++ l) e in
    subst (λ (l : List ℕ). IsPermutation l (up_to s.begun)) (sym f) once)

turned-once : (list : LoneRuns) (lane units : ℕ) (s : Standing) (given : List ℕ) → lane - 1 < length s.lanes → Once given s
    → Once (given ++ before (turned list lane units s).gives []) (turned list lane units s).standing
turned-once list lane units s given within once =
    rw turned-is (worked-once lane units (taken list lane s) given (taken-once list lane s given within once))

pub turns-once : (list : LoneRuns) (lanes : ℕ) (ts : List Turn) (s : Standing) (given : List ℕ) → length s.lanes ≡ lanes
    → All (IsOfLanes lanes) ts → Once given s
    → Once (given ++ (turns list ts s).given) (turns list ts s).standing
turns-once list lanes [] s given count all once = rw append-nil once
turns-once list lanes (t ∷ ts) s given count all once =
    let here = All-first (IsOfLanes lanes) t ts all in
    let low = here.0 in
    let high = here.1 in
    let within : t.lane - 1 < length s.lanes = omega (arith, low, high, count) in
    let one = turned list t.lane t.units s in
    let n : length one.standing.lanes ≡ lanes = turned-length list t.lane t.units s ∙ count in
    let rest = turns-once list lanes ts one.standing (given ++ before one.gives []) n (All-rest (IsOfLanes lanes) t ts all)
    (turned-once list t.lane t.units s given within once) in
    let e : given ++ before one.gives [] ++ (turns list ts one.standing).given
    ≡ given ++ before one.gives (turns list ts one.standing).given =
    append_assoc given (before one.gives []) (turns list ts one.standing).given
    ∙ ap (λ l. given ++ l) (sym (before-append one.gives (turns list ts one.standing).given)) in
    subst (λ (l : List ℕ). Once l (turns list ts one.standing).standing) e rest
