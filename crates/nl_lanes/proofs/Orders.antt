-- One lane gives the texts in order, and so do units enough for each run.
use Rattle.std.proofs.Common.{◌≡◌, ℕ, zero, suc, ◌+◌, ◌-◌, ◌≤◌, ◌<◌, inl, inr, List, [], ◌∷◌, ◌++◌, true, Option, Some, None, All, get_or, set, take, replicate, length, refl, sym, ap, ◌∙◌, subst, add-one, append_assoc, append-nil, length-append, arith}
use Rattle.std.specs.List.Sorted.{IsPermutation}
use Rattle.std.proofs.lemmas.Bool.{cases_lt}
use Rattle.std.proofs.lemmas.List.{get_or-set_same, length-replicate, set-get_or, set-set, take-append-le, take_all, take_at}
use Rattle.nl_lanes.specs.Runs.{LoneRun, LoneRuns, run_of, texts_of, up_to}
use Rattle.nl_lanes.specs.Turns.{Held, Standing, Turned, first_held, first_standing, taken, turned, worked}
use Rattle.nl_lanes.specs.Rounds.{Ran, Turn, all_ended, before, rounds, turns}
use Rattle.nl_lanes.specs.Pools.{IsSound, held_count}
use Rattle.nl_lanes.specs.Laws.{EnoughUnitsGiveInOrder, IsOfLanes, OneLaneGivesInOrder, OneLaneIsInOrder, RoundsGiveAll, all_texts, numbers_in, turns_of}
use Rattle.nl_lanes.proofs.Keeping.{advanced-ends, with_next, worked-none, worked-some}
use Rattle.nl_lanes.proofs.Cases.{taken-cases, taken-full-cases, turned-is, turned-length, worked-cases}
use Rattle.nl_lanes.proofs.Turning.{before-append}
use Rattle.nl_lanes.proofs.Ends.{HasUnits, All-first, All-rest, rounds-turns, rounds_end_all}
use Rattle.nl_lanes.proofs.Once.{numbers-stay}
use Rattle.nl_lanes.proofs.Counts.{all_ended_give_all, all_numbers, ended_give, length-up_to, texts-all}

-- ---- rounds of a new pool

count-free : (n : ℕ) → held_count (replicate n None) ≡ 0
count-free zero = refl
count-free (suc n) = count-free n

first-sound : (list : LoneRuns) (lanes : ℕ) → 1 ≤ lanes → IsSound list (first_standing lanes)
first-sound list lanes some =
    let free : Option Held = None in
    let e = count-free lanes in
    let n = length-replicate lanes free in
    record { begun = omega (arith, e); within = omega arith; some = omega (arith, n, some) }

-- the turns that they are
pub record NewTurns (list : LoneRuns) (lanes units : ℕ) : Type 0 where
  pub ts : List Turn
  pub same : All (HasUnits units) ts
  pub lanes_in : All (IsOfLanes lanes) ts
  pub is : rounds list units (first_standing lanes) ≡ turns_of list lanes ts
  pub done : all_ended list (turns_of list lanes ts).standing ≡ true

pub new_turns : (list : LoneRuns) (lanes units : ℕ) → 1 ≤ lanes → 1 ≤ units → NewTurns list lanes units
new_turns list lanes units has some =
    let free : Option Held = None in
    let r = rounds-turns list units (first_standing lanes) in
    let n = length-replicate lanes free in
    record {
      ts = r.ts;
      same = r.same;
      lanes_in = subst (λ (count : ℕ). All (IsOfLanes count) r.ts) n r.lanes;
      is = r.is;
      done = ap (λ (x : Ran). all_ended list x.standing) (sym r.is)
          ∙ rounds_end_all list units (first_standing lanes) some (first-sound list lanes has);
    }

pub rounds_give_all : RoundsGiveAll
rounds_give_all list lanes units has some =
    let t = new_turns list lanes units has some in
    subst (λ (x : Ran). IsPermutation (texts_of list x.given) (all_texts list)) (sym t.is)
    (all_ended_give_all list lanes t.ts t.lanes_in t.done)

-- ---- one lane

one-come : (lanes : List (Option Held)) (i : ℕ) (h : Held) → i ≡ 0 → length lanes ≡ 1 → get_or lanes i None ≡ None
    → numbers_in (set lanes i (Some h)) ≡ numbers_in lanes ++ h.number ∷ []
one-come [] i h first one is = absurd (omega arith)
one-come (x ∷ lanes) (suc i) h first one is = absurd (omega arith)
one-come (Some x ∷ lanes) zero h first one is = absurd cc
one-come (None ∷ []) zero h first one is = refl
one-come (None ∷ x ∷ lanes) zero h first one is = absurd (omega arith)

one-leave : (lanes : List (Option Held)) (i : ℕ) (h : Held) → i ≡ 0 → get_or lanes i None ≡ Some h
    → numbers_in lanes ≡ h.number ∷ numbers_in (set lanes i None)
one-leave [] i h first is = absurd cc
one-leave (x ∷ lanes) (suc i) h first is = absurd (omega arith)
one-leave (None ∷ lanes) zero h first is = absurd cc
one-leave (Some x ∷ lanes) zero h first is = let e : x.number ≡ h.number = cc in ap (λ n. n ∷ numbers_in lanes) e

abbrev pub InOrder : List ℕ → Standing → Type 0
InOrder given s = given ++ numbers_in s.lanes ≡ up_to s.begun

taken-order : (list : LoneRuns) (lane : ℕ) (s : Standing) (given : List ℕ) → lane - 1 ≡ 0 → length s.lanes ≡ 1 → InOrder given s
    → InOrder given (taken list lane s)
taken-order list lane s given first one order =
    taken-cases (InOrder given) list lane s order
    (λ free more.
    let n = s.begun + 1 in
    let e = one-come s.lanes (lane - 1) (first_held list n) first one free in
    ap (λ l. given ++ l) e ∙ sym (append_assoc given (numbers_in s.lanes) (n ∷ []))
    ∙ ap (λ l. l ++ n ∷ []) order ∙ ap up_to (sym (add-one s.begun)))

worked-order : (lane units : ℕ) (s : Standing) (given : List ℕ) → lane - 1 ≡ 0 → InOrder given s
    → InOrder (given ++ before (worked lane units s).gives []) (worked lane units s).standing
worked-order lane units s given first order =
    worked-cases (λ t. InOrder (given ++ before t.gives []) t.standing) lane units s
    (λ free. ap (λ l. l ++ numbers_in s.lanes) (append-nil given) ∙ order)
    (λ h is enough.
    append_assoc given (h.number ∷ []) (numbers_in (set s.lanes (lane - 1) None))
    ∙ ap (λ l. given ++ l) (sym (one-leave s.lanes (lane - 1) h first is)) ∙ order)
    (λ h is beyond.
    let new : Held = record h { wants = h.wants - units } in
    ap (λ l. l ++ numbers_in (set s.lanes (lane - 1) (Some new))) (append-nil given)
    ∙ ap (λ l. given ++ l) (numbers-stay s.lanes (lane - 1) h new is refl) ∙ order)

turned-order : (list : LoneRuns) (lane units : ℕ) (s : Standing) (given : List ℕ) → lane - 1 ≡ 0 → length s.lanes ≡ 1
    → InOrder given s → InOrder (given ++ before (turned list lane units s).gives []) (turned list lane units s).standing
turned-order list lane units s given first one order =
    rw turned-is (worked-order lane units (taken list lane s) given first (taken-order list lane s given first one order))

turns-order : (list : LoneRuns) (ts : List Turn) (s : Standing) (given : List ℕ) → length s.lanes ≡ 1
    → All (IsOfLanes 1) ts → InOrder given s → InOrder (given ++ (turns list ts s).given) (turns list ts s).standing
turns-order list [] s given one all order = ap (λ l. l ++ numbers_in s.lanes) (append-nil given) ∙ order
turns-order list (t ∷ ts) s given one all order =
    let here = All-first (IsOfLanes 1) t ts all in
    let low = here.0 in
    let high = here.1 in
    let first : t.lane - 1 ≡ 0 = omega (arith, low, high) in
    let next = turned list t.lane t.units s in
    let n : length next.standing.lanes ≡ 1 = turned-length list t.lane t.units s ∙ one in
    let rest = turns-order list ts next.standing (given ++ before next.gives []) n (All-rest (IsOfLanes 1) t ts all)
    (turned-order list t.lane t.units s given first one order) in
    let e : given ++ before next.gives [] ++ (turns list ts next.standing).given
    ≡ given ++ before next.gives (turns list ts next.standing).given =
    append_assoc given (before next.gives []) (turns list ts next.standing).given
    ∙ ap (λ l. given ++ l) (sym (before-append next.gives (turns list ts next.standing).given)) in
    subst (λ (l : List ℕ). InOrder l (turns list ts next.standing).standing) e rest

new-order : (list : LoneRuns) (ts : List Turn) → All (IsOfLanes 1) ts
    → (turns_of list 1 ts).given ++ numbers_in (turns_of list 1 ts).standing.lanes ≡ up_to (turns_of list 1 ts).standing.begun
new-order list ts all = turns-order list ts (first_standing 1) [] refl all refl

take-up_to : (k n : ℕ) → k ≤ n → take k (up_to n) ≡ up_to k
take-up_to k zero within = let e : k ≡ 0 = omega arith in rw e refl
take-up_to k (suc n) within = elim (cases_lt k (suc n)) [
  | inl less ↦
      let m = length-up_to n in
      let fits : k ≤ length (up_to n) = omega (arith, m, less) in
      take-append-le k (up_to n) ((n + 1) ∷ []) fits ∙ take-up_to k n (omega (arith, less))
  | inr most ↦
      let e : suc n ≡ k = omega (arith, most, within) in
      let m = length-up_to (suc n) in
      take_all k (up_to (suc n)) (omega (arith, m, most)) ∙ ap up_to e
]

pub one_lane_is_in_order : OneLaneIsInOrder
one_lane_is_in_order list ts all =
    let r = turns_of list 1 ts in
    let o = new-order list ts all in
    let e = ended_give list 1 ts all in
    let a = length-append r.given (numbers_in r.standing.lanes) in
    let b = length-up_to r.standing.begun in
    let c = ap (λ (l : List ℕ). length l) o in
    let within : r.standing.ended ≤ r.standing.begun = omega (arith, a, b, c, e) in
    sym (take_at r.given (numbers_in r.standing.lanes) r.standing.ended e)
    ∙ ap (take r.standing.ended) o ∙ take-up_to r.standing.ended r.standing.begun within

pub one_lane_gives_in_order : OneLaneGivesInOrder
one_lane_gives_in_order list units some =
    let t = new_turns list 1 units (omega arith) some in
    let r = turns_of list 1 t.ts in
    let n = all_numbers list 1 t.ts t.lanes_in t.done in
    let f : r.given ≡ up_to (length list) =
    sym (append-nil r.given) ∙ ap (λ l. r.given ++ l) (sym n.0) ∙ new-order list t.ts t.lanes_in ∙ ap up_to n.1 in
    ap (λ (x : Ran). texts_of list x.given) t.is ∙ ap (texts_of list) f ∙ texts-all list

-- ---- units enough

-- all lanes are free, and the texts of all runs that have begun were given in order
abbrev pub Clear : List ℕ → Standing → Type 0
Clear given s = ((k : ℕ) → get_or s.lanes k None ≡ None) × (given ≡ up_to s.begun)

clear-kept : (lanes : List (Option Held)) (i : ℕ) (h : Held) → get_or lanes i None ≡ None
    → set (set lanes i (Some h)) i None ≡ lanes
clear-kept lanes i h free =
    let none : Option Held = None in
    let start : Option Held = Some h in
    set-set lanes i start none ∙ ap (set lanes i) (sym free) ∙ set-get_or lanes i none

fits-at : (list : LoneRuns) (units begun : ℕ) → begun < length list → All (λ (r : LoneRun). r.units ≤ units) list
    → (run_of list (begun + 1)).units ≤ units
fits-at list units begun more all =
    let e : begun + 1 - 1 < length list = omega (arith, more) in
    all (begun + 1 - 1) (record { text = []; units = 0 }) e

turned-clear : (list : LoneRuns) (lane units : ℕ) (s : Standing) (given : List ℕ) → lane - 1 < length s.lanes
    → All (λ (r : LoneRun). r.units ≤ units) list → Clear given s
    → Clear (given ++ before (turned list lane units s).gives []) (turned list lane units s).standing
turned-clear list lane units s given within fits clear =
    rw turned-is (taken-full-cases
    (λ u. Clear (given ++ before (worked lane units u).gives []) (worked lane units u).standing) list lane s
    (λ full.
    let e = worked-none lane units s (clear.0 (lane - 1)) in
    subst (λ (t : Turned). Clear (given ++ before t.gives []) t.standing) (sym e)
    (clear.0, append-nil given ∙ clear.1))
    (λ free more.
    let h = first_held list (s.begun + 1) in
    let u = with_next list lane s in
    let start : Option Held = Some h in
    let none : Option Held = None in
    let is = get_or-set_same s.lanes (lane - 1) start none within in
    let e = worked-some lane units u h is ∙ advanced-ends lane units h u (fits-at list units s.begun more fits) in
    let kept = clear-kept s.lanes (lane - 1) h free in
    subst (λ (t : Turned). Clear (given ++ before t.gives []) t.standing) (sym e) (
      (λ k. ap (λ (l : List (Option Held)). get_or l k none) kept ∙ clear.0 k),
      ap (λ l. l ++ (s.begun + 1) ∷ []) clear.1 ∙ ap up_to (sym (add-one s.begun)),
    )))

turns-clear : (list : LoneRuns) (lanes units : ℕ) (ts : List Turn) (s : Standing) (given : List ℕ) → length s.lanes ≡ lanes
    → All (IsOfLanes lanes) ts → All (HasUnits units) ts → All (λ (r : LoneRun). r.units ≤ units) list → Clear given s
    → Clear (given ++ (turns list ts s).given) (turns list ts s).standing
turns-clear list lanes units [] s given count all same fits clear = (clear.0, append-nil given ∙ clear.1)
turns-clear list lanes units (t ∷ ts) s given count all same fits clear =
    let here = All-first (IsOfLanes lanes) t ts all in
    let low = here.0 in
    let high = here.1 in
    let within : t.lane - 1 < length s.lanes = omega (arith, low, high, count) in
    let is : t.units ≡ units = All-first (HasUnits units) t ts same in
    let next = turned list t.lane t.units s in
    let n : length next.standing.lanes ≡ lanes = turned-length list t.lane t.units s ∙ count in
    let one : Clear (given ++ before next.gives []) next.standing =
    subst (λ (u : ℕ). Clear (given ++ before (turned list t.lane u s).gives []) (turned list t.lane u s).standing) (sym is)
    (turned-clear list t.lane units s given within fits clear) in
    let rest = turns-clear list lanes units ts next.standing (given ++ before next.gives []) n
    (All-rest (IsOfLanes lanes) t ts all) (All-rest (HasUnits units) t ts same) fits one in
    let e : given ++ before next.gives [] ++ (turns list ts next.standing).given
    ≡ given ++ before next.gives (turns list ts next.standing).given =
    append_assoc given (before next.gives []) (turns list ts next.standing).given
    ∙ ap (λ l. given ++ l) (sym (before-append next.gives (turns list ts next.standing).given)) in
    subst (λ (l : List ℕ). Clear l (turns list ts next.standing).standing) e rest

free-at : (n k : ℕ) → get_or (first_standing n).lanes k None ≡ None
free-at zero k = refl
free-at (suc n) zero = refl
free-at (suc n) (suc k) = free-at n k

pub enough_units_give_in_order : EnoughUnitsGiveInOrder
enough_units_give_in_order list lanes units has some fits =
    let t = new_turns list lanes units has some in
    let r = turns_of list lanes t.ts in
    let free : Option Held = None in
    let c = turns-clear list lanes units t.ts (first_standing lanes) [] (length-replicate lanes free) t.lanes_in t.same fits
    (free-at lanes, refl) in
    let n = all_numbers list lanes t.ts t.lanes_in t.done in
    let f : r.given ≡ up_to (length list) = c.1 ∙ ap up_to n.1 in
    ap (λ (x : Ran). texts_of list x.given) t.is ∙ ap (texts_of list) f ∙ texts-all list
