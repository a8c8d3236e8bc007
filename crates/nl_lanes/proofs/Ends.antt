-- Rounds are turns, and they go on until all runs have ended.
use Rattle.std.proofs.Common.{◌≡◌, ℕ, zero, suc, ◌+◌, ◌≤◌, ◌<◌, List, [], ◌∷◌, ◌++◌, Bool, true, false, All, get_or, length, refl, sym, ap, ◌∙◌, subst, arith}
use Rattle.std.proofs.lemmas.List.{map-append}
use Rattle.nl_lanes.specs.Runs.{LoneRuns}
use Rattle.nl_lanes.specs.Turns.{Standing}
use Rattle.nl_lanes.specs.Rounds.{Ran, Turn, all_ended, left, round, rounds, rounds_from, turns, turns_of_a_round}
use Rattle.nl_lanes.specs.Pools.{IsSound}
use Rattle.nl_lanes.specs.Laws.{IsOfLanes, RoundsAreTurns, RoundsEndAll}
use Rattle.nl_lanes.proofs.Turning.{round-is, turns-append-given, turns-append-standing, turns-length}
use Rattle.nl_lanes.proofs.Progress.{round-less, round-sound, rounds-is, rounds_from-done, rounds_from-step}

pub All-nil : {X : Type 0} (P : X → Type 0) → All P []
All-nil P = λ k d h. absurd (omega arith)

all_at : {X : Type 0} (P : X → Type 0) (x : X) (xs : List X) → P x → All P xs → (k : ℕ) (d : X) → k < length (x ∷ xs)
    → P (get_or (x ∷ xs) k d)
all_at P x xs here all zero d h = here
all_at P x xs here all (suc k) d h = all k d (omega arith)

pub All-more : {X : Type 0} (P : X → Type 0) (x : X) (xs : List X) → P x → All P xs → All P (x ∷ xs)
All-more P x xs here all = λ k d h. all_at P x xs here all k d h

pub All-first : {X : Type 0} (P : X → Type 0) (x : X) (xs : List X) → All P (x ∷ xs) → P x
All-first P x xs all = all 0 x (omega arith)

pub All-rest : {X : Type 0} (P : X → Type 0) (x : X) (xs : List X) → All P (x ∷ xs) → All P xs
All-rest P x xs all = λ k d h. all (suc k) d (omega arith)

pub All-both : {X : Type 0} (P : X → Type 0) (xs ys : List X) → All P xs → All P ys → All P (xs ++ ys)
All-both P [] ys a b = b
All-both P (x ∷ xs) ys a b = All-more P x (xs ++ ys) (All-first P x xs a) (All-both P xs ys (All-rest P x xs a) b)

pub Ran-is : (r : Ran) (s : Standing) (given : List ℕ) → r.standing ≡ s → r.given ≡ given → r ≡ record { standing = s; given = given }
Ran-is r s given at gives =
    ap (λ (x : Standing). let t : Ran = record { standing = x; given = r.given } in t) at
    ∙ ap (λ (y : List ℕ). let t : Ran = record { standing = s; given = y } in t) gives

all_of_round : (most lanes units : ℕ) → lanes ≤ most → All (IsOfLanes most) (turns_of_a_round lanes units)
all_of_round most zero units within = All-nil (IsOfLanes most)
all_of_round most (suc lanes) units within =
    rw map-append (All-both (IsOfLanes most) (turns_of_a_round lanes units) _ (all_of_round most lanes units (omega arith))
    (All-more (IsOfLanes most) (record { lane = lanes + 1; units = units }) [] (omega arith, omega arith) (All-nil (IsOfLanes most))))

-- a turn has so many units
abbrev pub HasUnits : ℕ → Turn → Type 0
HasUnits units t = t.units ≡ units

units_of_round : (lanes units : ℕ) → All (HasUnits units) (turns_of_a_round lanes units)
units_of_round zero units = All-nil (HasUnits units)
units_of_round (suc lanes) units =
    rw map-append (All-both (HasUnits units) (turns_of_a_round lanes units) _ (units_of_round lanes units)
    (All-more (HasUnits units) (record { lane = lanes + 1; units = units }) [] refl (All-nil (HasUnits units))))

-- some turns of the lanes do it
pub record AreTurns (list : LoneRuns) (units : ℕ) (s : Standing) (r : Ran) : Type 0 where
  pub ts : List Turn
  pub same : All (HasUnits units) ts
  pub lanes : All (IsOfLanes (length s.lanes)) ts
  pub is : r ≡ turns list ts s

rounds_from-turns : (most : ℕ) (list : LoneRuns) (units : ℕ) (s : Standing) (b : Bool) → all_ended list s ≡ b
    → AreTurns list units s (rounds_from most list units s)
rounds_from-turns most list units s true done =
    record { ts = []; same = All-nil (HasUnits units); lanes = All-nil (IsOfLanes (length s.lanes)); is = rounds_from-done most list units s done }
rounds_from-turns zero list units s false going =
    record { ts = []; same = All-nil (HasUnits units); lanes = All-nil (IsOfLanes (length s.lanes)); is = refl }
rounds_from-turns (suc most) list units s false going =
    let t = (round list units s).standing in
    let first = turns_of_a_round (length s.lanes) units in
    let e : round list units s ≡ turns list first s = round-is list units s in
    let r = rounds_from-turns most list units t (all_ended list t) refl in
    let n : length t.lanes ≡ length s.lanes =
    ap (λ (x : Ran). length x.standing.lanes) e ∙ turns-length list first s in
    let rest : rounds_from most list units t ≡ turns list r.ts (turns list first s).standing =
    r.is ∙ ap (λ (x : Ran). turns list r.ts x.standing) e in
    record {
      ts = first ++ r.ts;
      same = All-both (HasUnits units) first r.ts (units_of_round (length s.lanes) units) r.same;
      lanes = All-both (IsOfLanes (length s.lanes)) first r.ts (all_of_round (length s.lanes) (length s.lanes) units (omega arith))
          (subst (λ (count : ℕ). All (IsOfLanes count) r.ts) n r.lanes);
      is = rounds_from-step most list units s going
          ∙ sym (Ran-is (turns list (first ++ r.ts) s) (rounds_from most list units t).standing
          ((round list units s).given ++ (rounds_from most list units t).given)
          (turns-append-standing list first r.ts s ∙ ap (λ (x : Ran). x.standing) (sym rest))
          (turns-append-given list first r.ts s
          ∙ ap (λ (x : Ran). (turns list first s).given ++ x.given) (sym rest)
          ∙ ap (λ (x : Ran). x.given ++ (rounds_from most list units t).given) (sym e)));
    }

pub rounds-turns : (list : LoneRuns) (units : ℕ) (s : Standing) → AreTurns list units s (rounds list units s)
rounds-turns list units s =
    rw rounds-is (rounds_from-turns (left list s) list units s (all_ended list s) refl)

pub rounds_are_turns : RoundsAreTurns
rounds_are_turns list units s =
    let r = rounds-turns list units s in (r.ts, r.lanes, r.is)

rounds_from-ended : (most : ℕ) (list : LoneRuns) (units : ℕ) (s : Standing) → 1 ≤ units → IsSound list s → left list s ≤ most
    → (b : Bool) → all_ended list s ≡ b → all_ended list (rounds_from most list units s).standing ≡ true
rounds_from-ended most list units s some sound within true is =
    ap (λ (r : Ran). all_ended list r.standing) (rounds_from-done most list units s is) ∙ is
rounds_from-ended zero list units s some sound within false is =
    let less = round-less list units s some sound is in absurd (omega (arith, less, within))
rounds_from-ended (suc most) list units s some sound within false is =
    let less = round-less list units s some sound is in
    let t = (round list units s).standing in
    ap (λ (r : Ran). all_ended list r.standing) (rounds_from-step most list units s is)
    ∙ rounds_from-ended most list units t some (round-sound list units s sound) (omega (arith, less, within)) (all_ended list t) refl

pub rounds_end_all : RoundsEndAll
rounds_end_all list units s some sound =
    ap (λ (r : Ran). all_ended list r.standing) (rounds-is list units s)
    ∙ rounds_from-ended (left list s) list units s some sound (omega arith) (all_ended list s) refl
