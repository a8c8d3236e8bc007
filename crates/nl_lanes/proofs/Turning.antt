-- Lists of turns, and a round as the turns so far.
use Rattle.std.proofs.Common.{◌≡◌, ℕ, zero, suc, ◌+◌, ◌-◌, ◌≤◌, List, [], ◌∷◌, ◌++◌, Option, Some, None, length, refl, sym, ap, ◌∙◌, subst, append_assoc, append-nil, add-one, arith}
use Rattle.std.proofs.lemmas.List.{map-append}
use Rattle.nl_lanes.specs.Runs.{LoneRuns, up_to}
use Rattle.nl_lanes.specs.Turns.{Standing, turned}
use Rattle.nl_lanes.specs.Rounds.{Ran, Turn, before, round, turns, turns_of_a_round}
use Rattle.nl_lanes.proofs.Cases.{turned-length}

pub before-append : (gives : Option ℕ) (a : List ℕ) → before gives a ≡ before gives [] ++ a
before-append None a = refl
before-append (Some n) a = refl

before-more : (gives : Option ℕ) (a b : List ℕ) → before gives (a ++ b) ≡ before gives a ++ b
before-more None a b = refl
before-more (Some n) a b = refl

pub turns-append-standing : (list : LoneRuns) (ts us : List Turn) (s : Standing)
    → (turns list (ts ++ us) s).standing ≡ (turns list us (turns list ts s).standing).standing
turns-append-standing list [] us s = refl
turns-append-standing list (t ∷ ts) us s = turns-append-standing list ts us (turned list t.lane t.units s).standing

pub turns-append-given : (list : LoneRuns) (ts us : List Turn) (s : Standing)
    → (turns list (ts ++ us) s).given ≡ (turns list ts s).given ++ (turns list us (turns list ts s).standing).given
turns-append-given list [] us s = refl
turns-append-given list (t ∷ ts) us s =
    let one = turned list t.lane t.units s in
    ap (before one.gives) (turns-append-given list ts us one.standing)
    ∙ before-more one.gives (turns list ts one.standing).given (turns list us (turns list ts one.standing).standing).given

pub turns-length : (list : LoneRuns) (ts : List Turn) (s : Standing) → length (turns list ts s).standing.lanes ≡ length s.lanes
turns-length list [] s = refl
turns-length list (t ∷ ts) s =
    turns-length list ts (turned list t.lane t.units s).standing ∙ turned-length list t.lane t.units s

-- what the turns of the first lanes leave
abbrev pub first_turns : LoneRuns → ℕ → ℕ → Standing → Ran
first_turns list lanes units s = turns list (turns_of_a_round lanes units) s

turns_of_a_round-more : (lanes units : ℕ)
    → turns_of_a_round (suc lanes) units ≡ turns_of_a_round lanes units ++ (record { lane = lanes + 1; units = units }) ∷ []
turns_of_a_round-more lanes units =
    map-append (λ (lane : ℕ). let t : Turn = record { lane = lane; units = units } in t) (up_to lanes) ((lanes + 1) ∷ [])

pub first_turns-standing : (list : LoneRuns) (lanes units : ℕ) (s : Standing)
    → (first_turns list (lanes + 1) units s).standing
    ≡ (turned list (lanes + 1) units (first_turns list lanes units s).standing).standing
first_turns-standing list lanes units s =
    ap (λ n. (first_turns list n units s).standing) (add-one lanes)
    ∙ ap (λ ts. (turns list ts s).standing) (turns_of_a_round-more lanes units)
    ∙ turns-append-standing list (turns_of_a_round lanes units) _ s

pub first_turns-given : (list : LoneRuns) (lanes units : ℕ) (s : Standing)
    → (first_turns list (lanes + 1) units s).given
    ≡ (first_turns list lanes units s).given
    ++ before (turned list (lanes + 1) units (first_turns list lanes units s).standing).gives []
first_turns-given list lanes units s =
    ap (λ n. (first_turns list n units s).given) (add-one lanes)
    ∙ ap (λ ts. (turns list ts s).given) (turns_of_a_round-more lanes units)
    ∙ turns-append-given list (turns_of_a_round lanes units) _ s

-- those of more lanes give more
pub record Fronts (a b : List ℕ) : Type 0 where
  pub rest : List ℕ
  pub whole : b ≡ a ++ rest

front-more : (list : LoneRuns) (lanes more units : ℕ) (s : Standing)
    → Fronts (first_turns list lanes units s).given (first_turns list (lanes + more) units s).given
front-more list lanes zero units s =
    let e : lanes + 0 ≡ lanes = omega arith in
    record { rest = []; whole = ap (λ n. (first_turns list n units s).given) e ∙ sym (append-nil _) }
front-more list lanes (suc more) units s =
    let e : lanes + suc more ≡ lanes + more + 1 = omega arith in
    let f = front-more list lanes more units s in
    let last = before (turned list (lanes + more + 1) units (first_turns list (lanes + more) units s).standing).gives [] in
    record {
      rest = f.rest ++ last;
      whole = ap (λ n. (first_turns list n units s).given) e ∙ first_turns-given list (lanes + more) units s
          ∙ ap (λ l. l ++ last) f.whole ∙ append_assoc (first_turns list lanes units s).given f.rest last;
    }

pub round-front : (list : LoneRuns) (lanes units : ℕ) (s : Standing) → lanes ≤ length s.lanes
    → Fronts (first_turns list lanes units s).given (round list units s).given
unfolding round
round-front list lanes units s within =
    let e : lanes + (length s.lanes - lanes) ≡ length s.lanes = omega arith in
    subst (λ n. Fronts (first_turns list lanes units s).given (first_turns list n units s).given) e
    (front-more list lanes (length s.lanes - lanes) units s)

pub round-is : (list : LoneRuns) (units : ℕ) (s : Standing) → round list units s ≡ first_turns list (length s.lanes) units s
unfolding round
round-is list units s = refl
