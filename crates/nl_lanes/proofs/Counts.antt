-- How many texts are given, and how often.
use Rattle.std.proofs.Common.{◌≡◌, ℕ, zero, suc, ◌+◌, ◌-◌, ◌≤◌, ◌<◌, ◌==◌, List, [], ◌∷◌, ◌++◌, Bool, true, false, Option, Some, None, All, get_or, take, replicate, length, map, refl, sym, ap, ◌∙◌, subst, add-one, append-nil, length-append, arith, sum_by, if◌then◌else◌}
use Rattle.std.specs.List.Sorted.{IsPermutation}
use Rattle.std.proofs.lemmas.Bool.{eqb-true}
use Rattle.std.proofs.lemmas.List.{get_or_append_left, length-replicate, map-append, nil_from_length, take_all, take_more}
use Rattle.std.proofs.lemmas.List.Elements.{All-push}
use Rattle.std.proofs.lemmas.List.Sums.{sum_by-cons}
use Rattle.std.proofs.lemmas.List.Sorted.{All-permutation, IsPermutation-map, IsPermutation-refl, IsPermutation-sym, sum_by-IsPermutation}
use Rattle.nl_lanes.specs.Runs.{LoneRun, LoneRuns, run_of, texts_of, up_to}
use Rattle.nl_lanes.specs.Turns.{Held, Standing, first_standing, taken, turned, worked}
use Rattle.nl_lanes.specs.Rounds.{Turn, all_ended, before, turns}
use Rattle.nl_lanes.specs.Laws.{AllEndedGiveAll, EndedGive, IsOfLanes, NoTextTwice, RunsAreOnce, TextsAreOfRuns, all_texts, numbers_in, times, turns_of}
use Rattle.nl_lanes.proofs.Cases.{taken-cases, turned-is, worked-cases}
use Rattle.nl_lanes.proofs.Once.{Once, turns-once}

-- ---- how many have ended

turned-ended : (list : LoneRuns) (lane units : ℕ) (s : Standing)
    → length (before (turned list lane units s).gives []) + s.ended ≡ (turned list lane units s).standing.ended
turned-ended list lane units s =
    let u = taken list lane s in
    let e : u.ended ≡ s.ended = taken-cases (λ t. t.ended ≡ s.ended) list lane s refl (λ free more. refl) in
    let f : length (before (worked lane units u).gives []) + u.ended ≡ (worked lane units u).standing.ended =
    worked-cases (λ t. length (before t.gives []) + u.ended ≡ t.standing.ended) lane units u
    (λ free. omega arith) (λ h is enough. omega arith) (λ h is beyond. omega arith) in
    rw turned-is (omega (arith, e, f))

length-before : (gives : Option ℕ) (a : List ℕ) → length (before gives a) ≡ length (before gives []) + length a
length-before None a = omega arith
length-before (Some n) a = omega arith

turns-ended : (list : LoneRuns) (ts : List Turn) (s : Standing)
    → length (turns list ts s).given + s.ended ≡ (turns list ts s).standing.ended
turns-ended list [] s = omega arith
turns-ended list (t ∷ ts) s =
    let one = turned list t.lane t.units s in
    let a = turned-ended list t.lane t.units s in
    let b = turns-ended list ts one.standing in
    let c = length-before one.gives (turns list ts one.standing).given in
    omega (arith, a, b, c)

pub ended_give : EndedGive
ended_give list lanes ts all = let e = turns-ended list ts (first_standing lanes) in omega (arith, e)

-- ---- none but those of the list begin

turned-within : (list : LoneRuns) (lane units : ℕ) (s : Standing) → s.begun ≤ length list
    → (turned list lane units s).standing.begun ≤ length list
turned-within list lane units s within =
    let u = taken list lane s in
    let e : u.begun ≤ length list = taken-cases (λ t. t.begun ≤ length list) list lane s within (λ free more. omega arith) in
    rw turned-is (worked-cases (λ t. t.standing.begun ≤ length list) lane units u
    (λ free. e) (λ h is enough. e) (λ h is beyond. e))

turns-within : (list : LoneRuns) (ts : List Turn) (s : Standing) → s.begun ≤ length list
    → (turns list ts s).standing.begun ≤ length list
turns-within list [] s within = within
turns-within list (t ∷ ts) s within =
    turns-within list ts (turned list t.lane t.units s).standing (turned-within list t.lane t.units s within)

-- ---- each once

pub numbers-free : (lanes : ℕ) → numbers_in (replicate lanes None) ≡ []
numbers-free zero = refl
numbers-free (suc lanes) = numbers-free lanes

first-once : (lanes : ℕ) → Once [] (first_standing lanes)
first-once lanes =
    subst (λ (l : List ℕ). IsPermutation l []) (sym (numbers-free lanes)) (IsPermutation-refl [])

pub runs_are_once : RunsAreOnce
runs_are_once list lanes ts all =
    let free : Option Held = None in
    turns-once list lanes ts (first_standing lanes) [] (length-replicate lanes free) all (first-once lanes)

-- a number of a run
abbrev pub UpTo : ℕ → ℕ → Type 0
UpTo most number = (1 ≤ number) × (number ≤ most)

all_up_to : (most n : ℕ) → n ≤ most → All (UpTo most) (up_to n)
all_up_to most zero within = λ k d h. absurd (omega arith)
all_up_to most (suc n) within = All-push (UpTo most) (up_to n) (n + 1) (all_up_to most n (omega arith)) (omega arith, omega arith)

all_left : {X : Type 0} (P : X → Type 0) (xs ys : List X) → All P (xs ++ ys) → All P xs
all_left P xs ys all = λ k d h.
    let e = length-append xs ys in
    subst P (get_or_append_left xs ys d k h) (all k d (omega (arith, e)))

pub texts_are_of_runs : TextsAreOfRuns
texts_are_of_runs list lanes ts all =
    let r = turns_of list lanes ts in
    let w = turns-within list ts (first_standing lanes) (omega arith) in
    all_left (UpTo (length list)) r.given (numbers_in r.standing.lanes)
    (All-permutation (UpTo (length list)) (up_to r.standing.begun) (r.given ++ numbers_in r.standing.lanes)
    (IsPermutation-sym _ _ (runs_are_once list lanes ts all)) (all_up_to (length list) r.standing.begun w))

-- ---- none twice

abbrev pub one_at : ℕ → ℕ → ℕ
one_at number n = if n == number then 1 else 0

times-sum : (number : ℕ) (xs : List ℕ) → times number xs ≡ sum_by (one_at number) xs
times-sum number [] = refl
times-sum number (x ∷ xs) =
    ap (λ n. one_at number x + n) (times-sum number xs) ∙ sym (sum_by-cons (one_at number) x xs)

times-append : (number : ℕ) (xs ys : List ℕ) → times number (xs ++ ys) ≡ times number xs + times number ys
times-append number [] ys = omega arith
times-append number (x ∷ xs) ys = let e = times-append number xs ys in omega (arith, e)

times-permuted : (number : ℕ) (xs ys : List ℕ) → IsPermutation xs ys → times number xs ≡ times number ys
times-permuted number xs ys p =
    times-sum number xs ∙ sym (sum_by-IsPermutation (one_at number) xs ys p) ∙ sym (times-sum number ys)

one_at-other : (number n : ℕ) (b : Bool) → (n == number) ≡ b → n < number → one_at number n ≡ 0
one_at-other number n true is less = let e = eqb-true n number is in absurd (omega (arith, e, less))
one_at-other number n false is less = rw is refl

one_at-most : (number n : ℕ) (b : Bool) → (n == number) ≡ b → one_at number n ≤ 1
one_at-most number n true is = rw is (omega arith)
one_at-most number n false is = rw is (omega arith)

times-above : (number n : ℕ) → n < number → times number (up_to n) ≡ 0
times-above number zero above = refl
times-above number (suc n) above =
    let a = times-append number (up_to n) ((n + 1) ∷ []) in
    let b = times-above number n (omega arith) in
    let c = one_at-other number (n + 1) ((n + 1) == number) refl (omega arith) in
    omega (arith, a, b, c)

times-up_to : (number n : ℕ) (b : Bool) → (n == number) ≡ b → times number (up_to n) ≤ 1
times-up_to number zero b is = omega arith
times-up_to number (suc n) true is =
    let e = eqb-true (suc n) number is in
    let a = times-append number (up_to n) ((n + 1) ∷ []) in
    let c = times-above number n (omega (arith, e)) in
    let d = one_at-most number (n + 1) ((n + 1) == number) refl in
    omega (arith, a, c, d)
times-up_to number (suc n) false is =
    let a = times-append number (up_to n) ((n + 1) ∷ []) in
    let c = times-up_to number n (n == number) refl in
    let f : one_at number (suc n) ≡ 0 = rw is refl in
    let d : one_at number (n + 1) ≡ 0 = ap (one_at number) (add-one n) ∙ f in
    omega (arith, a, c, d)

pub no_text_twice : NoTextTwice
no_text_twice list lanes ts all number =
    let r = turns_of list lanes ts in
    let a = times-append number r.given (numbers_in r.standing.lanes) in
    let b = times-permuted number _ _ (runs_are_once list lanes ts all) in
    let c = times-up_to number r.standing.begun (r.standing.begun == number) refl in
    omega (arith, a, b, c)

-- ---- all of them

pub length-up_to : (n : ℕ) → length (up_to n) ≡ n
length-up_to zero = refl
length-up_to (suc n) =
    let a = length-append (up_to n) ((n + 1) ∷ []) in let b = length-up_to n in omega (arith, a, b)

length-sum : (xs : List ℕ) → length xs ≡ sum_by (λ x. 1) xs
length-sum [] = refl
length-sum (x ∷ xs) = let e = length-sum xs in let f = sum_by-cons (λ (y : ℕ). 1) x xs in omega (arith, e, f)

length-permuted : (xs ys : List ℕ) → IsPermutation xs ys → length xs ≡ length ys
length-permuted xs ys p = length-sum xs ∙ sym (sum_by-IsPermutation (λ (y : ℕ). 1) xs ys p) ∙ sym (length-sum ys)

texts-some : (list : LoneRuns) (n : ℕ) → n ≤ length list → texts_of list (up_to n) ≡ map (λ (r : LoneRun). r.text) (take n list)
texts-some list zero within = refl
texts-some list (suc n) within =
    let none : LoneRun = record { text = []; units = 0 } in
    let at : n + 1 - 1 ≡ n = omega arith in
    let below : n < length list = omega arith in
    let e : take (suc n) list ≡ take n list ++ get_or list n none ∷ [] =
    ap (λ k. take k list) (sym (add-one n)) ∙ take_more list n none below in
    map-append (λ number. (run_of list number).text) (up_to n) ((n + 1) ∷ [])
    ∙ ap (λ l. l ++ (run_of list (n + 1)).text ∷ []) (texts-some list n (omega arith))
    ∙ ap (λ k. map (λ (r : LoneRun). r.text) (take n list) ++ (get_or list k none).text ∷ []) at
    ∙ sym (map-append (λ (r : LoneRun). r.text) (take n list) (get_or list n none ∷ []))
    ∙ ap (map (λ (r : LoneRun). r.text)) (sym e)

pub texts-all : (list : LoneRuns) → texts_of list (up_to (length list)) ≡ all_texts list
texts-all list =
    texts-some list (length list) (omega arith)
    ∙ ap (map (λ (r : LoneRun). r.text)) (take_all (length list) list (omega arith))

pub all_numbers : (list : LoneRuns) (lanes : ℕ) (ts : List Turn) → All (IsOfLanes lanes) ts
    → all_ended list (turns_of list lanes ts).standing ≡ true
    → (numbers_in (turns_of list lanes ts).standing.lanes ≡ []) × ((turns_of list lanes ts).standing.begun ≡ length list)
all_numbers list lanes ts all done =
    let r = turns_of list lanes ts in
    let a = length-permuted _ _ (runs_are_once list lanes ts all) in
    let b = length-append r.given (numbers_in r.standing.lanes) in
    let c = length-up_to r.standing.begun in
    let d = ended_give list lanes ts all in
    let e = eqb-true r.standing.ended (length list) done in
    let w = turns-within list ts (first_standing lanes) (omega arith) in
    (nil_from_length (numbers_in r.standing.lanes) (omega (arith, a, b, c, d, e, w)), omega (arith, a, b, c, d, e, w))

pub all_ended_give_all : AllEndedGiveAll
all_ended_give_all list lanes ts all done =
    let r = turns_of list lanes ts in
    let n = all_numbers list lanes ts all done in
    let f : r.given ++ numbers_in r.standing.lanes ≡ r.given = ap (λ l. r.given ++ l) n.0 ∙ append-nil r.given in
    let p : IsPermutation r.given (up_to r.standing.begun) =
    subst (λ (l : List ℕ). IsPermutation l (up_to r.standing.begun)) f (runs_are_once list lanes ts all) in
    let q : IsPermutation r.given (up_to (length list)) = subst (λ (k : ℕ). IsPermutation r.given (up_to k)) n.1 p in
    subst (IsPermutation (texts_of list r.given)) (texts-all list)
    (IsPermutation-map (λ number. (run_of list number).text) r.given (up_to (length list)) q)
