-- Chains of calls between bodies are those that the fixed point follows.
use Rattle.std.proofs.Common.{◌≡◌, ℕ, zero, suc, ◌+◌, ◌<◌, ◌≤◌, not, IsTrue, List, [], ◌∷◌, ◌++◌, Option, Some, None, All, length, get_or, ◌↔◌, inl, inr, ◌⊎◌, refl, sym, ap, subst, ◌∙◌, arith}
use Rattle.std.specs.Prelude.{slice_get}
use Rattle.std.specs.List.{Contains}
use Rattle.std.proofs.lemmas.Bool.{cases_eq, cases_lt}
use Rattle.std.proofs.lemmas.Option.{get_or_from_slice_get, slice_get_past, slice_get-get_or}
use Rattle.std.proofs.lemmas.List.{get_or-set_same, get_or-set_other, length-set}
use Rattle.std.proofs.lemmas.List.Elements.{All-contains, Contains-get_or, Contains-append_left, Contains-append_right, Contains-append_cases, Contains-push, Contains-push_cases, All-head, All-tail}
use Rattle.nl_words.specs.declared.entry.Kinds.{Kinds}
use Rattle.nl_words.specs.Kinds.{everyone}
use Rattle.nl_tree.specs.declared.declared.What.TheVariants as what
use Rattle.nl_tree.specs.Tree.{Node}
use Rattle.nl_tree.specs.Term.{Term}
use Rattle.nl_tree.specs.Vocabulary.{term_named}
use Rattle.nl_tree.specs.Context.{Kind, allows, words_at, site_words, Leads, at_word, by_call, AreLeft}
use Rattle.nl_check.specs.declared.calls.Call.{Call}
use Rattle.nl_check.specs.inner.Calls.{call_to, calls_in, body_steps, own_of, calls_from, with_caller, reversed, nobody}
use Rattle.nl_check.specs.inner.Steps.{calls_of}
use Rattle.nl_check.specs.inner.Reach.{kinds_at, places_at, Barred, by_own, by_callee, ArePlaces, AreSettled}
use Rattle.nl_check.specs.inner.Faults.{called_kinds, or_everyone}
use Rattle.nl_check.proofs.Around.{nobody_length}
use Rattle.nl_check.proofs.Meets.{true_or_not, everyone_allowed}
use Rattle.nl_check.proofs.Sites.{CallsTo, runs_words, calls_words, body_runs, body_calls, denies, denied, calls_to, call_there}

abbrev call : ℕ → ℕ → Call
call i j = record { caller = i; callee = j }

-- Callers are those that call.

nobody_at : (n j : ℕ) → places_at (nobody n) j ≡ []
nobody_at zero j = refl
nobody_at (suc n) zero = refl
nobody_at (suc n) (suc j) = nobody_at n j

pub reversed_length : (callers : List (List ℕ)) (cs : List Call) → length (reversed callers cs) ≡ length callers
reversed_length callers [] = refl
reversed_length callers (c ∷ cs) = reversed_length (with_caller callers c) cs ∙ length-set callers c.callee (places_at callers c.callee ++ c.caller ∷ [])

abbrev put : List (List ℕ) → Call → List (List ℕ)
put callers c = with_caller callers c

put_here : (callers : List (List ℕ)) (c : Call) (j : ℕ) → c.callee < length callers → j ≡ c.callee → places_at (put callers c) j ≡ places_at callers j ++ c.caller ∷ []
put_here callers c j within same =
    subst (λ x. places_at (put callers c) x ≡ places_at callers x ++ c.caller ∷ []) (sym same) (get_or-set_same callers c.callee (places_at callers c.callee ++ c.caller ∷ []) [] within)

put_other : (callers : List (List ℕ)) (c : Call) (j : ℕ) → (j ≡ c.callee → ⊥) → places_at (put callers c) j ≡ places_at callers j
put_other callers c j other = get_or-set_other callers c.callee j (places_at callers c.callee ++ c.caller ∷ []) [] other

same_call : (c : Call) (i j : ℕ) → c.caller ≡ i → j ≡ c.callee → c ≡ call i j
same_call c i j one two = ap (λ x. call x c.callee) one ∙ ap (λ x. call i x) (sym two)

put_cases : (callers : List (List ℕ)) (c : Call) (i j : ℕ) → c.callee < length callers → Contains (places_at (put callers c) j) i → Contains (places_at callers j) i ⊎ (c ≡ call i j)
put_cases callers c i j within here = elim (cases_eq j c.callee) [
  | inl same ↦ elim (Contains-push_cases (places_at callers j) c.caller i (subst (λ xs. Contains xs i) (put_here callers c j within same) here)) [ inl before ↦ inl before | inr it ↦ inr (same_call c i j it same) ]
  | inr other ↦ inl (subst (λ xs. Contains xs i) (put_other callers c j other) here)
]

put_keeps : (callers : List (List ℕ)) (c : Call) (i j : ℕ) → c.callee < length callers → Contains (places_at callers j) i → Contains (places_at (put callers c) j) i
put_keeps callers c i j within here = elim (cases_eq j c.callee) [
  | inl same ↦ subst (λ xs. Contains xs i) (sym (put_here callers c j within same)) (Contains-append_left (places_at callers j) (c.caller ∷ []) i here)
  | inr other ↦ subst (λ xs. Contains xs i) (sym (put_other callers c j other)) here
]

put_adds : (callers : List (List ℕ)) (c : Call) → c.callee < length callers → Contains (places_at (put callers c) c.callee) c.caller
put_adds callers c within = subst (λ xs. Contains xs c.caller) (sym (put_here callers c c.callee within refl)) (Contains-push (places_at callers c.callee) c.caller)

abbrev Inside : List (List ℕ) → List Call → Type 0
Inside callers [] = Unit {0}
Inside callers (c ∷ cs) = (c.callee < length callers) × Inside callers cs

inside_put : (callers : List (List ℕ)) (c : Call) (cs : List Call) → Inside callers cs → Inside (put callers c) cs
inside_put callers c [] h = tt
inside_put callers c (d ∷ cs) h = (subst (λ n. d.callee < n) (sym (length-set callers c.callee (places_at callers c.callee ++ c.caller ∷ []))) h.0, inside_put callers c cs h.1)

inside_all : (n : ℕ) (callers : List (List ℕ)) (cs : List Call) → length callers ≡ n → All (λ c. c.callee < n) cs → Inside callers cs
inside_all n callers [] many all = tt
inside_all n callers (c ∷ cs) many all = (subst (λ m. c.callee < m) (sym many) (All-head (λ c. c.callee < n) c cs all), inside_all n callers cs many (All-tail (λ c. c.callee < n) c cs all))

call_front : (c : Call) (cs : List Call) (d : Call) → c ≡ d → Contains (c ∷ cs) d
call_front c cs d same = (0, omega arith, same)

reversed_sound : (callers : List (List ℕ)) (cs : List Call) (i j : ℕ) → Inside callers cs → Contains (places_at (reversed callers cs) j) i → Contains (places_at callers j) i ⊎ Contains cs (call i j)
reversed_sound callers [] i j h here = inl here
reversed_sound callers (c ∷ cs) i j h here = elim (reversed_sound (put callers c) cs i j (inside_put callers c cs h.1) here) [
  | inr later ↦ inr (Contains-append_right (c ∷ []) cs (call i j) later)
  | inl before ↦ elim (put_cases callers c i j h.0 before) [ inl old ↦ inl old | inr it ↦ inr (call_front c cs (call i j) it) ]
]

reversed_keeps : (callers : List (List ℕ)) (cs : List Call) (i j : ℕ) → Inside callers cs → Contains (places_at callers j) i → Contains (places_at (reversed callers cs) j) i
reversed_keeps callers [] i j h here = here
reversed_keeps callers (c ∷ cs) i j h here = reversed_keeps (put callers c) cs i j (inside_put callers c cs h.1) (put_keeps callers c i j h.0 here)

reversed_has : (callers : List (List ℕ)) (cs : List Call) (i j : ℕ) → Inside callers cs → Contains cs (call i j) → Contains (places_at (reversed callers cs) j) i
reversed_has callers [] i j h (k, inside, _) = absurd (omega (arith, inside))
reversed_has callers (c ∷ cs) i j h here = elim (Contains-append_cases (c ∷ []) cs (call i j) here) [
  | inl (zero, _, same) ↦ reversed_keeps (put callers c) cs i j (inside_put callers c cs h.1)
      (subst (λ (x : Call). Contains (places_at (put callers c) x.callee) x.caller) same (put_adds callers c h.0))
  | inl (suc n, inside, _) ↦ absurd (omega (arith, inside))
  | inr later ↦ reversed_has (put callers c) cs i j (inside_put callers c cs h.1) later
]

-- the callers are places where all who call are
pub reversed_places : (n : ℕ) (cs : List Call) → All (λ c. c.callee < n) cs → All (λ c. c.caller < n) cs → ArePlaces n (reversed (nobody n) cs)
reversed_places n cs callees callers j = λ k d within.
    let i = get_or (places_at (reversed (nobody n) cs) j) k d in
    elim (reversed_sound (nobody n) cs i j (inside_all n (nobody n) cs (nobody_length n) callees) (Contains-get_or (places_at (reversed (nobody n) cs) j) k d within)) [
      | inl before ↦ let (m, inside, _) = subst (λ xs. Contains xs i) (nobody_at n j) before in absurd (omega (arith, inside))
      | inr it ↦ All-contains (λ c. c.caller < n) cs (call i j) callers it
    ]

-- What the bodies allow and call, by their places.
module _ (table : List Term) where
  own_at : (bodies : List Node) (i : ℕ) → kinds_at (own_of table bodies) i ≡ runs_words table (words_at table bodies i)
  own_at [] i = refl
  own_at (t ∷ ts) zero = body_runs table t
  own_at (t ∷ ts) (suc i) = own_at ts i

  pub own_length : (bodies : List Node) → length (own_of table bodies) ≡ length bodies
  own_length [] = refl
  own_length (t ∷ ts) = omega (arith, own_length ts)

  caller_is : (n : ℕ) (o : Option ℕ) (i j : ℕ) → Contains (call_to n o) (call i j) → i ≡ n
  caller_is n None i j (k, inside, _) = absurd (omega (arith, inside))
  caller_is n (Some m) i j (zero, _, same) = sym (ap (λ (c : Call). c.caller) same)
  caller_is n (Some m) i j (suc k, inside, _) = absurd (omega (arith, inside))

  callers_are : (n : ℕ) (ws : List (List ℕ)) (i j : ℕ) → Contains (calls_words table n ws) (call i j) → i ≡ n
  callers_are n [] i j (k, inside, _) = absurd (omega (arith, inside))
  callers_are n (w ∷ ws) i j here = elim (Contains-append_cases (call_to n (calls_of (term_named table w))) (calls_words table n ws) (call i j) here) [
    | inl first ↦ caller_is n (calls_of (term_named table w)) i j first
    | inr later ↦ callers_are n ws i j later
  ]

  -- calls counted from a place on
  abbrev CallsFrom : List Node → ℕ → ℕ → ℕ → Type 0
  CallsFrom bodies n i j = (k : ℕ) × ((i ≡ n + k) × CallsTo table (words_at table bodies k) j)

  calls_sound : (bodies : List Node) (n i j : ℕ) → Contains (calls_from table n bodies) (call i j) → CallsFrom bodies n i j
  calls_sound [] n i j (k, inside, _) = absurd (omega (arith, inside))
  calls_sound (t ∷ ts) n i j here = elim (Contains-append_cases (calls_in n (body_steps table t)) (calls_from table (n + 1) ts) (call i j) here) [
    | inl first ↦
        let own : Contains (calls_words table n (site_words table t)) (call i j) = subst (λ cs. Contains cs (call i j)) (body_calls table n t) first in
        let same = callers_are n (site_words table t) i j own in
        (0, (omega (arith, same), calls_to table n j (site_words table t) (subst (λ m. Contains (calls_words table n (site_words table t)) (call m j)) same own)))
    | inr later ↦ let (k, (at, calls)) = calls_sound ts (n + 1) i j later in (suc k, (omega (arith, at), calls))
  ]

  calls_complete : (bodies : List Node) (n k i j : ℕ) (w : List ℕ) (t : Term) → i ≡ n + k → Contains (words_at table bodies k) w → term_named table w ≡ Some t → t.what ≡ what.Procedure j → Contains (calls_from table n bodies) (call i j)
  calls_complete [] n k i j w t at (m, inside, _) row calls = absurd (omega (arith, inside))
  calls_complete (u ∷ us) n zero i j w t at within row calls =
      let same : n ≡ i = omega (arith, at) in
      let own : Contains (calls_words table n (site_words table u)) (call n j) = call_there table n j (site_words table u) w t within row calls in
      Contains-append_left (calls_in n (body_steps table u)) (calls_from table (n + 1) us) (call i j) (subst (λ cs. Contains cs (call i j)) (sym (body_calls table n u)) (subst (λ m. Contains (calls_words table n (site_words table u)) (call m j)) same own))
  calls_complete (u ∷ us) n (suc k) i j w t at within row calls =
      Contains-append_right (calls_in n (body_steps table u)) (calls_from table (n + 1) us) (call i j) (calls_complete us (n + 1) k i j w t (omega (arith, at)) within row calls)

  no_words : (bodies : List Node) (k : ℕ) (w : List ℕ) → Contains (words_at table bodies k) w → k < length bodies
  no_words [] k w (m, inside, _) = absurd (omega (arith, inside))
  no_words (t ∷ ts) zero w h = omega arith
  no_words (t ∷ ts) (suc k) w h = omega (arith, no_words ts k w h)

  module _ (bodies : List Node) (in_range : (w : List ℕ) (t : Term) (j : ℕ) → term_named table w ≡ Some t → t.what ≡ what.Procedure j → j < length bodies) where
    abbrev own : List Kinds
    own = own_of table bodies

    abbrev calls : List Call
    calls = calls_from table 0 bodies

    abbrev callers : List (List ℕ)
    callers = reversed (nobody (length bodies)) calls

    pub calls_inside : All (λ c. c.callee < length bodies) calls
    calls_inside = λ k d within.
        let c = get_or calls k d in
        let (m, (at, (w, t, (here, row, what_is)))) = calls_sound bodies 0 c.caller c.callee (Contains-get_or calls k d within) in
        in_range w t c.callee row what_is

    inside : Inside (nobody (length bodies)) calls
    inside = inside_all (length bodies) (nobody (length bodies)) calls (nobody_length (length bodies)) calls_inside

    caller_calls : (i j : ℕ) → Contains (places_at callers j) i → CallsTo table (words_at table bodies i) j
    caller_calls i j here = elim (reversed_sound (nobody (length bodies)) calls i j inside here) [
      | inl before ↦ let (k, within, _) = subst (λ xs. Contains xs i) (nobody_at (length bodies) j) before in absurd (omega (arith, within))
      | inr it ↦ let (k, (at, to)) = calls_sound bodies 0 i j it in let same : k ≡ i = omega (arith, at) in subst (λ m. CallsTo table (words_at table bodies m) j) same to
    ]

    pub are_places : ArePlaces (length own) callers
    are_places j = λ k d within.
        let i = get_or (places_at callers j) k d in
        let (w, t, (here, row, what_is)) = caller_calls i j (Contains-get_or (places_at callers j) k d within) in
        omega (arith, no_words bodies i w here, own_length bodies)

    leads : (kind : Kind) (i : ℕ) → Barred own callers kind i → Leads table bodies kind i
    leads kind i (by_own out) = let (w, t, (within, row, unfit)) = denies table (words_at table bodies i) kind (subst (λ k. IsTrue (not (allows k kind))) (own_at bodies i) out) in at_word within row unfit
    leads kind i (by_callee j here b) = let (w, t, (within, row, what_is)) = caller_calls i j here in by_call within row what_is (leads kind j b)

    barred : (kind : Kind) (i : ℕ) → Leads table bodies kind i → Barred own callers kind i
    barred kind i (at_word {w = w} {t = t} within row unfit) =
        let out : IsTrue (not (allows (kinds_at own i) kind)) = elim (true_or_not (allows (kinds_at own i) kind)) [
          | inr out ↦ out
          | inl h ↦ absurd (denied table (words_at table bodies i) kind w t within row unfit (subst (λ k. IsTrue (allows k kind)) (own_at bodies i) h))
        ] in
        by_own out
    barred kind i (by_call {j = j} {w = w} {t = t} within row what_is l) =
        by_callee j (reversed_has (nobody (length bodies)) calls i j inside (calls_complete bodies 0 i i j w t (omega arith) within row what_is)) (barred kind j l)

    -- the kinds that are settled are those that are left
    pub settled_left : (ks : List Kinds) → AreSettled own callers ks → (i : ℕ) (k : Kinds) → slice_get ks i ≡ Some k → AreLeft table bodies i k
    settled_left ks settled i k here kind =
        let same = get_or_from_slice_get ks i k everyone here in (
          λ h l. (settled i kind).0 (subst (λ x. IsTrue (allows x kind)) (sym same) h) (barred kind i l),
          λ free. subst (λ x. IsTrue (allows x kind)) same ((settled i kind).1 (λ b. free (leads kind i b))),
        )

  nothing_leads : (bodies : List Node) (kind : Kind) (j : ℕ) → length bodies ≤ j → Leads table bodies kind j → ⊥
  nothing_leads bodies kind j past (at_word {w = w} within row unfit) = omega (arith, past, no_words bodies j w within)
  nothing_leads bodies kind j past (by_call {w = w} within row what_is l) = omega (arith, past, no_words bodies j w within)

  -- the kinds that may run what is called are those to which no chain leads
  pub called_left : (bodies : List Node) (ks : List Kinds) → length ks ≡ length bodies → ((i : ℕ) (k : Kinds) → slice_get ks i ≡ Some k → AreLeft table bodies i k)
      → (j : ℕ) (kind : Kind) → IsTrue (allows (called_kinds ks (Some j)) kind) ↔ (Leads table bodies kind j → ⊥)
  called_left bodies ks many left j kind = elim (cases_lt j (length ks)) [
    | inl within ↦
        let here = slice_get-get_or ks j everyone within in
        let at = left j (get_or ks j everyone) here kind in
        let same = ap or_everyone here in
        (λ h. at.0 (subst (λ x. IsTrue (allows x kind)) same h), λ free. subst (λ x. IsTrue (allows x kind)) (sym same) (at.1 free))
    | inr past ↦
        let same = ap or_everyone (slice_get_past ks j past) in
        (λ h. nothing_leads bodies kind j (omega (arith, past, many)), λ free. subst (λ x. IsTrue (allows x kind)) (sym same) (everyone_allowed kind))
  ]

-- The same of what the code has made.
module _ (table : List Term) (bodies : List Node) (in_range : (w : List ℕ) (t : Term) (j : ℕ) → term_named table w ≡ Some t → t.what ≡ what.Procedure j → j < length bodies)
    (n : ℕ) (kinds : List Kinds) (list : List Call) (counted : n ≡ length bodies) (kinds_are : kinds ≡ own_of table bodies) (list_is : list ≡ calls_from table 0 bodies) where
  pub list_inside : All (λ c. c.callee < n) list
  list_inside = subst (λ m. All (λ c. c.callee < m) list) (sym counted) (subst (All (λ c. c.callee < length bodies)) (sym list_is) (calls_inside table bodies in_range))

  module _ (callers : List (List ℕ)) (callers_are : callers ≡ reversed (nobody n) list) where
    same_callers : callers ≡ reversed (nobody (length bodies)) (calls_from table 0 bodies)
    same_callers = callers_are ∙ ap (λ m. reversed (nobody m) list) counted ∙ ap (reversed (nobody (length bodies))) list_is

    pub callers_many : length callers ≡ length kinds
    callers_many = ap length callers_are ∙ reversed_length (nobody n) list ∙ nobody_length n ∙ counted ∙ sym (own_length table bodies) ∙ sym (ap length kinds_are)

    pub callers_placed : ArePlaces (length kinds) callers
    callers_placed = subst (λ ks. ArePlaces (length ks) callers) (sym kinds_are) (subst (ArePlaces (length (own_of table bodies))) (sym same_callers) (are_places table bodies in_range))

    pub left_there : (ks : List Kinds) → AreSettled kinds callers ks → (i : ℕ) (k : Kinds) → slice_get ks i ≡ Some k → AreLeft table bodies i k
    left_there ks settled = settled_left table bodies in_range ks (subst (λ own. AreSettled own (reversed (nobody (length bodies)) (calls_from table 0 bodies)) ks) kinds_are (subst (λ cs. AreSettled kinds cs ks) same_callers settled))
