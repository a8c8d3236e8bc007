-- The kinds that may run each procedure: what one step of the work leaves, and that what stands when no work is left is what nothing bars.
use Rattle.std.proofs.Common.{◌≡◌, ℕ, zero, suc, ◌+◌, ◌<◌, ◌≤◌, Bool, true, false, not, cond, IsTrue, List, [], ◌∷◌, ◌++◌, All, length, get_or, set, Some, ltb, inl, inr, ◌⊎◌, refl, sym, ap, subst, ◌∙◌, arith, length-append}
use Rattle.std.specs.List.{Contains, sum_by}
use Rattle.std.proofs.lemmas.List.{get_or_past, get_or_default, length-set, get_or-set_same, get_or-set_other}
use Rattle.std.proofs.lemmas.List.Elements.{Contains-append_left, Contains-push, Contains-push_cases, Contains-append_right, Contains-append_cases, All-append, All-cons, All-nil, All-tail, All-pop, All-contains}
use Rattle.std.proofs.lemmas.List.Sums.{sum_by-set}
use Rattle.std.proofs.lemmas.Bool.{cases_eq, cases_lt, ltb-true, ltb-false}
use Rattle.nl_words.specs.declared.entry.Kinds.{Kinds}
use Rattle.nl_words.specs.Kinds.{everyone}
use Rattle.nl_tree.specs.Context.{Kind, allows}
use Rattle.nl_check.specs.inner.Kinds.{meet, count}
use Rattle.nl_check.specs.inner.Reach.{kinds_at, places_at, Barred, by_own, by_callee, ArePlaces, AreSettled, passed_kinds, passed_work, Under, Settling, left_to_do}
use Rattle.nl_check.proofs.Meets.{meet_left, meet_right, meet_lacks, true_or_not, not_both, count_meet, none_lost}

set_here : (ks : List Kinds) (i j : ℕ) (k : Kinds) → i < length ks → j ≡ i → kinds_at (set ks i k) j ≡ k
set_here ks i j k within same = subst (λ x. kinds_at (set ks i k) x ≡ k) (sym same) (get_or-set_same ks i k everyone within)

-- one procedure's kinds are met with others
module _ (g : Kinds) (ks : List Kinds) (i : ℕ) (within : i < length ks) where
  abbrev old : Kinds
  old = kinds_at ks i

  abbrev next : List Kinds
  next = set ks i (meet old g)

  one_shrinks : (j : ℕ) → Under (kinds_at next j) (kinds_at ks j)
  one_shrinks j kind h = elim (cases_eq j i) [
    | inl same ↦ subst (λ x. IsTrue (allows (kinds_at ks x) kind)) (sym same) (meet_left old g kind (subst (λ k. IsTrue (allows k kind)) (set_here ks i j (meet old g) within same) h))
    | inr other ↦ subst (λ k. IsTrue (allows k kind)) (get_or-set_other ks i j (meet old g) everyone other) h
  ]

  one_sound : (j : ℕ) (kind : Kind) → IsTrue (not (allows (kinds_at next j) kind)) → IsTrue (not (allows (kinds_at ks j) kind)) ⊎ ((j ≡ i) × IsTrue (not (allows g kind)))
  one_sound j kind h = elim (cases_eq j i) [
    | inl same ↦ elim (meet_lacks old g kind (subst (λ k. IsTrue (not (allows k kind))) (set_here ks i j (meet old g) within same) h)) [
      | inl here ↦ inl (subst (λ x. IsTrue (not (allows (kinds_at ks x) kind))) (sym same) here)
      | inr there ↦ inr (same, there)
    ]
    | inr other ↦ inl (subst (λ k. IsTrue (not (allows k kind))) (get_or-set_other ks i j (meet old g) everyone other) h)
  ]

  one_given : Under (kinds_at next i) g
  one_given kind h = meet_right old g kind (subst (λ k. IsTrue (allows k kind)) (set_here ks i i (meet old g) within refl) h)

  -- where no kind was lost, none is missing
  one_kept : count old ≤ count (meet old g) → (j : ℕ) → Under (kinds_at ks j) (kinds_at next j)
  one_kept low j kind h = elim (cases_eq j i) [
    | inl same ↦ subst (λ k. IsTrue (allows k kind)) (sym (set_here ks i j (meet old g) within same)) (none_lost old g low kind (subst (λ x. IsTrue (allows (kinds_at ks x) kind)) same h))
    | inr other ↦ subst (λ k. IsTrue (allows k kind)) (sym (get_or-set_other ks i j (meet old g) everyone other)) h
  ]

  one_other : (j : ℕ) → (j ≡ i → ⊥) → Under (kinds_at ks j) (kinds_at next j)
  one_other j other kind h = subst (λ k. IsTrue (allows k kind)) (sym (get_or-set_other ks i j (meet old g) everyone other)) h

  one_weighs : sum_by count next + count old ≡ sum_by count ks + count (meet old g)
  one_weighs = sum_by-set count ks i (meet old g) everyone within

-- the rest of the callers
module _ (g : Kinds) where
  abbrev after : List Kinds → ℕ → List Kinds
  after ks i = set ks i (meet (kinds_at ks i) g)

  abbrev shrank : List Kinds → ℕ → Bool
  shrank ks i = ltb (count (meet (kinds_at ks i) g)) (count (kinds_at ks i))

  abbrev more_work : List Kinds → ℕ → List ℕ → List ℕ
  more_work ks i work = cond (shrank ks i) (work ++ i ∷ []) work

  -- each of these is a procedure
  abbrev Within : List Kinds → List ℕ → Type 0
  Within ks [] = Unit {0}
  Within ks (i ∷ is) = (i < length ks) × Within ks is

  within_next : (ks : List Kinds) (i : ℕ) (is : List ℕ) → Within ks is → Within (after ks i) is
  within_next ks i [] h = tt
  within_next ks i (j ∷ is) h = (subst (λ n. j < n) (sym (length-set ks i (meet (kinds_at ks i) g))) h.0, within_next ks i is h.1)

  pub passed_length : (is : List ℕ) (ks : List Kinds) → length (passed_kinds g is ks) ≡ length ks
  passed_length [] ks = refl
  passed_length (i ∷ is) ks = passed_length is (after ks i) ∙ length-set ks i (meet (kinds_at ks i) g)

  pub passed_shrinks : (is : List ℕ) (ks : List Kinds) → Within ks is → (j : ℕ) → Under (kinds_at (passed_kinds g is ks) j) (kinds_at ks j)
  passed_shrinks [] ks h j kind k = k
  passed_shrinks (i ∷ is) ks h j kind k = one_shrinks g ks i h.0 j kind (passed_shrinks is (after ks i) (within_next ks i is h.1) j kind k)

  pub passed_sound : (is : List ℕ) (ks : List Kinds) → Within ks is → (j : ℕ) (kind : Kind) → IsTrue (not (allows (kinds_at (passed_kinds g is ks) j) kind))
      → IsTrue (not (allows (kinds_at ks j) kind)) ⊎ (Contains is j × IsTrue (not (allows g kind)))
  passed_sound [] ks h j kind k = inl k
  passed_sound (i ∷ is) ks h j kind k = elim (passed_sound is (after ks i) (within_next ks i is h.1) j kind k) [
    | inl before ↦ elim (one_sound g ks i h.0 j kind before) [
      | inl first ↦ inl first
      | inr (same, out) ↦ inr ((0, omega arith, sym same), out)
    ]
    | inr (later, out) ↦ inr (Contains-append_right (i ∷ []) is j later, out)
  ]

  pub passed_given : (is : List ℕ) (ks : List Kinds) → Within ks is → (j : ℕ) → Contains is j → Under (kinds_at (passed_kinds g is ks) j) g
  passed_given [] ks h j (n, inside, is) kind k = absurd (omega (arith, inside))
  passed_given (i ∷ is) ks h j here kind k = elim (Contains-append_cases (i ∷ []) is j here) [
    | inl (zero, _, same) ↦ one_given g ks i h.0 kind (subst (λ x. IsTrue (allows (kinds_at (after ks i) x) kind)) (sym same) (passed_shrinks is (after ks i) (within_next ks i is h.1) j kind k))
    | inl (suc n, inside, _) ↦ absurd (omega (arith, inside))
    | inr later ↦ passed_given is (after ks i) (within_next ks i is h.1) j later kind k
  ]

  pub passed_grows : (is : List ℕ) (ks : List Kinds) (work : List ℕ) (j : ℕ) → Contains work j → Contains (passed_work g is ks work) j
  passed_grows [] ks work j h = h
  passed_grows (i ∷ is) ks work j h = passed_grows is (after ks i) (more_work ks i work) j (elim (shrank ks i) as (λ b. Contains (cond b (work ++ i ∷ []) work) j) [ true ↦ Contains-append_left work (i ∷ []) j h | false ↦ h ])

  kept_one : (ks : List Kinds) (i : ℕ) (work : List ℕ) → i < length ks → (j : ℕ) → Under (kinds_at ks j) (kinds_at (after ks i) j) ⊎ Contains (more_work ks i work) j
  kept_one ks i work within j = elim (shrank ks i) as (λ b. shrank ks i ≡ b → Under (kinds_at ks j) (kinds_at (after ks i) j) ⊎ Contains (cond b (work ++ i ∷ []) work) j) [
    | true ↦ λ _. elim (cases_eq j i) [ inl same ↦ inr (subst (λ x. Contains (work ++ i ∷ []) x) (sym same) (Contains-push work i)) | inr other ↦ inl (one_other g ks i within j other) ]
    | false ↦ λ same. inl (one_kept g ks i within (ltb-false _ _ same) j)
  ] refl

  pub passed_kept : (is : List ℕ) (ks : List Kinds) (work : List ℕ) → Within ks is → (j : ℕ) → Under (kinds_at ks j) (kinds_at (passed_kinds g is ks) j) ⊎ Contains (passed_work g is ks work) j
  passed_kept [] ks work h j = inl (λ kind k. k)
  passed_kept (i ∷ is) ks work h j = elim (passed_kept is (after ks i) (more_work ks i work) (within_next ks i is h.1) j) [
    | inr there ↦ inr there
    | inl later ↦ elim (kept_one ks i work h.0 j) [
      | inl here ↦ inl (λ kind k. later kind (here kind k))
      | inr there ↦ inr (passed_grows is (after ks i) (more_work ks i work) j there)
    ]
  ]

  weigh_one : (ks : List Kinds) (i : ℕ) (work : List ℕ) → i < length ks → left_to_do (after ks i) (more_work ks i work) ≤ left_to_do ks work
  weigh_one ks i work within = elim (shrank ks i) as (λ b. shrank ks i ≡ b → left_to_do (after ks i) (cond b (work ++ i ∷ []) work) ≤ left_to_do ks work) [
    | true ↦ λ same. let less = ltb-true _ _ same in omega (arith, one_weighs g ks i within, less, length-append work (i ∷ []))
    | false ↦ λ same. omega (arith, one_weighs g ks i within, count_meet (kinds_at ks i) g)
  ] refl

  pub passed_weighs : (is : List ℕ) (ks : List Kinds) (work : List ℕ) → Within ks is → left_to_do (passed_kinds g is ks) (passed_work g is ks work) ≤ left_to_do ks work
  passed_weighs [] ks work h = omega arith
  passed_weighs (i ∷ is) ks work h = omega (arith, passed_weighs is (after ks i) (more_work ks i work) (within_next ks i is h.1), weigh_one ks i work h.0)

  pub passed_inside : (n : ℕ) (is : List ℕ) (ks : List Kinds) (work : List ℕ) → length ks ≡ n → Within ks is → All (λ i. i < n) work → All (λ i. i < n) (passed_work g is ks work)
  passed_inside n [] ks work many h all = all
  passed_inside n (i ∷ is) ks work many h all =
      passed_inside n is (after ks i) (more_work ks i work) (length-set ks i (meet (kinds_at ks i) g) ∙ many) (within_next ks i is h.1)
      (elim (shrank ks i) as (λ b. All (λ i. i < n) (cond b (work ++ i ∷ []) work)) [ true ↦ All-append (λ i. i < n) work (i ∷ []) all (All-cons (λ i. i < n) i [] (omega (arith, many, h.0)) (All-nil (λ i. i < n))) | false ↦ all ])

  pub within_all : (n : ℕ) (is : List ℕ) (ks : List Kinds) → length ks ≡ n → All (λ i. i < n) is → Within ks is
  within_all n [] ks many all = tt
  within_all n (i ∷ is) ks many all = (omega (arith, many, all 0 0 (omega arith)), within_all n is ks many (All-tail (λ i. i < n) i is all))

-- One step keeps what holds of the work.
module _ (own : List Kinds) (callers : List (List ℕ)) (placed : ArePlaces (length own) callers) where
  pub stepped : (ks : List Kinds) (rest : List ℕ) (j : ℕ) → Settling own callers ks (rest ++ j ∷ []) →
      Settling own callers (passed_kinds (kinds_at ks j) (places_at callers j) ks) (passed_work (kinds_at ks j) (places_at callers j) ks rest)
  stepped ks rest j s =
      let g = kinds_at ks j in
      let is = places_at callers j in
      let fit = within_all g (length own) is ks s.many (placed j) in
      let before : All (λ i. i < length own) rest = (All-pop (λ i. i < length own) (rest ++ j ∷ []) rest (Some j) refl s.inside).0 in
      let kept = passed_kept g is ks rest fit in
      record {
        many = passed_length g is ks ∙ s.many;
        inside = passed_inside g (length own) is ks rest s.many fit before;
        sound = λ i kind out. elim (passed_sound g is ks fit i kind out) [ inl old_out ↦ s.sound i kind old_out | inr (calls, given_out) ↦ by_callee j calls (s.sound j kind given_out) ];
        low = λ i kind k. s.low i kind (passed_shrinks g is ks fit i kind k);
        closed = λ i k calls. elim (s.closed i k calls) [
          | inl waits ↦ elim (Contains-push_cases rest j k waits) [
            | inl still ↦ inl (passed_grows g is ks rest k still)
            | inr same ↦ subst (λ x. Contains (passed_work g is ks rest) x ⊎ Under (kinds_at (passed_kinds g is ks) i) (kinds_at (passed_kinds g is ks) x)) same (elim (kept j) [
              | inr again ↦ inl again
              | inl all_kept ↦ inr (λ kind h. all_kept kind (passed_given g is ks fit i (subst (λ x. Contains (places_at callers x) i) (sym same) calls) kind h))
            ])
          ]
          | inr under ↦ elim (kept k) [ inr again ↦ inl again | inl all_kept ↦ inr (λ kind h. all_kept kind (under kind (passed_shrinks g is ks fit i kind h))) ]
        ];
      }

  -- at first all procedures are among the work
  pub begun : (work : List ℕ) → All (λ i. i < length own) work → ((i j : ℕ) → Contains (places_at callers j) i → Contains work j) → Settling own callers own work
  begun work inside all = record { many = refl; inside = inside; sound = λ i kind out. by_own out; low = λ i kind k. k; closed = λ i j calls. inl (all i j calls) }

  out_of_reach : (ks : List Kinds) → Settling own callers ks [] → (kind : Kind) (i : ℕ) → Barred own callers kind i → IsTrue (allows (kinds_at ks i) kind) → ⊥
  out_of_reach ks s kind i (by_own out) h = not_both (allows (kinds_at own i) kind) (s.low i kind h) out
  out_of_reach ks s kind i (by_callee j calls b) h = elim (s.closed i j calls) [
    | inl (n, inside, _) ↦ absurd (omega (arith, inside))
    | inr under ↦ out_of_reach ks s kind j b (under kind h)
  ]

  -- where no work is left
  pub settled : (ks : List Kinds) → Settling own callers ks [] → AreSettled own callers ks
  settled ks s i kind = (λ h b. out_of_reach ks s kind i b h, λ free. elim (true_or_not (allows (kinds_at ks i) kind)) [ inl h ↦ h | inr out ↦ absurd (free (s.sound i kind out)) ])

-- One round of the work: what is looked at, what it gives, and what stands after it.
module _ (own : List Kinds) (callers : List (List ℕ)) (placed : ArePlaces (length own) callers) (ks : List Kinds) (work rest : List ℕ) (j : ℕ) (s : Settling own callers ks work) (popped : work ≡ rest ++ j ∷ []) where
  pub is_place : j < length own
  is_place = All-contains (λ i. i < length own) (rest ++ j ∷ []) j (subst (All (λ i. i < length own)) popped s.inside) (Contains-push rest j)

  module _ (g : Kinds) (is : List ℕ) (read : g ≡ get_or ks j g) (many : length callers ≡ length own) (listed : List ℕ) (found : listed ≡ get_or callers j listed) (same : is ≡ listed) where
    given : g ≡ kinds_at ks j
    given = read ∙ get_or_default ks j g everyone (omega (arith, is_place, s.many))

    called : is ≡ places_at callers j
    called = same ∙ found ∙ get_or_default callers j listed [] (omega (arith, is_place, many))

    pub callers_inside : All (λ i. i < length ks) is
    callers_inside = λ k d within. omega (arith, s.many, subst (All (λ i. i < length own)) (sym called) (placed j) k d within)

    module _ (next : List Kinds) (after_work : List ℕ) (passed : next ≡ passed_kinds g is ks) (put : after_work ≡ passed_work g is ks rest) where
      pub next_settling : Settling own callers next after_work
      next_settling = rw (passed, put, given, called) (stepped own callers placed ks rest j (subst (Settling own callers ks) popped s))

      pub next_less : left_to_do next after_work < left_to_do ks work
      next_less =
          let fewer = passed_weighs g is ks rest (within_all g (length ks) is ks refl callers_inside) in
          let longer = length-append rest (j ∷ []) in
          rw (passed, put, popped) (omega (arith, fewer, longer))

-- at first each procedure's place is among the work
pub all_reached : (callers : List (List ℕ)) (work : List ℕ) → ((i : ℕ) → i < length callers → Contains work i) → (i j : ℕ) → Contains (places_at callers j) i → Contains work j
all_reached callers work all i j (k, inside, is) = elim (cases_lt j (length callers)) [
  | inl within ↦ all j within
  | inr past ↦ absurd (omega (arith, inside, ap length (get_or_past callers j [] past)))
]

pub no_work : (work : List ℕ) → length work ≡ 0 → work ≡ []
no_work [] h = refl
no_work (j ∷ work) h = absurd (omega (arith, h))
