-- Bodies and lone texts are right or have a first fault, since the kinds that may run each procedure can be found.
use Rattle.std.proofs.Common.{◌≡◌, ℕ, zero, suc, ◌+◌, ◌<◌, ◌≤◌, false, List, [], ◌∷◌, ◌++◌, Option, Some, None, All, length, inl, inr, ◌⊎◌, refl, sym, ap, subst, ◌∙◌, arith, length-append}
use Rattle.std.specs.Prelude.{slice_get}
use Rattle.std.specs.List.{Contains}
use Rattle.std.proofs.lemmas.Bool.{cases_lt}
use Rattle.std.proofs.lemmas.List.Elements.{Contains-append_right, All-cons, All-nil}
use Rattle.nl_fixed.specs.declared.span.Span.{Span}
use Rattle.nl_words.specs.declared.entry.Kinds.{Kinds}
use Rattle.nl_words.specs.Kinds.{everyone, observers}
use Rattle.nl_tree.specs.declared.declared.Declared.{Declared}
use Rattle.nl_tree.specs.declared.faults.CheckKind.{CheckKind}
use Rattle.nl_tree.specs.declared.declared.Procedure.{Procedure}
use Rattle.nl_tree.specs.Tree.{Node}
use Rattle.nl_tree.specs.Vocabulary.{terms}
use Rattle.nl_tree.specs.Context.{IsRightText, pieces}
use Rattle.nl_tree.specs.Checked.{IsModelFault, IsLoneFault, KindsAreLeft}
use Rattle.nl_check.specs.declared.refusal.CheckRefusal.TheVariants as refusal
use Rattle.nl_check.specs.declared.faults.Wrong.{Wrong}
use Rattle.nl_check.specs.inner.Calls.{own_of, calls_from, reversed, nobody}
use Rattle.nl_check.specs.inner.Faults.{first_wrong}
use Rattle.nl_check.specs.Laws.{BodiesAreRightOrFaulty, TextsAreRightOrFaulty}
use Rattle.nl_check.specs.inner.Reach.{kinds_at, places_at, ArePlaces, AreSettled, passed_kinds, passed_work, Settling, left_to_do}
use Rattle.nl_check.specs.inner.Steps.{steps_of}
use Rattle.nl_check.proofs.Chains.{stepped, begun, settled, all_reached, passed_weighs, within_all}
use Rattle.nl_check.proofs.Graph.{own_length, callers_many, callers_placed, left_there}
use Rattle.nl_check.proofs.Judged.{callee_there, body_judged, text_right, text_refused, RightBelow, right_more, all_right, first_refused}

-- ---- the work is done in so many rounds

-- the last of some elements, and those before it
last_of : {A : Type 0} (x : A) (xs : List A) → (front : List A) × (y : A) × (x ∷ xs ≡ front ++ y ∷ [])
last_of x [] = ([], x, refl)
last_of x (z ∷ zs) = let (front, y, is) = last_of z zs in (x ∷ front, y, ap (λ ws. x ∷ ws) is)

-- the numbers below one
abbrev below : ℕ → List ℕ
below zero = []
below (suc n) = n ∷ below n

below_has : (n i : ℕ) → i < n → Contains (below n) i
below_has zero i h = absurd (omega (arith, h))
below_has (suc n) i h = elim (cases_lt i n) [
  | inl less ↦ Contains-append_right (n ∷ []) (below n) i (below_has n i less)
  | inr past ↦ let same : n ≡ i = omega (arith, h, past) in (0, omega arith, same)
]

below_inside : (n m : ℕ) → n ≤ m → All (λ i. i < m) (below n)
below_inside zero m h = All-nil (λ i. i < m)
below_inside (suc n) m h = All-cons (λ i. i < m) n (below n) (omega (arith, h)) (below_inside n m (omega (arith, h)))

module _ (own : List Kinds) (callers : List (List ℕ)) (placed : ArePlaces (length own) callers) where
  abbrev Found : Type 0
  Found = (ks : List Kinds) × ((length ks ≡ length own) × AreSettled own callers ks)

  one_less : (ks : List Kinds) (work rest : List ℕ) (j : ℕ) → Settling own callers ks work → work ≡ rest ++ j ∷ []
      → left_to_do (passed_kinds (kinds_at ks j) (places_at callers j) ks) (passed_work (kinds_at ks j) (places_at callers j) ks rest) < left_to_do ks work
  one_less ks work rest j s is =
      let fewer = passed_weighs (kinds_at ks j) (places_at callers j) ks rest (within_all (kinds_at ks j) (length own) (places_at callers j) ks s.many (placed j)) in
      let longer = length-append rest (j ∷ []) in
      rw is (omega (arith, fewer, longer))

  rounds : (room : ℕ) (ks : List Kinds) (work : List ℕ) → left_to_do ks work < room → Settling own callers ks work → Found
  rounds zero ks work few s = absurd (omega (arith, few))
  rounds (suc room) ks [] few s = (ks, (s.many, settled own callers placed ks s))
  rounds (suc room) ks (first ∷ more) few s =
      let (rest, j, is) = last_of first more in
      let less = one_less ks (first ∷ more) rest j s is in
      rounds room (passed_kinds (kinds_at ks j) (places_at callers j) ks) (passed_work (kinds_at ks j) (places_at callers j) ks rest) (omega (arith, few, less))
      (stepped own callers placed ks rest j (subst (Settling own callers ks) is s))

  settled_kinds : length callers ≡ length own → Found
  settled_kinds many =
      let work = below (length own) in
      rounds (suc (left_to_do own work)) own work (omega arith)
      (begun own callers placed work (below_inside (length own) (length own) (omega arith)) (all_reached callers work (λ i within. below_has (length own) i (omega (arith, within, many)))))

-- ---- the kinds that may run each procedure

module _ (d : Declared) (bodies : List Node) (many : length bodies ≡ length d.procedures) where
  kinds_left : (ks : List Kinds) × ((length ks ≡ length bodies) × KindsAreLeft d bodies ks)
  kinds_left =
      let own = own_of (terms d) bodies in
      let calls = calls_from (terms d) 0 bodies in
      let callers = reversed (nobody (length bodies)) calls in
      let there = callee_there d bodies many in
      let placed = callers_placed (terms d) bodies there (length bodies) own calls refl refl refl callers refl in
      let as_many = callers_many (terms d) bodies there (length bodies) own calls refl refl refl callers refl in
      let (ks, (all, are_settled)) = settled_kinds own callers placed as_many in
      (ks, (all ∙ own_length (terms d) bodies, left_there (terms d) bodies there (length bodies) own calls refl refl refl callers refl ks are_settled))

-- ---- body after body

module _ (d : Declared) (bodies : List Node) (called : List Kinds) (many : length called ≡ length bodies) (left : KindsAreLeft d bodies called) where
  abbrev Faulty : Type 0
  Faulty = (i : ℕ) × (x : CheckKind) × (p : Span) × IsModelFault d bodies i x p

  judged : (n : ℕ) (p : Procedure) (t : Node) → RightBelow d bodies n → slice_get d.procedures n ≡ Some p → slice_get bodies n ≡ Some t
      → (found : Option Wrong) → found ≡ first_wrong called p.reporter [] everyone (steps_of (terms d) false (pieces (terms d) t)) → RightBelow d bodies (n + 1) ⊎ Faulty
  judged n p t before is_p is_t None is = inl (right_more d bodies n before (body_judged d bodies called many left n p t is_p is_t None is))
  judged n p t before is_p is_t (Some w) is =
      let (i, (number, fault)) = first_refused d bodies n (refusal.Fault w.kind (n + 1) w.span) before (body_judged d bodies called many left n p t is_p is_t (Some w) is) in
      inr (i, w.kind, w.span, fault)

  one_more : (n : ℕ) → RightBelow d bodies n → (p : Option Procedure) (t : Option Node) → slice_get d.procedures n ≡ p → slice_get bodies n ≡ t → RightBelow d bodies (n + 1) ⊎ Faulty
  one_more n before None t is_p is_t = inl (right_more d bodies n before (λ q u has_q has_u. let bad : None ≡ Some q = sym is_p ∙ has_q in cc))
  one_more n before (Some p) None is_p is_t = inl (right_more d bodies n before (λ q u has_q has_u. let bad : None ≡ Some u = sym is_t ∙ has_u in cc))
  one_more n before (Some p) (Some t) is_p is_t = judged n p t before is_p is_t (first_wrong called p.reporter [] everyone (steps_of (terms d) false (pieces (terms d) t))) refl

  -- the bodies below a number are right, or there is a first fault
  up_to : (n : ℕ) → RightBelow d bodies n ⊎ Faulty
  up_to zero = inl (λ j p t less is_p is_t. absurd (omega (arith, less)))
  up_to (suc n) = elim (up_to n) [
    | inr fault ↦ inr fault
    | inl before ↦
        let next : n + 1 ≡ suc n = omega arith in
        subst (λ m. RightBelow d bodies m ⊎ Faulty) next (one_more n before (slice_get d.procedures n) (slice_get bodies n) refl refl)
  ]

  lone : (t : Node) (found : Option Wrong) → found ≡ first_wrong called false [] observers (steps_of (terms d) false (pieces (terms d) t))
      → IsRightText (terms d) bodies t ⊎ ((x : CheckKind) × (p : Span) × IsLoneFault d bodies t x p)
  lone t None is = inl (text_right d bodies called many left t None is)
  lone t (Some w) is = inr (w.kind, w.span, (text_refused d bodies called many left t (Some w) is).1)

pub bodies_are_right_or_faulty : BodiesAreRightOrFaulty
bodies_are_right_or_faulty d bodies many =
    let (ks, (all, left)) = kinds_left d bodies many in
    elim (up_to d bodies ks all left (length d.procedures)) [
      | inl before ↦ inl (all_right d bodies (length d.procedures) (omega arith) before)
      | inr fault ↦ inr fault
    ]

pub texts_are_right_or_faulty : TextsAreRightOrFaulty
texts_are_right_or_faulty d bodies t many =
    let (ks, (all, left)) = kinds_left d bodies many in
    lone d bodies ks all left t (first_wrong ks false [] observers (steps_of (terms d) false (pieces (terms d) t))) refl
