-- The first item of a list that is the same as one, and how it is found.
use Rattle.std.proofs.Common.{◌≡◌, ℕ, suc, ◌+◌, ◌<◌, ◌≤◌, ◌==◌, nat_lt, Bool, true, false, not, cond, Option, Some, None, List, [], ◌∷◌, ◌++◌, length, map, get_or, refl, sym, ap, subst, ◌∙◌, arith}
use Rattle.std.specs.List.{position_or_len}
use Rattle.std.specs.Cmp.{IsEquivalence}
use Rattle.std.proofs.Math.Seq.{get_or-append_seam}
use Rattle.std.specs.Ordering.{nat_cmp, is_eq}
use Rattle.std.specs.declared.cmp.Ordering.TheVariants.{Less, Equal, Greater}
use Rattle.std.proofs.lemmas.Bool.{false≢true, eqb-true, eqb-false}
use Rattle.std.proofs.lemmas.Bool.Decides.{nat_tests}
use Rattle.std.proofs.lemmas.List.{length-append, get_or_append_left, get_or-map}
use Rattle.std.proofs.lemmas.List.Sums.{fails_before_first, passes_at_first}
use Rattle.nl_value.specs.declared.values.Value.{Value}
use Rattle.nl_value.specs.Views.{plain}
use Rattle.nl_value.specs.Plain.{Plain, PlainNobody}
use Rattle.nl_value.specs.Living.{Living}
use Rattle.nl_value.specs.Equality.{same_values}
use Rattle.nl_listops_series.specs.inner.Firsts.{first_place, item_of, digest_at, IsFirst, IsLast, IsLatest, IsChained}
use Rattle.nl_listops_series.proofs.Digesting.{same_digests}

-- the candidate is the last first item of the digest below some bound, and the place that is sought is below the bound, unless it is
-- that of the item itself
abbrev pub Leads : Living → List Plain → ℕ → Option ℕ → Type 0
Leads w items i candidate =
    (bound : ℕ) × (bound ≤ i) × IsLatest w items (digest_at w items i) bound candidate
    × (first_place w items (item_of items i) < i → first_place w items (item_of items i) < bound)

-- how far back the candidate can lead
abbrev pub steps_left : Option ℕ → ℕ
steps_left None = 0
steps_left (Some place) = suc place

-- what a place of the values has
pub item_there : (values : List Value) (i : ℕ) (v : Value) → i < length values → v ≡ get_or values i v → item_of (map plain values) i ≡ plain v
item_there values i v h is = get_or-map plain values i v PlainNobody h ∙ ap plain (sym is)

pub same_there : (w : Living) (values : List Value) (i k : ℕ) (u v : Value) (b : Bool) → i < length values → k < length values → u ≡ get_or values i u → v ≡ get_or values k v →
    same_values w (plain u) (plain v) ≡ b → same_values w (item_of (map plain values) i) (item_of (map plain values) k) ≡ b
same_there w values i k u v b h g first second same =
    ap (λ p. same_values w p (item_of (map plain values) k)) (item_there values i u h first) ∙ (ap (same_values w (plain u)) (item_there values k v g second) ∙ same)

-- a key of a map is found by what it is
at_key : (m n : ℕ) → is_eq (nat_cmp m n) ≡ (m == n)
at_key m n = by (nat_lt m n) refl
  where
    rest : (b : Bool) → is_eq (cond b Equal Greater) ≡ b
    rest true = refl
    rest false = refl

    by : (b : Bool) → nat_lt m n ≡ b → is_eq (cond (nat_lt m n) Less (cond (m == n) Equal Greater)) ≡ (m == n)
    by true is = let differs : (m == n) ≡ false = grind (arith, nat_tests, is) in ap (λ b. is_eq (cond b Less (cond (m == n) Equal Greater))) is ∙ sym differs
    by false is = ap (λ b. is_eq (cond b Less (cond (m == n) Equal Greater))) is ∙ rest (m == n)

-- ---- the first place of an item of the list

module _ (w : Living) (e : IsEquivalence (same_values w)) (items : List Plain) where
  -- two items that are the same are first found at one place
  pub same_place : (a b : Plain) → same_values w a b ≡ true → first_place w items a ≡ first_place w items b
  same_place a b same = by items
    where
      step : (x : Plain) (n : ℕ) (m : ℕ) → n ≡ m → cond (not (same_values w a x)) (1 + n) 0 ≡ cond (not (same_values w b x)) (1 + m) 0
      step x n m is = ap (λ t. cond (not t) (1 + n) 0) (e.congr a b x same) ∙ ap (λ k. cond (not (same_values w b x)) (1 + k) 0) is

      by : (xs : List Plain) → position_or_len (same_values w a) xs ≡ position_or_len (same_values w b) xs
      by [] = refl
      by (x ∷ xs) = step x (position_or_len (same_values w a) xs) (position_or_len (same_values w b) xs) (by xs)

  -- an item of the list is found at its place or before it
  pub found_by_place : (i : ℕ) → i < length items → first_place w items (item_of items i) ≤ i
  found_by_place i h = by (same_values w (item_of items i) (item_of items i)) refl
    where
      by : (b : Bool) → same_values w (item_of items i) (item_of items i) ≡ b → first_place w items (item_of items i) ≤ i
      by true is = no_later (λ late. false≢true (sym (fails_before_first (same_values w (item_of items i)) items i PlainNobody late) ∙ is))
        where
          no_later : (i < first_place w items (item_of items i) → ⊥) → first_place w items (item_of items i) ≤ i
          no_later never = grind (arith, never)
      by false is = absurd (false≢true (sym is ∙ e.refl (item_of items i)))

  -- what stands at that place is the same, and first
  pub found_same : (i : ℕ) → i < length items → same_values w (item_of items i) (item_of items (first_place w items (item_of items i))) ≡ true
  found_same i h =
      let before = found_by_place i h in
      passes_at_first (same_values w (item_of items i)) items PlainNobody (omega arith)

  pub found_first : (i : ℕ) → i < length items → IsFirst w items (first_place w items (item_of items i))
  found_first i h = sym (same_place (item_of items i) (item_of items (first_place w items (item_of items i))) (found_same i h))

  pub found_digest : (i : ℕ) → i < length items → digest_at w items (first_place w items (item_of items i)) ≡ digest_at w items i
  found_digest i h = sym (same_digests w (item_of items i) (item_of items (first_place w items (item_of items i))) (found_same i h))

  -- ---- the search, back from place to place

  pub leads_from : (i : ℕ) (candidate : Option ℕ) → IsLatest w items (digest_at w items i) i candidate → Leads w items i candidate
  leads_from i candidate latest = (i, omega arith, latest, λ h. h)

  pub leads_below : (i other : ℕ) → Leads w items i (Some other) → other < i
  leads_below i other leads = let below = leads.2.below in let within = leads.1 in omega arith

  -- a candidate that is the same is the place that is sought
  pub leads_there : (i other : ℕ) → Leads w items i (Some other) → same_values w (item_of items i) (item_of items other) ≡ true → other ≡ first_place w items (item_of items i)
  leads_there i other leads same = sym (same_place (item_of items i) (item_of items other) same ∙ leads.2.first)

  -- and from one that isn't the search goes on
  pub leads_on : (i other : ℕ) (earlier : List (Option ℕ)) → i < length items → IsChained w items i earlier → Leads w items i (Some other) →
      same_values w (item_of items i) (item_of items other) ≡ false → Leads w items i (get_or earlier other None)
  leads_on i other earlier h chained leads differs =
      (other, omega (arith, at.below, leads.1), subst (λ d. IsLatest w items d other (get_or earlier other None)) at.digests (chained.each other (omega (arith, at.below, leads.1))), before)
    where
      at : IsLast w items (digest_at w items i) leads.0 other
      at = leads.2

      first : ℕ
      first = first_place w items (item_of items i)

      before : first < i → first < other
      before late = by (at.last first (leads.3 late) (found_first i h) (found_digest i h))
        where
          not_it : first ≡ other → ⊥
          not_it is = false≢true (sym differs ∙ (ap (λ k. same_values w (item_of items i) (item_of items k)) (sym is) ∙ found_same i h))

          by : first ≤ other → first < other
          by le = grind (arith, le, not_it)

  pub leads_back : (i other : ℕ) (earlier : List (Option ℕ)) → IsChained w items i earlier → other < i → steps_left (get_or earlier other None) < suc other
  leads_back i other earlier chained h = by (get_or earlier other None) (chained.each other h)
    where
      by : (candidate : Option ℕ) → IsLatest w items (digest_at w items other) other candidate → steps_left candidate < suc other
      by None latest = omega arith
      by (Some place) latest = omega (arith, latest.below)

  -- where there is no candidate left, the item itself is the first
  pub leads_nowhere : (i : ℕ) → i < length items → Leads w items i None → i ≡ first_place w items (item_of items i)
  leads_nowhere i h leads = by (found_by_place i h) (λ late. leads.2 (first_place w items (item_of items i)) (leads.3 late) (found_first i h) (found_digest i h))
    where
      by : first_place w items (item_of items i) ≤ i → (first_place w items (item_of items i) < i → ⊥) → i ≡ first_place w items (item_of items i)
      by le never = grind (arith, le, never)

  -- ---- one item more

  -- the item at the bound is no first one, or has another digest
  pub latest_stays : (digest i : ℕ) (candidate : Option ℕ) → (IsFirst w items i → digest_at w items i ≡ digest → ⊥) → IsLatest w items digest i candidate → IsLatest w items digest (i + 1) candidate
  latest_stays digest i None other latest = never
    where
      never : (q : ℕ) → q < i + 1 → IsFirst w items q → digest_at w items q ≡ digest → ⊥
      never q below first digests = by (q == i) refl
        where
          by : (b : Bool) → (q == i) ≡ b → ⊥
          by true is = let at : q ≡ i = grind (arith, is) in other (subst (IsFirst w items) at first) (subst (λ k. digest_at w items k ≡ digest) at digests)
          by false is = latest q (grind (arith, is, below)) first digests
  latest_stays digest i (Some place) other latest = record {
    below = omega (arith, latest.below);
    first = latest.first;
    digests = latest.digests;
    last = last;
  }
    where
      last : (q : ℕ) → q < i + 1 → IsFirst w items q → digest_at w items q ≡ digest → q ≤ place
      last q below first digests = by (q == i) refl
        where
          by : (b : Bool) → (q == i) ≡ b → q ≤ place
          by true is = let at : q ≡ i = grind (arith, is) in absurd (other (subst (IsFirst w items) at first) (subst (λ k. digest_at w items k ≡ digest) at digests))
          by false is = latest.last q (grind (arith, is, below)) first digests

  pub latest_new : (i : ℕ) → IsFirst w items i → IsLatest w items (digest_at w items i) (i + 1) (Some i)
  latest_new i first = record {
    below = omega arith;
    first = first;
    digests = refl;
    last = λ q below _ _. omega (arith, below);
  }

  pub chained_more : (i : ℕ) (earlier : List (Option ℕ)) (candidate : Option ℕ) → IsChained w items i earlier → IsLatest w items (digest_at w items i) i candidate →
      IsChained w items (i + 1) (earlier ++ candidate ∷ [])
  chained_more i earlier candidate chained latest = record {
    long = length-append earlier (candidate ∷ []) ∙ ap (λ n. n + 1) chained.long;
    each = each;
  }
    where
      each : (place : ℕ) → place < i + 1 → IsLatest w items (digest_at w items place) place (get_or (earlier ++ candidate ∷ []) place None)
      each place below = by (place == i) refl
        where
          by : (b : Bool) → (place == i) ≡ b → IsLatest w items (digest_at w items place) place (get_or (earlier ++ candidate ∷ []) place None)
          by true is =
              let at : place ≡ i = grind (arith, is) in
              let seam : get_or (earlier ++ candidate ∷ []) i None ≡ candidate =
              ap (λ k. get_or (earlier ++ candidate ∷ []) k None) (sym chained.long) ∙ get_or-append_seam earlier candidate [] None in
              subst (λ k. IsLatest w items (digest_at w items k) k (get_or (earlier ++ candidate ∷ []) k None)) (sym at)
              (subst (IsLatest w items (digest_at w items i) i) (sym seam) latest)
          by false is =
              let less : place < i = grind (arith, is, below) in
              let left : get_or (earlier ++ candidate ∷ []) place None ≡ get_or earlier place None =
              get_or_append_left earlier (candidate ∷ []) None place (omega (arith, chained.long)) in
              subst (IsLatest w items (digest_at w items place) place) (sym left) (chained.each place less)

  -- where there is no candidate, none is left
  pub leads_ended : (i : ℕ) (candidate : Option ℕ) → i < length items → ((other : ℕ) → candidate ≡ Some other → ⊥) → Leads w items i candidate → i ≡ first_place w items (item_of items i)
  leads_ended i None h not leads = leads_nowhere i h leads
  leads_ended i (Some other) h not leads = absurd (not other refl)

  -- ---- the map of the last places, where one is put in and where it is left

  pub latest_put : (i digest : ℕ) (before after : ℕ → Option ℕ) → IsFirst w items i → digest ≡ digest_at w items i →
      ((key : ℕ) → after key ≡ cond (is_eq (nat_cmp digest key)) (Some i) (before key)) → ((key : ℕ) → IsLatest w items key i (before key)) → (key : ℕ) → IsLatest w items key (i + 1) (after key)
  latest_put i digest before after first of put latest key = subst (IsLatest w items key (i + 1)) (sym (put key)) (by (digest == key) refl)
    where
      by : (b : Bool) → (digest == key) ≡ b → IsLatest w items key (i + 1) (cond (is_eq (nat_cmp digest key)) (Some i) (before key))
      by true is =
          let at : digest_at w items i ≡ key = sym of ∙ eqb-true digest key is in
          subst (λ b. IsLatest w items key (i + 1) (cond b (Some i) (before key))) (sym (at_key digest key ∙ is)) (subst (λ k. IsLatest w items k (i + 1) (Some i)) at (latest_new i first))
      by false is =
          let other : IsFirst w items i → digest_at w items i ≡ key → ⊥ = λ _ same. eqb-false digest key is (of ∙ same) in
          subst (λ b. IsLatest w items key (i + 1) (cond b (Some i) (before key))) (sym (at_key digest key ∙ is)) (latest_stays key i (before key) other (latest key))

  pub latest_left : (i first : ℕ) (before : ℕ → Option ℕ) → first ≡ first_place w items (item_of items i) → (first ≡ i → ⊥) → ((key : ℕ) → IsLatest w items key i (before key)) →
      (key : ℕ) → IsLatest w items key (i + 1) (before key)
  latest_left i first before is other latest key = latest_stays key i (before key) (λ at _. other (is ∙ at)) (latest key)
