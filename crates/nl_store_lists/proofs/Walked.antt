-- Lists of keys that have just the items that pass a test, and the numbers of these items in order.
use Rattle.std.proofs.Common.{◌≡◌, ◌≢◌, ℕ, zero, suc, ◌+◌, ◌<◌, ◌≤◌, Bool, true, false, List, [], ◌∷◌, length, map, filter, Option, Some, None, eqb, cond, refl, sym, ap, ◌∙◌, inl, inr, arith, subst}
use Rattle.std.specs.Prelude.{slice_index}
use Rattle.std.specs.Option.{option_map}
use Rattle.std.specs.List.Sorted.{IsPermutation, IsNonDecreasing, IsStrictlyIncreasing}
use Rattle.std.proofs.lemmas.Bool.{cases_eq}
use Rattle.nl_store_lists.specs.Chained.{has, IsOnce, without}
use Rattle.nl_store_lists.specs.Rising.{IsRisingBy, collect}
use Rattle.nl_store_lists.proofs.Members.{has-first, has-later, has-rest, has-without, once-without}
use Rattle.nl_store_lists.proofs.Rising.{rising-one, rising-once, rising-sorted}
use Rattle.nl_store_lists.proofs.Collected.{collected-from, has-collect, length-without, rising-collect}
use Rattle.nl_store_lists.specs.Rolls.{under, numbered, roll, passes, listed_serial, IsRoll}
use Rattle.nl_store_lists.proofs.Collecting.{kept, collect-map, collect-filter}
use Rattle.nl_store_lists.proofs.Rolls.{roll-own}

-- ---- lists that have their keys once

pub both : (a b : Bool) → (a ≡ true → b ≡ true) → (b ≡ true → a ≡ true) → a ≡ b
both true b there back = sym (there refl)
both false true there back = back refl
both false false there back = refl

shorter : (xs ys : List ℕ) → IsOnce xs → IsOnce ys → ((j : ℕ) → has xs j ≡ true → has ys j ≡ true) → length xs ≤ length ys
shorter [] ys a b h = omega arith
shorter (x ∷ xs) ys a b h =
    let rest = shorter xs (without x ys) a.1 (once-without x ys b) (λ j t.
    let ne : j ≢ x = λ q. (let z = subst (λ y. has xs y ≡ true) q t in let w = a.0 in absurd (cc)) in
    let there = h j (has-later x xs j t) in
    let f : eqb j x ≡ false = grind arith in
    has-without x ys j b ∙ ap (λ c. cond c false (has ys j)) f ∙ there) in
    let less = length-without x ys (h x (has-first x xs)) in
    omega arith

-- lists that have the same keys once are as long
pub once-long : (xs ys : List ℕ) → IsOnce xs → IsOnce ys → ((j : ℕ) → has xs j ≡ has ys j) → length xs ≡ length ys
once-long xs ys a b same =
    let one = shorter xs ys a b (λ j h. sym (same j) ∙ h) in
    let two = shorter ys xs b a (λ j h. same j ∙ h) in
    omega arith

-- ---- numbers of keys

module _ (f : ℕ → ℕ) where
  pub mapped-from : (ks : List ℕ) (m : ℕ) → has (map f ks) m ≡ true → (k : ℕ) × (has ks k ≡ true) × (f k ≡ m)
  mapped-from [] m h = absurd (cc)
  mapped-from (k ∷ ks) m h = elim (cases_eq m (f k)) [
    | inl q ↦ (k, has-first k ks, sym q)
    | inr ne ↦ (let r = mapped-from ks m (has-rest (f k) (map f ks) m h ne) in (r.0, has-later k ks r.0 r.1, r.2))
  ]

  pub mapped-to : (ks : List ℕ) (k : ℕ) → has ks k ≡ true → has (map f ks) (f k) ≡ true
  mapped-to [] k h = absurd (cc)
  mapped-to (j ∷ ks) k h = elim (cases_eq k j) [
    | inl q ↦ ap (has (map f (j ∷ ks))) (ap f q) ∙ has-first (f j) (map f ks)
    | inr ne ↦ has-later (f j) (map f ks) (f k) (mapped-to ks k (has-rest j ks k h ne))
  ]

  pub mapped-once : (ks : List ℕ) → ((j k : ℕ) → has ks j ≡ true → has ks k ≡ true → f j ≡ f k → j ≡ k) → IsOnce ks → IsOnce (map f ks)
  mapped-once [] one a = tt
  mapped-once (k ∷ ks) one a = (
    absent (has (map f ks) (f k)) refl,
    mapped-once ks (λ i j hi hj. one i j (has-later k ks i hi) (has-later k ks j hj)) a.1,
  )
    where
      absent : (b : Bool) → has (map f ks) (f k) ≡ b → has (map f ks) (f k) ≡ false
      absent false e = e
      absent true e =
          let r = mapped-from ks (f k) e in
          let q = one r.0 k (has-later k ks r.0 r.1) (has-first k ks) r.2 in
          let z = subst (λ x. has ks x ≡ true) q r.1 in
          let y = a.0 in
          absurd (cc)

  pub mapped-rising : (ks : List ℕ) → IsRisingBy f ks → IsRisingBy (λ m. m) (map f ks)
  mapped-rising [] r = tt
  mapped-rising (k ∷ ks) r = (λ y h. (let z = mapped-from ks y h in let l = r.0 z.0 z.1 in subst (λ m. f k < m) z.2 l), mapped-rising ks r.1)

-- numbers that rise increase
pub rising-increasing : (xs : List ℕ) → IsRisingBy (λ m. m) xs → IsStrictlyIncreasing xs
rising-increasing [] r k l = absurd (omega arith)
rising-increasing (x ∷ []) r k l = absurd (omega arith)
rising-increasing (x ∷ y ∷ ys) r zero l = r.0 y (has-first y ys)
rising-increasing (x ∷ y ∷ ys) r (suc k) l =
    let e : suc (k + 1) ≡ suc k + 1 = omega arith in
    subst (λ m. slice_index (y ∷ ys) k < slice_index (x ∷ y ∷ ys) m) e (rising-increasing (y ∷ ys) r.1 k (omega arith))

-- ---- the keys of the items that pass a test

module _ {X : Type 0} (number_of : X → ℕ) (item : ℕ → Option X) (key_of : ℕ → Option ℕ) (n : ℕ) (d : IsRoll number_of item key_of n) (p : X → Bool) where
  -- the number of the item of a number, where that passes the test
  abbrev told : ℕ → Option ℕ
  told m = option_map number_of (kept p (numbered item key_of m))

  numbers-are : collect told n ≡ map number_of (filter p (roll item key_of n))
  numbers-are = collect-map number_of (λ m. kept p (numbered item key_of m)) n ∙ ap (map number_of) (collect-filter p (numbered item key_of) n)

  told-some : (m : ℕ) (o : Option X) (b : Bool) (j : ℕ) → numbered item key_of m ≡ o → passes p o ≡ b → option_map number_of (kept p o) ≡ Some j → (j ≡ m) × (b ≡ true)
  told-some m None b j e q h = absurd (cc)
  told-some m (Some x) true j e q h =
      let own = roll-own number_of item key_of n d m x e in
      let z : option_map number_of (kept p (Some x)) ≡ Some (number_of x) = ap (λ c. option_map number_of (cond c (Some x) None)) q in
      let w : number_of x ≡ j = cc in
      (sym w ∙ own, refl)
  told-some m (Some x) false j e q h =
      let z : option_map number_of (kept p (Some x)) ≡ None = ap (λ c. option_map number_of (cond c (Some x) None)) q in
      absurd (cc)

  told-own : (m j : ℕ) → told m ≡ Some j → j ≡ m
  told-own m j h = (told-some m (numbered item key_of m) (passes p (numbered item key_of m)) j refl refl h).0

  pub numbers-rise : IsRisingBy (λ m. m) (map number_of (filter p (roll item key_of n)))
  numbers-rise = subst (IsRisingBy (λ m. m)) numbers-are (rising-collect (λ m. m) told n told-own)

  told-passes : (m : ℕ) (x : X) → numbered item key_of m ≡ Some x → p x ≡ true → told m ≡ Some m
  told-passes m x e q = ap (λ o. option_map number_of (kept p o)) e ∙ ap (λ c. option_map number_of (cond c (Some x) None)) q ∙ ap Some (roll-own number_of item key_of n d m x e)

  number-passes : (m : ℕ) → has (map number_of (filter p (roll item key_of n))) m ≡ true → passes p (numbered item key_of m) ≡ true
  number-passes m h =
      let r = collected-from told n m (ap (λ xs. has xs m) numbers-are ∙ h) in
      let z = told-some r.0 (numbered item key_of r.0) (passes p (numbered item key_of r.0)) m refl refl r.2 in
      subst (λ i. passes p (numbered item key_of i) ≡ true) (sym z.0) z.1

  -- a list of these keys
  module _ (ks : List ℕ) (once : IsOnce ks) (members : (k : ℕ) → has ks k ≡ passes p (item k)) where
    abbrev number_at : ℕ → ℕ
    number_at k = listed_serial number_of (item k)

    member-item : (k : ℕ) (o : Option X) → item k ≡ o → has ks k ≡ true → (x : X) × (item k ≡ Some x) × (p x ≡ true)
    member-item k None e h = absurd (let z = sym (ap (passes p) e) ∙ sym (members k) ∙ h in cc)
    member-item k (Some x) e h = (x, e, sym (ap (passes p) e) ∙ sym (members k) ∙ h)

    member-key : (k : ℕ) → has ks k ≡ true → key_of (number_at k) ≡ Some k
    member-key k h = let r = member-item k (item k) refl h in ap key_of (ap (listed_serial number_of) r.1) ∙ d.found k r.0 r.1

    one-key : (j k : ℕ) → has ks j ≡ true → has ks k ≡ true → number_at j ≡ number_at k → j ≡ k
    one-key j k hj hk e =
        let a = member-key j hj in
        let b = member-key k hk in
        let z = ap key_of e in
        (cc)

    pub walked-once : IsOnce (map number_at ks)
    walked-once = mapped-once number_at ks one-key once

    there : (m : ℕ) → has (map number_at ks) m ≡ true → has (map number_of (filter p (roll item key_of n))) m ≡ true
    there m h =
        let z = mapped-from number_at ks m h in
        let r = member-item z.0 (item z.0) refl z.1 in
        let at : number_of r.0 ≡ m = sym (ap (listed_serial number_of) r.1) ∙ z.2 in
        let key : key_of m ≡ Some z.0 = ap key_of (sym at) ∙ d.found z.0 r.0 r.1 in
        ap (λ xs. has xs m) (sym numbers-are) ∙ has-collect told n m m (d.below m z.0 key) (told-passes m r.0 (ap (under item) key ∙ r.1) r.2)

    back-under : (m : ℕ) (o : Option ℕ) → key_of m ≡ o → passes p (under item o) ≡ true → has (map number_at ks) m ≡ true
    back-under m None e h = absurd (cc)
    back-under m (Some k) e h =
        let r = d.right m k e in
        let at : number_at k ≡ m = ap (listed_serial number_of) r.is ∙ r.number_is in
        subst (λ i. has (map number_at ks) i ≡ true) at (mapped-to number_at ks k (members k ∙ h))

    pub walked-same : (m : ℕ) → has (map number_at ks) m ≡ has (map number_of (filter p (roll item key_of n))) m
    walked-same m = both _ _ (there m) (λ h. back-under m (key_of m) refl (number-passes m h))

    -- in order of their numbers
    pub walked-rising : IsRisingBy number_at ks → map number_at ks ≡ map number_of (filter p (roll item key_of n))
    walked-rising r = rising-one (λ m. m) _ _ (mapped-rising number_at ks r) numbers-rise walked-same

    -- in any order, and then sorted
    pub walked-sorted : (ys : List ℕ) → IsPermutation (map number_at ks) ys → IsNonDecreasing ys → ys ≡ map number_of (filter p (roll item key_of n))
    walked-sorted ys perm up =
        let s = rising-sorted (map number_at ks) ys walked-once perm up in
        rising-one (λ m. m) _ _ s.rises numbers-rise (λ m. s.same m ∙ walked-same m)

    pub walked-long : length (map number_at ks) ≡ length (map number_of (filter p (roll item key_of n)))
    walked-long = once-long _ _ walked-once (rising-once (λ m. m) _ numbers-rise) walked-same
