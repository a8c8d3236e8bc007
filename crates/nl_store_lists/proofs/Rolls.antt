-- What becomes of a roll when an item comes, goes or is changed.
use Rattle.std.proofs.Common.{◌≡◌, ◌≢◌, ℕ, ◌+◌, ◌<◌, ◌≤◌, Bool, not, [], ◌∷◌, ◌++◌, length, map, filter, find, Option, Some, None, cond, refl, sym, ap, ◌∙◌, inl, inr, arith, subst}
use Rattle.std.proofs.lemmas.Bool.{cases_eq, cases_lt}
use Rattle.nl_store_lists.specs.Chained.{at_number}
use Rattle.nl_store_lists.proofs.Places.{at-here, at-other}
use Rattle.nl_store_lists.proofs.Collected.{collect-same}
use Rattle.nl_store_lists.specs.Rolls.{under, numbered, roll, HasNumber, IsRoll}
use Rattle.nl_store_lists.proofs.Collecting.{is_at, IsOwn, altered, find-past, find-in, collect-more, collect-past, collect-taken, collect-changed, count-less, count-changed, length-less}

module _ {X : Type 0} (number_of : X → ℕ) (item : ℕ → Option X) (key_of : ℕ → Option ℕ) (n : ℕ) (d : IsRoll number_of item key_of n) where
  own-under : (m : ℕ) (x : X) (o : Option ℕ) → key_of m ≡ o → under item o ≡ Some x → number_of x ≡ m
  own-under m x None e h = absurd (cc)
  own-under m x (Some k) e h =
      let r = d.right m k e in
      let a = r.is in
      let s : r.item ≡ x = cc in
      ap number_of (sym s) ∙ r.number_is

  -- the item of a number has it
  pub roll-own : IsOwn number_of (numbered item key_of)
  roll-own m x h = own-under m x (key_of m) refl h

  pub one-number : (a b k : ℕ) → key_of a ≡ Some k → key_of b ≡ Some k → a ≡ b
  one-number a b k e h =
      let r = d.right a k e in
      let s = d.right b k h in
      let p = r.is in
      let q = s.is in
      let z : r.item ≡ s.item = cc in
      sym r.number_is ∙ ap number_of z ∙ s.number_is

  past-under : (m : ℕ) (o : Option ℕ) → key_of m ≡ o → (m < n → ⊥) → under item o ≡ None
  past-under m None e h = refl
  past-under m (Some k) e h = absurd (h (d.below m k e))

  -- the item of a number in the list
  pub roll-found : (m : ℕ) → find (is_at number_of m) (roll item key_of n) ≡ numbered item key_of m
  roll-found m = elim (cases_lt m n) [
    | inl l ↦ find-in number_of (numbered item key_of) roll-own n m l
    | inr l ↦ find-past number_of (numbered item key_of) roll-own n m l ∙ sym (past-under m (key_of m) refl (λ h. absurd (omega arith)))
  ]

  -- the item under a key
  pub item-found : (k : ℕ) (x : X) → item k ≡ Some x → find (is_at number_of (number_of x)) (roll item key_of n) ≡ Some x
  item-found k x h = roll-found (number_of x) ∙ ap (under item) (d.found k x h) ∙ h

  free-under : (o : Option ℕ) → key_of n ≡ o → o ≡ None
  free-under None e = refl
  free-under (Some k) e = absurd (let z = d.below n k e in omega arith)

  -- the next number has no key
  pub next-free : key_of n ≡ None
  next-free = free-under (key_of n) refl

  -- ---- an item comes, with the next number

  module _ (item' : ℕ → Option X) (key_of' : ℕ → Option ℕ) (k : ℕ) (x : X) (vacant : item k ≡ None) (number_is : number_of x ≡ n)
      (items : (j : ℕ) → item' j ≡ at_number item k (Some x) j) (keys : (m : ℕ) → key_of' m ≡ at_number key_of n (Some k) m) where
    more-key : (m j : ℕ) → key_of m ≡ Some j → j ≢ k
    more-key m j e s =
        let r = d.right m j e in
        let a = r.is in
        let z : item j ≡ None = subst (λ i. item i ≡ None) (sym s) vacant in
        absurd (cc)

    more-item : (m j : ℕ) → key_of m ≡ Some j → item' j ≡ item j
    more-item m j e = items j ∙ at-other item k (Some x) j (more-key m j e)

    more-under : (m : ℕ) (o : Option ℕ) → key_of m ≡ o → under item' o ≡ under item o
    more-under m None e = refl
    more-under m (Some j) e = more-item m j e

    more-numbered : (m : ℕ) → numbered item' key_of' m ≡ at_number (numbered item key_of) n (Some x) m
    more-numbered m = elim (cases_eq m n) [
      | inl s ↦
          ap (under item') (keys m ∙ ap (at_number key_of n (Some k)) s ∙ at-here key_of n (Some k)) ∙ items k ∙ at-here item k (Some x)
          ∙ sym (ap (at_number (numbered item key_of) n (Some x)) s ∙ at-here (numbered item key_of) n (Some x))
      | inr ne ↦ ap (under item') (keys m ∙ at-other key_of n (Some k) m ne) ∙ more-under m (key_of m) refl ∙ sym (at-other (numbered item key_of) n (Some x) m ne)
    ]

    pub roll-more : roll item' key_of' (n + 1) ≡ roll item key_of n ++ x ∷ []
    roll-more = collect-more (numbered item key_of) (numbered item' key_of') n x more-numbered

    more-right : (m j : ℕ) → key_of' m ≡ Some j → HasNumber number_of (item' j) m
    more-right m j e = elim (cases_eq m n) [
      | inl s ↦
          let z : key_of' m ≡ Some k = keys m ∙ ap (at_number key_of n (Some k)) s ∙ at-here key_of n (Some k) in
          let q : k ≡ j = cc in
          record { item = x; is = ap item' (sym q) ∙ items k ∙ at-here item k (Some x); number_is = number_is ∙ sym s }
      | inr ne ↦
          let z : key_of m ≡ Some j = sym (keys m ∙ at-other key_of n (Some k) m ne) ∙ e in
          let r = d.right m j z in
          record { item = r.item; is = more-item m j z ∙ r.is; number_is = r.number_is }
    ]

    more-found : (j : ℕ) (y : X) → item' j ≡ Some y → key_of' (number_of y) ≡ Some j
    more-found j y e = elim (cases_eq j k) [
      | inl s ↦
          let z : item' j ≡ Some x = items j ∙ ap (at_number item k (Some x)) s ∙ at-here item k (Some x) in
          let q : x ≡ y = cc in
          ap key_of' (ap number_of (sym q) ∙ number_is) ∙ keys n ∙ at-here key_of n (Some k) ∙ ap Some (sym s)
      | inr ne ↦
          let z : item j ≡ Some y = sym (items j ∙ at-other item k (Some x) j ne) ∙ e in
          let f = d.found j y z in
          let l = d.below (number_of y) j f in
          keys (number_of y) ∙ at-other key_of n (Some k) (number_of y) (omega arith) ∙ f
    ]

    more-below : (m j : ℕ) → key_of' m ≡ Some j → m < n + 1
    more-below m j e = elim (cases_eq m n) [
      | inl s ↦ omega arith
      | inr ne ↦ (let l = d.below m j (sym (keys m ∙ at-other key_of n (Some k) m ne) ∙ e) in omega arith)
    ]

    pub is_roll-more : IsRoll number_of item' key_of' (n + 1)
    is_roll-more = record { right = more-right; found = more-found; below = more-below }

  -- ---- an item goes

  module _ (item' : ℕ → Option X) (key_of' : ℕ → Option ℕ) (k a : ℕ) (x : X) (here : item k ≡ Some x) (number_is : number_of x ≡ a)
      (items : (j : ℕ) → item' j ≡ at_number item k None j) (keys : (m : ℕ) → key_of' m ≡ at_number key_of a None m) where
    pub key-here : key_of a ≡ Some k
    key-here = ap key_of (sym number_is) ∙ d.found k x here

    less-key : (m j : ℕ) → m ≢ a → key_of m ≡ Some j → j ≢ k
    less-key m j ne e s = ne (one-number m a k (e ∙ ap Some s) key-here)

    less-under : (m : ℕ) (o : Option ℕ) → m ≢ a → key_of m ≡ o → under item' o ≡ under item o
    less-under m None ne e = refl
    less-under m (Some j) ne e = items j ∙ at-other item k None j (less-key m j ne e)

    pub less-numbered : (m : ℕ) → numbered item' key_of' m ≡ at_number (numbered item key_of) a None m
    less-numbered m = elim (cases_eq m a) [
      | inl s ↦
          ap (under item') (keys m ∙ ap (at_number key_of a None) s ∙ at-here key_of a None)
          ∙ sym (ap (at_number (numbered item key_of) a None) s ∙ at-here (numbered item key_of) a None)
      | inr ne ↦ ap (under item') (keys m ∙ at-other key_of a None m ne) ∙ less-under m (key_of m) ne refl ∙ sym (at-other (numbered item key_of) a None m ne)
    ]

    pub roll-less : roll item' key_of' n ≡ filter (λ y. not (is_at number_of a y)) (roll item key_of n)
    roll-less = collect-taken number_of (numbered item key_of) (numbered item' key_of') roll-own a n less-numbered

    pub roll-count-less : (p : X → Bool) → length (filter p (roll item' key_of' n)) + cond (p x) 1 0 ≡ length (filter p (roll item key_of n))
    roll-count-less p = count-less p (numbered item key_of) (numbered item' key_of') a n x (d.below a k key-here) (ap (under item) key-here ∙ here) less-numbered

    pub roll-shorter : length (roll item' key_of' n) + 1 ≡ length (roll item key_of n)
    roll-shorter =
        ap (λ xs. length xs + 1) (collect-same (numbered item' key_of') (at_number (numbered item key_of) a None) n (λ m _. less-numbered m))
        ∙ length-less (numbered item key_of) a n x (d.below a k key-here) (ap (under item) key-here ∙ here)

    less-was : (m j : ℕ) → key_of' m ≡ Some j → (m ≢ a) × (key_of m ≡ Some j)
    less-was m j e = elim (cases_eq m a) [
      | inl s ↦ (let z : key_of' m ≡ None = keys m ∙ ap (at_number key_of a None) s ∙ at-here key_of a None in absurd (cc))
      | inr ne ↦ (ne, sym (keys m ∙ at-other key_of a None m ne) ∙ e)
    ]

    less-right : (m j : ℕ) → key_of' m ≡ Some j → HasNumber number_of (item' j) m
    less-right m j e =
        let w = less-was m j e in
        let r = d.right m j w.1 in
        record { item = r.item; is = items j ∙ at-other item k None j (less-key m j w.0 w.1) ∙ r.is; number_is = r.number_is }

    less-found : (j : ℕ) (y : X) → item' j ≡ Some y → key_of' (number_of y) ≡ Some j
    less-found j y e = elim (cases_eq j k) [
      | inl s ↦ (let z : item' j ≡ None = items j ∙ ap (at_number item k None) s ∙ at-here item k None in absurd (cc))
      | inr ne ↦
          let f = d.found j y (sym (items j ∙ at-other item k None j ne) ∙ e) in
          let other : number_of y ≢ a = λ q. (let z : key_of a ≡ Some j = ap key_of (sym q) ∙ f in let w = key-here in ne (cc)) in
          keys (number_of y) ∙ at-other key_of a None (number_of y) other ∙ f
    ]

    pub is_roll-less : IsRoll number_of item' key_of' n
    is_roll-less = record { right = less-right; found = less-found; below = λ m j e. d.below m j (less-was m j e).1 }

  -- ---- an item is changed, and keeps its number

  module _ (item' : ℕ → Option X) (key_of' : ℕ → Option ℕ) (change : X → X) (k a : ℕ) (x : X) (here : item k ≡ Some x) (number_is : number_of x ≡ a) (stays : number_of (change x) ≡ number_of x)
      (items : (j : ℕ) → item' j ≡ at_number item k (Some (change x)) j) (keys : (m : ℕ) → key_of' m ≡ key_of m) where
    changed-key : key_of a ≡ Some k
    changed-key = ap key_of (sym number_is) ∙ d.found k x here

    changed-under : (m : ℕ) (o : Option ℕ) → m ≢ a → key_of m ≡ o → under item' o ≡ under item o
    changed-under m None ne e = refl
    changed-under m (Some j) ne e = items j ∙ at-other item k (Some (change x)) j (λ s. ne (one-number m a k (e ∙ ap Some s) changed-key))

    pub changed-numbered : (m : ℕ) → numbered item' key_of' m ≡ at_number (numbered item key_of) a (Some (change x)) m
    changed-numbered m = elim (cases_eq m a) [
      | inl s ↦
          ap (under item') (keys m ∙ ap key_of s ∙ changed-key) ∙ items k ∙ at-here item k (Some (change x))
          ∙ sym (ap (at_number (numbered item key_of) a (Some (change x))) s ∙ at-here (numbered item key_of) a (Some (change x)))
      | inr ne ↦ ap (under item') (keys m) ∙ changed-under m (key_of m) ne refl ∙ sym (at-other (numbered item key_of) a (Some (change x)) m ne)
    ]

    pub roll-changed : roll item' key_of' n ≡ map (altered number_of change a) (roll item key_of n)
    roll-changed = collect-changed number_of (numbered item key_of) (numbered item' key_of') roll-own change a n x (ap (under item) changed-key ∙ here) changed-numbered

    pub roll-count-changed : (p : X → Bool) → length (filter p (roll item' key_of' n)) + cond (p x) 1 0 ≡ length (filter p (roll item key_of n)) + cond (p (change x)) 1 0
    roll-count-changed p = count-changed p (numbered item key_of) (numbered item' key_of') a n x (change x) (d.below a k changed-key) (ap (under item) changed-key ∙ here) changed-numbered

    changed-right : (m j : ℕ) → key_of' m ≡ Some j → HasNumber number_of (item' j) m
    changed-right m j e =
        let was : key_of m ≡ Some j = sym (keys m) ∙ e in
        elim (cases_eq j k) [
          | inl s ↦
              let q : m ≡ a = one-number m a k (was ∙ ap Some s) changed-key in
              record { item = change x; is = items j ∙ ap (at_number item k (Some (change x))) s ∙ at-here item k (Some (change x)); number_is = stays ∙ number_is ∙ sym q }
          | inr ne ↦
              let r = d.right m j was in
              record { item = r.item; is = items j ∙ at-other item k (Some (change x)) j ne ∙ r.is; number_is = r.number_is }
        ]

    changed-found : (j : ℕ) (y : X) → item' j ≡ Some y → key_of' (number_of y) ≡ Some j
    changed-found j y e = elim (cases_eq j k) [
      | inl s ↦
          let z : item' j ≡ Some (change x) = items j ∙ ap (at_number item k (Some (change x))) s ∙ at-here item k (Some (change x)) in
          let q : change x ≡ y = cc in
          keys (number_of y) ∙ ap key_of (ap number_of (sym q) ∙ stays ∙ number_is) ∙ changed-key ∙ ap Some (sym s)
      | inr ne ↦ keys (number_of y) ∙ d.found j y (sym (items j ∙ at-other item k (Some (change x)) j ne) ∙ e)
    ]

    pub is_roll-changed : IsRoll number_of item' key_of' n
    is_roll-changed = record { right = changed-right; found = changed-found; below = λ m j e. d.below m j (sym (keys m) ∙ e) }

  -- ---- the same items under the same keys

  module _ (item' : ℕ → Option X) (key_of' : ℕ → Option ℕ) (items : (j : ℕ) → item' j ≡ item j) (keys : (m : ℕ) → key_of' m ≡ key_of m) where
    same-under : (o : Option ℕ) → under item' o ≡ under item o
    same-under None = refl
    same-under (Some j) = items j

    pub roll-same : roll item' key_of' n ≡ roll item key_of n
    roll-same = collect-same (numbered item' key_of') (numbered item key_of) n (λ m _. ap (under item') (keys m) ∙ same-under (key_of m))

    same-right : (m j : ℕ) → key_of' m ≡ Some j → HasNumber number_of (item' j) m
    same-right m j e = let r = d.right m j (sym (keys m) ∙ e) in record { item = r.item; is = items j ∙ r.is; number_is = r.number_is }

    pub is_roll-same : IsRoll number_of item' key_of' n
    is_roll-same = record { right = same-right; found = λ j y e. keys (number_of y) ∙ d.found j y (sym (items j) ∙ e); below = λ m j e. d.below m j (sym (keys m) ∙ e) }

  -- ---- numbers that are passed over

  module _ (m : ℕ) (le : n ≤ m) where
    pub roll-skipped : roll item key_of m ≡ roll item key_of n
    roll-skipped = collect-past (numbered item key_of) n m (λ i l. past-under i (key_of i) refl (λ h. absurd (omega arith))) le

    pub is_roll-skipped : IsRoll number_of item key_of m
    is_roll-skipped = record { right = d.right; found = d.found; below = λ i k e. (let l = d.below i k e in omega arith) }
