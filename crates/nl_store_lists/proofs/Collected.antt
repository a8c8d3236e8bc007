-- Lemmas on the list of what a function has below a number.
use Rattle.std.proofs.Common.{◌≡◌, ◌≢◌, ◌↔◌, ℕ, zero, suc, ◌+◌, ◌<◌, Bool, true, false, List, [], ◌∷◌, ◌++◌, length, Option, Some, None, eqb, cond, refl, sym, ap, ◌∙◌, inl, inr, arith, subst}
use Rattle.std.specs.Option.{option_to_list}
use Rattle.std.proofs.lemmas.Grind.{common_steps}
use Rattle.std.proofs.lemmas.Bool.{cases_eq}
use Rattle.std.proofs.lemmas.List.{append-nil}
use Rattle.nl_store_lists.specs.Chained.{has, without, at_number}
use Rattle.nl_store_lists.specs.Rising.{IsRisingBy, collect}
use Rattle.nl_store_lists.proofs.Members.{has-rest, has-append, has-without}
use Rattle.nl_store_lists.proofs.Places.{at-here, at-other}
use Rattle.nl_store_lists.proofs.Rising.{rising-append, rising-one, rising-once, rising-without}

-- what is collected of one number more
collect-some : {A : Type 0} (f : ℕ → Option A) (n : ℕ) (x : A) → f n ≡ Some x → collect f (suc n) ≡ collect f n ++ x ∷ []
collect-some f n x e = ap (λ o. collect f n ++ option_to_list o) e

collect-none : {A : Type 0} (f : ℕ → Option A) (n : ℕ) → f n ≡ None → collect f (suc n) ≡ collect f n
collect-none f n e = ap (λ o. collect f n ++ option_to_list o) e ∙ append-nil (collect f n)

pub collect-same : {A : Type 0} (f g : ℕ → Option A) (n : ℕ) → ((s : ℕ) → s < n → f s ≡ g s) → collect f n ≡ collect g n
collect-same f g zero h = refl
collect-same f g (suc n) h = ap (λ xs. xs ++ option_to_list (f n)) (collect-same f g n (λ s l. h s (omega arith))) ∙ ap (λ o. collect g n ++ option_to_list o) (h n (omega arith))

pub has-collect : (f : ℕ → Option ℕ) (n s key : ℕ) → s < n → f s ≡ Some key → has (collect f n) key ≡ true
has-collect f zero s key l e = absurd (omega arith)
has-collect f (suc n) s key l e = go (λ l. has-collect f n s key l e) (f n) refl
  where
    go : (s < n → has (collect f n) key ≡ true) → (o : Option ℕ) → f n ≡ o → has (collect f (suc n)) key ≡ true
    go rest None q = elim (cases_eq s n) [
      | inl same ↦ (let z = subst (λ x. f x ≡ Some key) same e in absurd (cc))
      | inr ne ↦ ap (λ xs. has xs key) (collect-none f n q) ∙ rest (omega arith)
    ]
    go rest (Some x) q = ap (λ xs. has xs key) (collect-some f n x q) ∙ has-append (collect f n) x key ∙ elim (cases_eq s n) [
      | inl same ↦ (let z = subst (λ y. f y ≡ Some key) same e in let w : x ≡ key = cc in grind arith)
      | inr ne ↦ (let there = rest (omega arith) in grind arith)
    ]

pub collected-from : (f : ℕ → Option ℕ) (n key : ℕ) → has (collect f n) key ≡ true → (s : ℕ) × (s < n) × (f s ≡ Some key)
collected-from f zero key h = absurd (cc)
collected-from f (suc n) key h = go (collected-from f n key) (f n) refl
  where
    more : (s : ℕ) × (s < n) × (f s ≡ Some key) → (s : ℕ) × (s < suc n) × (f s ≡ Some key)
    more r = (r.0, omega (arith, r.1), r.2)

    go : (has (collect f n) key ≡ true → (s : ℕ) × (s < n) × (f s ≡ Some key)) → (o : Option ℕ) → f n ≡ o → (s : ℕ) × (s < suc n) × (f s ≡ Some key)
    go rest None q = more (rest (sym (ap (λ xs. has xs key) (collect-none f n q)) ∙ h))
    go rest (Some x) q = elim (cases_eq key x) [
      | inl e ↦ (n, omega arith, q ∙ ap Some (sym e))
      | inr ne ↦ (
          let there : cond (eqb key x) true (has (collect f n) key) ≡ true = sym (has-append (collect f n) x key) ∙ sym (ap (λ xs. has xs key) (collect-some f n x q)) ∙ h in
          more (rest (grind arith)))
    ]

pub collected-is : (f : ℕ → Option ℕ) (n key : ℕ) → (has (collect f n) key ≡ true) ↔ ((s : ℕ) × (s < n) × (f s ≡ Some key))
collected-is f n key = (collected-from f n key, λ r. has-collect f n r.0 key r.1 r.2)

module _ (measure : ℕ → ℕ) where
  pub rising-collect : (f : ℕ → Option ℕ) (n : ℕ) → ((s key : ℕ) → f s ≡ Some key → measure key ≡ s) → IsRisingBy measure (collect f n)
  rising-collect f zero own = tt
  rising-collect f (suc n) own = go (rising-collect f n own) (f n) refl
    where
      go : IsRisingBy measure (collect f n) → (o : Option ℕ) → f n ≡ o → IsRisingBy measure (collect f (suc n))
      go rest None q = subst (IsRisingBy measure) (sym (collect-none f n q)) rest
      go rest (Some x) q = subst (IsRisingBy measure) (sym (collect-some f n x q)) (rising-append measure (collect f n) x rest (λ j h.
          let r = collected-from f n j h in
          let a = own r.0 j r.2 in
          let b = own n x q in
          let l = r.1 in
          omega arith))

  -- two truths are the same where each follows from the other
  both : (a b : Bool) → (a ≡ true → b ≡ true) → (b ≡ true → a ≡ true) → a ≡ b
  both true b there back = sym (there refl)
  both false true there back = back refl
  both false false there back = refl

  pub collect-without : (f : ℕ → Option ℕ) (n number key : ℕ) → ((s k : ℕ) → f s ≡ Some k → measure k ≡ s) → f number ≡ Some key → collect (at_number f number None) n ≡ without key (collect f n)
  collect-without f n number key own e =
      let g = at_number f number None in
      let was : (s k : ℕ) → g s ≡ Some k → (s ≢ number) × (f s ≡ Some k) = λ s k h. elim (cases_eq s number) [
        | inl q ↦ (let z = subst (λ x. g x ≡ Some k) q h in let y = at-here f number None in absurd (cc))
        | inr ne ↦ (ne, sym (at-other f number None s ne) ∙ h)
      ] in
      let old = rising-collect f n own in
      let once = rising-once measure (collect f n) old in
      rising-one measure (collect g n) (without key (collect f n))
      (rising-collect g n (λ s k h. own s k (was s k h).1))
      (rising-without measure (collect f n) key old)
      (λ j. both (has (collect g n) j) (has (without key (collect f n)) j)
      (λ h.
      let r = collected-from g n j h in
      let w = was r.0 j r.2 in
      let there = has-collect f n r.0 j r.1 w.1 in
      let apart : j ≢ key = λ q. w.0 (sym (own r.0 j w.1) ∙ ap measure q ∙ own number key e) in
      has-without key (collect f n) j once ∙ grind arith)
      (λ h.
      let z : cond (eqb j key) false (has (collect f n) j) ≡ true = sym (has-without key (collect f n) j once) ∙ h in
      let apart : j ≢ key = λ q. grind arith in
      let there : has (collect f n) j ≡ true = grind arith in
      let r = collected-from f n j there in
      let other : r.0 ≢ number = λ q. (let y = subst (λ x. f x ≡ Some j) q r.2 in apart (cc)) in
      has-collect g n r.0 j r.1 (at-other f number None r.0 other ∙ r.2)))

pub length-without : (key : ℕ) (xs : List ℕ) → has xs key ≡ true → length (without key xs) + 1 ≡ length xs
length-without key [] h = absurd (cc)
length-without key (x ∷ xs) h = elim (cases_eq key x) [
  | inl e ↦ (let w : without key (x ∷ xs) ≡ xs = grind (arith, common_steps) in ap (λ ys. length ys + 1) w ∙ omega arith)
  | inr ne ↦ (let w : without key (x ∷ xs) ≡ x ∷ without key xs = grind (arith, common_steps) in let rest = length-without key xs (has-rest x xs key h ne) in ap (λ ys. length ys + 1) w ∙ omega arith)
]
