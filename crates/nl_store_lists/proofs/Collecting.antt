-- Lemmas on the list of what a function has below a number.
use Rattle.std.proofs.Common.{◌≡◌, ◌≢◌, ℕ, zero, suc, ◌+◌, ◌<◌, ◌≤◌, Bool, true, false, not, List, [], ◌∷◌, ◌++◌, length, map, filter, find, Option, Some, None, eqb, cond, refl, sym, ap, ◌∙◌, inl, inr, arith, subst, length-append, add-one}
use Rattle.std.specs.Option.{option_map, option_or, option_to_list}
use Rattle.std.proofs.lemmas.Grind.{common_steps}
use Rattle.std.proofs.lemmas.Bool.{cases_eq}
use Rattle.std.proofs.lemmas.List.{append-nil}
use Rattle.std.proofs.lemmas.List.Elements.{filter-append}
use Rattle.std.proofs.lemmas.List.Folds.{find-append}
use Rattle.nl_store_lists.specs.Chained.{at_number}
use Rattle.nl_store_lists.specs.Rising.{collect}
use Rattle.nl_store_lists.proofs.Places.{at-here, at-other}
use Rattle.nl_store_lists.proofs.Collected.{collect-same}

-- what is collected of one number more
pub collect-some : {X : Type 0} (f : ℕ → Option X) (n : ℕ) (x : X) → f n ≡ Some x → collect f (suc n) ≡ collect f n ++ x ∷ []
collect-some f n x e = ap (λ o. collect f n ++ option_to_list o) e

pub collect-none : {X : Type 0} (f : ℕ → Option X) (n : ℕ) → f n ≡ None → collect f (suc n) ≡ collect f n
collect-none f n e = ap (λ o. collect f n ++ option_to_list o) e ∙ append-nil (collect f n)

map-two : {X Y : Type 0} (h : X → Y) (xs ys : List X) → map h (xs ++ ys) ≡ map h xs ++ map h ys
map-two h [] ys = refl
map-two h (x ∷ xs) ys = ap (λ z. h x ∷ z) (map-two h xs ys)

map-one : {X Y : Type 0} (h : X → Y) (o : Option X) → option_to_list (option_map h o) ≡ map h (option_to_list o)
map-one h None = refl
map-one h (Some x) = refl

pub collect-map : {X Y : Type 0} (h : X → Y) (f : ℕ → Option X) (n : ℕ) → collect (λ m. option_map h (f m)) n ≡ map h (collect f n)
collect-map h f zero = refl
collect-map h f (suc n) =
    ap (λ xs. xs ++ option_to_list (option_map h (f n))) (collect-map h f n) ∙ ap (λ xs. map h (collect f n) ++ xs) (map-one h (f n))
    ∙ sym (map-two h (collect f n) (option_to_list (f n)))

-- an item where it passes the test
abbrev pub kept : {X : Type 0} → (X → Bool) → Option X → Option X
kept p None = None
kept p (Some x) = cond (p x) (Some x) None

kept-one : {X : Type 0} (p : X → Bool) (o : Option X) → option_to_list (kept p o) ≡ filter p (option_to_list o)
kept-one p None = refl
kept-one p (Some x) = grind (arith, common_steps)

pub collect-filter : {X : Type 0} (p : X → Bool) (f : ℕ → Option X) (n : ℕ) → collect (λ m. kept p (f m)) n ≡ filter p (collect f n)
collect-filter p f zero = refl
collect-filter p f (suc n) =
    ap (λ xs. xs ++ option_to_list (kept p (f n))) (collect-filter p f n) ∙ ap (λ xs. filter p (collect f n) ++ xs) (kept-one p (f n))
    ∙ sym (filter-append p (collect f n) (option_to_list (f n)))

-- one more
pub collect-more : {X : Type 0} (f g : ℕ → Option X) (n : ℕ) (x : X) → ((m : ℕ) → g m ≡ at_number f n (Some x) m) → collect g (n + 1) ≡ collect f n ++ x ∷ []
collect-more f g n x same =
    ap (collect g) (add-one n) ∙ collect-some g n x (same n ∙ at-here f n (Some x))
    ∙ ap (λ xs. xs ++ x ∷ []) (collect-same g f n (λ m l. same m ∙ at-other f n (Some x) m (omega arith)))

-- one less
pub length-less : {X : Type 0} (f : ℕ → Option X) (a n : ℕ) (x : X) → a < n → f a ≡ Some x → length (collect (at_number f a None) n) + 1 ≡ length (collect f n)
length-less f a zero x l e = absurd (omega arith)
length-less f a (suc n) x l e = elim (cases_eq a n) [
  | inl q ↦
      let e' : f n ≡ Some x = subst (λ m. f m ≡ Some x) q e in
      let gone : at_number f a None n ≡ None = subst (λ m. at_number f a None m ≡ None) q (at-here f a None) in
      let before = collect-same (at_number f a None) f n (λ m k. at-other f a None m (omega arith)) in
      ap (λ xs. length xs + 1) (collect-none (at_number f a None) n gone ∙ before)
      ∙ sym (ap length (collect-some f n x e') ∙ length-append (collect f n) (x ∷ []))
  | inr ne ↦
      let ih = length-less f a n x (omega arith) e in
      let last : at_number f a None n ≡ f n = at-other f a None n (λ s. ne (sym s)) in
      let one = length-append (collect (at_number f a None) n) (option_to_list (at_number f a None n)) in
      let two = length-append (collect f n) (option_to_list (f n)) in
      let end : length (option_to_list (at_number f a None n)) ≡ length (option_to_list (f n)) = ap (λ o. length (option_to_list o)) last in
      omega (arith, ih, one, two, end)
]

module _ {X : Type 0} (number_of : X → ℕ) where
  -- the item has the number
  abbrev pub is_at : ℕ → X → Bool
  is_at m x = eqb (number_of x) m

  -- the function has items under their numbers
  abbrev pub IsOwn : (ℕ → Option X) → Type 0
  IsOwn f = (m : ℕ) (x : X) → f m ≡ Some x → number_of x ≡ m

  find-one : (m : ℕ) (x : X) (b : Bool) → is_at m x ≡ b → find (is_at m) (x ∷ []) ≡ cond b (Some x) None
  find-one m x b e = ap (λ c. cond c (Some x) None) e

  pub find-past : (f : ℕ → Option X) → IsOwn f → (n m : ℕ) → n ≤ m → find (is_at m) (collect f n) ≡ None
  find-past f own zero m l = refl
  find-past f own (suc n) m l = go (f n) refl (find-past f own n m (omega arith))
    where
      go : (o : Option X) → f n ≡ o → find (is_at m) (collect f n) ≡ None → find (is_at m) (collect f (suc n)) ≡ None
      go None e ih = ap (find (is_at m)) (collect-none f n e) ∙ ih
      go (Some x) e ih =
          let z = own n x e in
          let w : is_at m x ≡ false = grind arith in
          ap (find (is_at m)) (collect-some f n x e) ∙ find-append (is_at m) (collect f n) (x ∷ [])
          ∙ ap (λ o. option_or o (find (is_at m) (x ∷ []))) ih ∙ find-one m x false w

  pub find-in : (f : ℕ → Option X) → IsOwn f → (n m : ℕ) → m < n → find (is_at m) (collect f n) ≡ f m
  find-in f own zero m l = absurd (omega arith)
  find-in f own (suc n) m l = go (f n) refl (find-in f own n m)
    where
      go : (o : Option X) → f n ≡ o → (m < n → find (is_at m) (collect f n) ≡ f m) → find (is_at m) (collect f (suc n)) ≡ f m
      go None e ih = elim (cases_eq m n) [
        | inl q ↦ ap (find (is_at m)) (collect-none f n e) ∙ find-past f own n m (omega arith) ∙ sym (ap f q ∙ e)
        | inr ne ↦ ap (find (is_at m)) (collect-none f n e) ∙ ih (omega arith)
      ]
      go (Some x) e ih = elim (cases_eq m n) [
        | inl q ↦
            let z = own n x e in
            let w : is_at m x ≡ true = grind arith in
            ap (find (is_at m)) (collect-some f n x e) ∙ find-append (is_at m) (collect f n) (x ∷ [])
            ∙ ap (λ o. option_or o (find (is_at m) (x ∷ []))) (find-past f own n m (omega arith)) ∙ find-one m x true w ∙ sym (ap f q ∙ e)
        | inr ne ↦
            let z = own n x e in
            let w : is_at m x ≡ false = grind arith in
            ap (find (is_at m)) (collect-some f n x e) ∙ find-append (is_at m) (collect f n) (x ∷ [])
            ∙ ap (λ o. option_or (find (is_at m) (collect f n)) o) (find-one m x false w) ∙ or-none (find (is_at m) (collect f n)) ∙ ih (omega arith)
      ]
        where
          or-none : (o : Option X) → option_or o None ≡ o
          or-none None = refl
          or-none (Some y) = refl

  -- one is taken away
  pub collect-taken : (f g : ℕ → Option X) → IsOwn f → (a n : ℕ) → ((m : ℕ) → g m ≡ at_number f a None m) → collect g n ≡ filter (λ x. not (is_at a x)) (collect f n)
  collect-taken f g own a n same = collect-same g (λ m. kept (λ x. not (is_at a x)) (f m)) n (λ m _. same m ∙ each m (f m) refl) ∙ collect-filter (λ x. not (is_at a x)) f n
    where
      each : (m : ℕ) (o : Option X) → f m ≡ o → at_number f a None m ≡ kept (λ x. not (is_at a x)) (f m)
      each m None e = elim (cases_eq m a) [
        | inl q ↦ ap (at_number f a None) q ∙ at-here f a None ∙ sym (ap (kept (λ x. not (is_at a x))) e)
        | inr ne ↦ at-other f a None m ne ∙ e ∙ sym (ap (kept (λ x. not (is_at a x))) e)
      ]
      each m (Some x) e = elim (cases_eq m a) [
        | inl q ↦
            let z = own m x e in
            let w : is_at a x ≡ true = grind arith in
            ap (at_number f a None) q ∙ at-here f a None ∙ sym (ap (kept (λ x. not (is_at a x))) e ∙ ap (λ b. cond (not b) (Some x) None) w)
        | inr ne ↦
            let z = own m x e in
            let w : is_at a x ≡ false = grind arith in
            at-other f a None m ne ∙ e ∙ sym (ap (kept (λ x. not (is_at a x))) e ∙ ap (λ b. cond (not b) (Some x) None) w)
      ]

  -- one is changed
  abbrev pub altered : (X → X) → ℕ → X → X
  altered change a x = cond (is_at a x) (change x) x

  pub collect-changed : (f g : ℕ → Option X) → IsOwn f → (change : X → X) (a n : ℕ) (x : X) → f a ≡ Some x → ((m : ℕ) → g m ≡ at_number f a (Some (change x)) m) → collect g n ≡ map (altered change a) (collect f n)
  collect-changed f g own change a n x here same = collect-same g (λ m. option_map (altered change a) (f m)) n (λ m _. same m ∙ each m (f m) refl) ∙ collect-map (altered change a) f n
    where
      each : (m : ℕ) (o : Option X) → f m ≡ o → at_number f a (Some (change x)) m ≡ option_map (altered change a) (f m)
      each m o e = elim (cases_eq m a) [
        | inl q ↦
            let z = own a x here in
            let w : is_at a x ≡ true = grind arith in
            ap (at_number f a (Some (change x))) q ∙ at-here f a (Some (change x))
            ∙ sym (ap (λ i. option_map (altered change a) (f i)) q ∙ ap (option_map (altered change a)) here ∙ ap (λ b. Some (cond b (change x) x)) w)
        | inr ne ↦ at-other f a (Some (change x)) m ne ∙ other m o e ne
      ]
        where
          other : (m : ℕ) (o : Option X) → f m ≡ o → m ≢ a → f m ≡ option_map (altered change a) (f m)
          other m None e ne = e ∙ sym (ap (option_map (altered change a)) e)
          other m (Some y) e ne =
              let z = own m y e in
              let w : is_at a y ≡ false = grind arith in
              e ∙ sym (ap (option_map (altered change a)) e ∙ ap (λ b. Some (cond b (change y) y)) w)

-- ---- how many pass a test

module _ {X : Type 0} (p : X → Bool) where
  pub count-more : (xs : List X) (x : X) → length (filter p (xs ++ x ∷ [])) ≡ length (filter p xs) + cond (p x) 1 0
  count-more xs x = ap length (filter-append p xs (x ∷ [])) ∙ length-append (filter p xs) (filter p (x ∷ [])) ∙ ap (λ n. length (filter p xs) + n) (one (p x) refl)
    where
      one : (b : Bool) → p x ≡ b → length (filter p (x ∷ [])) ≡ cond (p x) 1 0
      one true e = grind (arith, common_steps)
      one false e = grind (arith, common_steps)

  pub count-less : (f g : ℕ → Option X) (a n : ℕ) (x : X) → a < n → f a ≡ Some x → ((m : ℕ) → g m ≡ at_number f a None m) → length (filter p (collect g n)) + cond (p x) 1 0 ≡ length (filter p (collect f n))
  count-less f g a n x l e same = go (p x) refl
    where
      f' : ℕ → Option X
      f' m = kept p (f m)

      taken : (m : ℕ) → kept p (g m) ≡ at_number (λ i. kept p (f i)) a None m
      taken m = elim (cases_eq m a) [
        | inl q ↦ ap (kept p) (same m ∙ ap (at_number f a None) q ∙ at-here f a None) ∙ sym (ap (at_number (λ i. kept p (f i)) a None) q ∙ at-here (λ i. kept p (f i)) a None)
        | inr ne ↦ ap (kept p) (same m ∙ at-other f a None m ne) ∙ sym (at-other (λ i. kept p (f i)) a None m ne)
      ]

      left : collect (at_number (λ i. kept p (f i)) a None) n ≡ filter p (collect g n)
      left = collect-same (at_number (λ i. kept p (f i)) a None) (λ m. kept p (g m)) n (λ m _. sym (taken m)) ∙ collect-filter p g n

      go : (b : Bool) → p x ≡ b → length (filter p (collect g n)) + cond (p x) 1 0 ≡ length (filter p (collect f n))
      go true q =
          let here : kept p (f a) ≡ Some x = ap (kept p) e ∙ ap (λ b. cond b (Some x) None) q in
          ap (λ b. length (filter p (collect g n)) + cond b 1 0) q ∙ ap (λ xs. length xs + 1) (sym left)
          ∙ length-less (λ i. kept p (f i)) a n x l here ∙ ap length (collect-filter p f n)
      go false q =
          let here : kept p (f a) ≡ None = ap (kept p) e ∙ ap (λ b. cond b (Some x) None) q in
          let same' : (m : ℕ) → at_number (λ i. kept p (f i)) a None m ≡ kept p (f m) = λ m. elim (cases_eq m a) [
            | inl s ↦ ap (at_number (λ i. kept p (f i)) a None) s ∙ at-here (λ i. kept p (f i)) a None ∙ sym (ap (λ i. kept p (f i)) s ∙ here)
            | inr ne ↦ at-other (λ i. kept p (f i)) a None m ne
          ] in
          let all : filter p (collect g n) ≡ filter p (collect f n) = sym left ∙ collect-same (at_number (λ i. kept p (f i)) a None) (λ m. kept p (f m)) n (λ m _. same' m) ∙ collect-filter p f n in
          let more : length (filter p (collect g n)) + cond (p x) 1 0 ≡ length (filter p (collect g n)) = ap (λ b. length (filter p (collect g n)) + cond b 1 0) q ∙ omega arith in
          more ∙ ap length all

  pub count-changed : (f g : ℕ → Option X) (a n : ℕ) (x y : X) → a < n → f a ≡ Some x → ((m : ℕ) → g m ≡ at_number f a (Some y) m) → length (filter p (collect g n)) + cond (p x) 1 0 ≡ length (filter p (collect f n)) + cond (p y) 1 0
  count-changed f g a n x y l e same =
      let gone : (m : ℕ) → at_number f a None m ≡ at_number g a None m = λ m. elim (cases_eq m a) [
        | inl q ↦ ap (at_number f a None) q ∙ at-here f a None ∙ sym (ap (at_number g a None) q ∙ at-here g a None)
        | inr ne ↦ at-other f a None m ne ∙ sym (at-other g a None m ne ∙ same m ∙ at-other f a (Some y) m ne)
      ] in
      let one = count-less f (at_number f a None) a n x l e (λ m. refl) in
      let two = count-less g (at_number f a None) a n y l (same a ∙ at-here f a (Some y)) gone in
      omega (arith, one, two)

-- ---- numbers for which there is nothing

pub collect-past : {X : Type 0} (f : ℕ → Option X) (n m : ℕ) → ((i : ℕ) → n ≤ i → f i ≡ None) → n ≤ m → collect f m ≡ collect f n
collect-past f n zero none le = let e : zero ≡ n = omega arith in ap (collect f) e
collect-past f n (suc m) none le = elim (cases_eq n (suc m)) [
  | inl e ↦ ap (collect f) (sym e)
  | inr ne ↦ collect-none f m (none m (omega arith)) ∙ collect-past f n m none (omega arith)
]
