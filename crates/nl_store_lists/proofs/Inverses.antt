-- Lemmas on steps that lead forth and back.
use Rattle.std.proofs.Common.{◌≡◌, ◌≢◌, ℕ, Option, Some, None, sym, ap, ◌∙◌, inl, inr, subst}
use Rattle.nl_store_lists.specs.Chained.{at_number, IsPlace, IsInverse, Turns}
use Rattle.nl_store_lists.proofs.Places.{at-here, spot-cases, at-spot, place-kept, place-stays, place-new, place-old}

-- from two places no step leads to one
pub same-step : (home : ℕ → Option ℕ) (f g : ℕ → Option ℕ → Option ℕ) (n m : ℕ) (a b : Option ℕ) → IsInverse home f g → n ≡ m → IsPlace home n a → IsPlace home m b → f n a ≡ f m b → a ≡ b
same-step home f g n m a b v e na nb s = sym (v.undone n a na) ∙ ap (g n) s ∙ ap (λ (x : ℕ). g x (f m b)) e ∙ v.undone m b nb

-- what is proved of a step at each place
abbrev Leads : (home : ℕ → Option ℕ) (f g : ℕ → Option ℕ → Option ℕ) → ℕ → Option ℕ → Type 0
Leads home f g n a = IsPlace home n (f n a) × (g n (f n a) ≡ a)

leads-by : (home : ℕ → Option ℕ) (f g : ℕ → Option ℕ → Option ℕ) (n : ℕ) (a c : Option ℕ) → f n a ≡ c → IsPlace home n c → g n c ≡ a → Leads home f g n a
leads-by home f g n a c e p back = subst (λ x. IsPlace home n x × (g n x ≡ a)) (sym e) (p, back)

-- a key is taken out: what led to it leads to what it led to
pub inverse-without : (home : ℕ → Option ℕ) (n k : ℕ) (f g f' g' : ℕ → Option ℕ → Option ℕ) → IsInverse home f g → IsInverse home g f → home k ≡ Some n → f n (Some k) ≢ Some k →
    Turns (at_number home k None) n (g n (Some k)) (f n (Some k)) f f' → Turns (at_number home k None) n (f n (Some k)) (g n (Some k)) g g' → IsInverse (at_number home k None) f' g'
inverse-without home n k f g f' g' v w hk moves tf tg =
    let home' = at_number home k None in
    let p = g n (Some k) in
    let q = f n (Some k) in
    let to_key : f n p ≡ Some k = w.undone n (Some k) hk in
    let p_was : IsPlace home n p = w.stays n (Some k) hk in
    let q_is : IsPlace home' n q = place-stays home k n q (v.stays n (Some k) hk) moves in
    let leads : (m : ℕ) (a : Option ℕ) → IsPlace home' m a → Leads home' f' g' m a = λ m a na. elim (spot-cases m n a p) [
      | inl s ↦ at-spot (Leads home' f' g') m n a p s.0 s.1 (leads-by home' f' g' n p q tf.hit q_is tg.hit)
      | inr away ↦
          let was = place-kept home k m a na in
          let c_was : IsPlace home m (f m a) = v.stays m a was.0 in
          let not_key : f m a ≢ Some k = λ e.
          (let in_m : home k ≡ Some m = subst (IsPlace home m) e c_was in
          let s : m ≡ n = cc in
          away s (same-step home f g m n a p v s was.0 p_was (e ∙ sym to_key))) in
          let c_is : IsPlace home' m (f m a) = place-stays home k m (f m a) c_was not_key in
          let past : m ≡ n → f m a ≢ q = λ s e. was.1 (same-step home f g m n a (Some k) v s was.0 hk e) in
          leads-by home' f' g' m a (f m a) (tf.miss m a na away) c_is (tg.miss m (f m a) c_is past ∙ v.undone m a was.0)
    ] in
    record {
      stays = λ m a na. (leads m a na).0;
      undone = λ m a na. (leads m a na).1;
    }

-- a key is put behind a place: that place leads to it, and it leads to what the place led to
pub inverse-between : (home : ℕ → Option ℕ) (n k : ℕ) (p : Option ℕ) (f g f' g' : ℕ → Option ℕ → Option ℕ) → IsInverse home f g → home k ≡ None → IsPlace home n p →
    Turns home n p (Some k) f f' → f' n (Some k) ≡ f n p → Turns home n (f n p) (Some k) g g' → g' n (Some k) ≡ p → IsInverse (at_number home k (Some n)) f' g'
inverse-between home n k p f g f' g' v none p_is tf onward tg backward =
    let home' = at_number home k (Some n) in
    let q = f n p in
    let old : (m : ℕ) (a : Option ℕ) → IsPlace home m a → IsPlace home' m a = λ m a. place-old home k n m a none in
    let leads : (m : ℕ) (a : Option ℕ) → IsPlace home' m a → Leads home' f' g' m a = λ m a na. elim (place-new home k n m a na) [
      | inl s ↦ at-spot (Leads home' f' g') m n a (Some k) s.0 s.1 (leads-by home' f' g' n (Some k) q onward (old n q (v.stays n p p_is)) tg.hit)
      | inr was ↦ elim (spot-cases m n a p) [
        | inl s ↦ at-spot (Leads home' f' g') m n a p s.0 s.1 (leads-by home' f' g' n p (Some k) tf.hit (at-here home k (Some n)) backward)
        | inr away ↦
            let past : m ≡ n → f m a ≢ q = λ s e. away s (same-step home f g m n a p v s was p_is e) in
            leads-by home' f' g' m a (f m a) (tf.miss m a was away) (old m (f m a) (v.stays m a was)) (tg.miss m (f m a) (v.stays m a was) past ∙ v.undone m a was)
      ]
    ] in
    record {
      stays = λ m a na. (leads m a na).0;
      undone = λ m a na. (leads m a na).1;
    }

-- steps that are the same at each place
pub inverse-same : (home : ℕ → Option ℕ) (f g f' g' : ℕ → Option ℕ → Option ℕ) → ((m : ℕ) (a : Option ℕ) → IsPlace home m a → f' m a ≡ f m a) → ((m : ℕ) (a : Option ℕ) → IsPlace home m a → g' m a ≡ g m a) → IsInverse home f g → IsInverse home f' g'
inverse-same home f g f' g' ef eg v =
    let leads : (m : ℕ) (a : Option ℕ) → IsPlace home m a → Leads home f' g' m a = λ m a na. leads-by home f' g' m a (f m a) (ef m a na) (v.stays m a na) (eg m (f m a) (v.stays m a na) ∙ v.undone m a na) in
    record {
      stays = λ m a na. (leads m a na).0;
      undone = λ m a na. (leads m a na).1;
    }

-- no key is in a list
pub inverse-empty : (home : ℕ → Option ℕ) (f g : ℕ → Option ℕ → Option ℕ) → ((k : ℕ) → home k ≡ None) → ((n : ℕ) → f n None ≡ None) → ((n : ℕ) → g n None ≡ None) → IsInverse home f g
inverse-empty home f g none ef eg = record {
  stays = λ m a na. (leads m a na).0;
  undone = λ m a na. (leads m a na).1;
}
  where
    leads : (m : ℕ) (a : Option ℕ) → IsPlace home m a → Leads home f g m a
    leads m None na = leads-by home f g m None None (ef m) tt (eg m)
    leads m (Some k) na = let z = none k in absurd (cc)
