-- Lemmas on a border that is written.
use Rattle.std.proofs.Common.{◌≡◌, ℕ, Bool, true, false, Option, Some, None, eqb, cond, refl, ap, ◌∙◌}
use Rattle.nl_store_records.specs.Filed.{after, before, Redirects, Stays}
use Rattle.nl_store_records.specs.declared.places.Border.{Border}
use Rattle.nl_store_records.specs.declared.record.Record.{Record}

-- one chain has another first key
module _ (chain number : ℕ) (to : Option ℕ) (old new : ℕ → Border) (at : ℕ → Option Record)
    (e : (n : ℕ) → new n ≡ cond (eqb n number) (record { first = to; last = (old n).last }) (old n)) where
  pub first-redirects : Redirects number None to (after chain old at) (after chain new at)
  first-redirects n None = ap (λ (x : Border). x.first) (e n) ∙ go (eqb n number)
    where
      go : (b : Bool) → (cond b (record { first = to; last = (old n).last }) (old n)).first ≡ cond b to (old n).first
      go true = refl
      go false = refl
  first-redirects n (Some k) = refl

  pub first-stays : Stays (before chain old at) (before chain new at)
  first-stays n None = ap (λ (x : Border). x.last) (e n) ∙ go (eqb n number)
    where
      go : (b : Bool) → (cond b (record { first = to; last = (old n).last }) (old n)).last ≡ (old n).last
      go true = refl
      go false = refl
  first-stays n (Some k) = refl

-- one chain has another last key
module _ (chain number : ℕ) (to : Option ℕ) (old new : ℕ → Border) (at : ℕ → Option Record)
    (e : (n : ℕ) → new n ≡ cond (eqb n number) (record { first = (old n).first; last = to }) (old n)) where
  pub last-redirects : Redirects number None to (before chain old at) (before chain new at)
  last-redirects n None = ap (λ (x : Border). x.last) (e n) ∙ go (eqb n number)
    where
      go : (b : Bool) → (cond b (record { first = (old n).first; last = to }) (old n)).last ≡ cond b to (old n).last
      go true = refl
      go false = refl
  last-redirects n (Some k) = refl

  pub last-stays : Stays (after chain old at) (after chain new at)
  last-stays n None = ap (λ (x : Border). x.first) (e n) ∙ go (eqb n number)
    where
      go : (b : Bool) → (cond b (record { first = (old n).first; last = to }) (old n)).first ≡ (old n).first
      go true = refl
      go false = refl
  last-stays n (Some k) = refl
