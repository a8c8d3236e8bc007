-- A test that goes over all values.
use Rattle.std.proofs.Common.{◌≡◌, ℕ, ◌+◌, ◌<◌, ◌≤◌, ◌↔◌, Bool, true, false, IsTrue, refl, sym, subst, ◌∙◌, arith, below_more}
use Rattle.std.proofs.lemmas.Bool.{false≢true}
use Rattle.nl_experiment_sweep.specs.declared.worlds.World.{World}

pub each_none : (P : ℕ → Type 0) (n i : ℕ) → i < n → (P i → ⊥) → IsTrue false ↔ ((k : ℕ) → k < n → P k)
each_none P n i below not = (λ h. absurd (false≢true h), λ all. absurd (not (all i below)))

pub each_more : (P : ℕ → Type 0) (i : ℕ) → ((k : ℕ) → k < i → P k) → P i → (k : ℕ) → k < i + 1 → P k
each_more P i before here = below_more P i before here

pub each_all : (P : ℕ → Type 0) (n i : ℕ) → n ≤ i → ((k : ℕ) → k < i → P k) → IsTrue true ↔ ((k : ℕ) → k < n → P k)
each_all P n i reached before = (λ h k below. before k (omega (arith, below, reached)), λ all. refl)

-- what a callee answers of a world that is another one
pub granted : (Q : World → Type 0) (answer : Bool) (w v : World) → w ≡ v → IsTrue answer ↔ Q w → answer ≡ true → Q v
granted Q answer w v same says is = subst Q same (says.0 is)

pub refuted : (Q : World → Type 0) (answer : Bool) (w v : World) → w ≡ v → IsTrue answer ↔ Q w → answer ≡ false → Q v → ⊥
refuted Q answer w v same says is holds = false≢true (sym is ∙ says.1 (subst Q (sym same) holds))
