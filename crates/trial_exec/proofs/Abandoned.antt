-- A text that is given up is open no longer, unless memory was wanting.
use Rattle.std.specs.Prelude.{IsTrue}
use Rattle.std.proofs.Common.{◌≡◌, true, false, refl, subst}
use Rattle.nl_exec.specs.declared.phase.Phase.{Phase}
use Rattle.nl_exec.specs.declared.phase.Phase.TheVariants as phase
use Rattle.nl_exec.specs.Keeping.{is_well}

well-apart : (p : Phase) → IsTrue (is_well p) → p ≡ phase.Failed → ⊥
well-apart p well e = let both : false ≡ true = subst (λ q. IsTrue (is_well q)) e well in cc

pub abandoned : (old new : Phase) → ((old ≡ phase.Failed → ⊥) → new ≡ phase.Closed) → (old ≡ phase.Failed → new ≡ phase.Failed) →
    (new ≡ phase.Closed → ⊥) → new ≡ phase.Failed
abandoned phase.Failed new closed failed runs = failed refl
abandoned phase.Closed new closed failed runs = absurd (runs (closed (well-apart phase.Closed refl)))
abandoned (phase.Begun t) new closed failed runs = absurd (runs (closed (well-apart (phase.Begun t) refl)))
abandoned (phase.Waiting w) new closed failed runs = absurd (runs (closed (well-apart (phase.Waiting w) refl)))
