-- A patch that is changed at its index.
use Rattle.std.specs.Prelude.{◌≡◌, ℕ, zero, suc, [], ◌∷◌, ◌<◌, List, length, slice_set}
use Rattle.std.proofs.Common.{arith, ap, get_or}
use Rattle.nl_agents.specs.Nouns.{Vars}
use Rattle.nl_agents.specs.Changes.{changed_at as patch_changed}

-- a change of the patch of a number is one at its index
pub changed_patch : (change : Vars → Vars) (patches : List Vars) (patch : ℕ) (vars : Vars) → patch < length patches → vars ≡ get_or patches patch vars → slice_set patches patch (change vars) ≡ patch_changed change patch patches
changed_patch change [] patch vars l e = absurd (omega (arith, l))
changed_patch change (p ∷ ps) zero vars l e = ap (λ v. change v ∷ ps) e
changed_patch change (p ∷ ps) (suc n) vars l e = ap (λ vs. p ∷ vs) (changed_patch change ps n vars (omega (arith, l)) e)
