-- A share that is given away: what refuses it looks at no global variable.
use Rattle.std.proofs.Common.{◌≡◌, ℤ, Bool, refl}
use Rattle.nl_agents_layout.specs.Nouns.{Slot}
use Rattle.nl_agents.specs.World.{World}
use Rattle.nl_motion.specs.Diffusion.{diffuse_fault}
use Rattle.nl_exec_acts.specs.Stage.{bare}

pub fault_bare : (slot : Slot) (share : ℤ) (four : Bool) (w : World) → diffuse_fault slot share four (bare w.rest) ≡ diffuse_fault slot share four w
unfolding diffuse_fault
fault_bare slot share four w = refl
