-- What holds of an open text.
use Rattle.std.proofs.Common.{◌≡◌, IsTrue, List, Some, refl, sym, subst}
use Rattle.nl_tree.specs.declared.declared.Form.{Form}
use Rattle.nl_agents.specs.declared.store.Store.{Ghosts}
use Rattle.nl_exec_meaning.specs.Seen.{ground}
use Rattle.nl_exec_meaning.specs.declared.hands.Hands.{Hands}
use Rattle.nl_exec_levels.specs.declared.levels.Level.{Level}
use Rattle.nl_exec_levels.specs.declared.focus.Focus.{Focus}
use Rattle.nl_exec.specs.declared.phase.Phase.{Phase}
use Rattle.nl_exec.specs.declared.phase.Phase.TheVariants as phase
use Rattle.nl_exec.specs.Slices.{focus_of}
use Rattle.nl_exec_levels.specs.Steady.{LevelsFit}
use Rattle.nl_exec.specs.Keeping.{HeldIn, is_well}

-- an open text has not failed
pub well_open : (p : Phase) (form : Form) (at : Focus) → focus_of p form ≡ Some at → IsTrue (is_well p)
well_open phase.Closed form at is = absurd (cc)
well_open (phase.Begun t) form at is = refl
well_open (phase.Waiting w) form at is = refl
well_open phase.Failed form at is = absurd (cc)

-- levels go on to fit a world of the same ground
pub held_same : {S : Type 0} {G : Ghosts S} (p : Phase) (h was : Hands S G) (ls : List Level) → HeldIn p was ls → ground h ≡ ground was → HeldIn p h ls
held_same p h was ls held same = λ well. subst (λ g. LevelsFit g ls) (sym same) (held well)
