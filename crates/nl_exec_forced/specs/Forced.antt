-- That what a machine answers to so many units is forced by what it holds.
use Rattle.std.specs.Prelude.{◌≡◌, ℕ, ◌+◌, ◌<◌}
use Rattle.nl_agents.specs.declared.store.Store.{Ghosts}
use Rattle.nl_exec_meaning.specs.State.{Budget}
use Rattle.nl_exec_units.specs.Further.{Further}
use Rattle.nl_exec.specs.Machines.{rest_of, units_left, with_more}
use Rattle.nl_exec.specs.declared.slices.Machine.{Machine}

-- what is left of the open text is whole with its units, or cut
abbrev pub IsWholeOrCut : {S : Type 0} {G : Ghosts S} → Machine S G → Type 0
IsWholeOrCut m = (units : ℕ) → Further (rest_of m) units

-- The two that a call with so many units promises of what was left: for more, that it ends for want of units; for an end before all units of the
-- budget were asked, that it leaves all further ones.
abbrev pub EndsForWant : {S : Type 0} {G : Ghosts S} → Machine S G → ℕ → Type 0
EndsForWant m units = (rest_of m units).exit ≡ Budget

abbrev pub LeavesAllFurther : {S : Type 0} {G : Ghosts S} → Machine S G → ℕ → Type 0
LeavesAllFurther m units = (n : ℕ) → rest_of m (units + n) ≡ with_more n (rest_of m units)

-- they exclude each other
abbrev pub IsForced : {S : Type 0} {G : Ghosts S} → Machine S G → Type 0
IsForced m = (units : ℕ) → EndsForWant m units → LeavesAllFurther m units → ⊥

-- what is left wants a unit beyond so many, and the budget has one
abbrev pub WantsFurther : {S : Type 0} {G : Ghosts S} → Machine S G → ℕ → Type 0
WantsFurther m units = EndsForWant m units × (units < units_left m)
