-- What is held fits where nothing was changed.
use Rattle.std.proofs.Common.{refl}
use Rattle.nl_agents.specs.declared.store.Store.{Ghosts}
use Rattle.nl_exec_meaning.specs.Means.{Stands}
use Rattle.nl_exec_meaning.specs.Standing.{HandsFit}
use Rattle.nl_exec_meaning.specs.declared.hands.Hands.{Hands}

pub stands_still : {S : Type 0} {G : Ghosts S} (h : Hands S G) → HandsFit h → Stands h h
stands_still h fit = record { fit = fit; same = refl }
