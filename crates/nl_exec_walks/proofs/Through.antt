-- What is held stands through one step and then another.
use Rattle.std.proofs.Common.{◌∙◌, sym, subst}
use Rattle.nl_agents.specs.declared.store.Store.{Ghosts}
use Rattle.nl_exec_meaning.specs.Ground.{Ground}
use Rattle.nl_exec_meaning.specs.Means.{Stands}
use Rattle.nl_exec_meaning.specs.Seen.{ground}
use Rattle.nl_exec_meaning.specs.Standing.{ExitFits, TurnsFit}
use Rattle.nl_exec_meaning.specs.declared.exits.Exit.{Exit}
use Rattle.nl_exec_meaning.specs.declared.hands.Hands.{Hands}
use Rattle.nl_exec_meaning.specs.declared.turns.Turns.{Turns}

pub stands_through : {S : Type 0} {G : Ghosts S} (after between before : Hands S G) → Stands after between → Stands between before → Stands after before
stands_through after between before second first = record { fit = second.fit; same = second.same ∙ first.same }

-- what fits goes on to fit
pub turns_stay : {S : Type 0} {G : Ghosts S} (after before : Hands S G) (turns : Turns) → Stands after before → TurnsFit (ground before) turns → TurnsFit (ground after) turns
turns_stay after before turns stands fit = subst (λ (g : Ground). TurnsFit g turns) (sym stands.same) fit

pub exit_stays : {S : Type 0} {G : Ghosts S} (after before : Hands S G) (exit : Exit) → Stands after before → ExitFits (ground before) exit → ExitFits (ground after) exit
exit_stays after before exit stands fit = subst (λ (g : Ground). ExitFits g exit) (sym stands.same) fit
