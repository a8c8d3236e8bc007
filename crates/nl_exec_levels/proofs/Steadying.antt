-- What a machine holds goes on to fit the world.
use Rattle.std.proofs.Common.{◌≡◌, List, [], ◌∷◌, ◌++◌, ap, ◌∙◌, sym, subst}
use Rattle.nl_agents.specs.declared.store.Store.{Ghosts}
use Rattle.nl_exec_meaning.specs.Code.{Code}
use Rattle.nl_exec_meaning.specs.Ground.{Ground}
use Rattle.nl_exec_meaning.specs.Means.{Stands}
use Rattle.nl_exec_meaning.specs.Seen.{ground}
use Rattle.nl_exec_meaning.specs.Sound.{IsSound}
use Rattle.nl_exec_meaning.specs.Standing.{FrameFits}
use Rattle.nl_exec_meaning.specs.declared.hands.Hands.{Hands}
use Rattle.nl_exec_levels.specs.declared.levels.Level.{Level}
use Rattle.nl_exec_levels.specs.Steady.{IsSteady, LevelsFit}

pub fit_push : (g : Ground) (ls : List Level) (l : Level) → LevelsFit g ls → FrameFits g l.frame → LevelsFit g (ls ++ l ∷ [])
fit_push g [] l fit one = (one, tt)
fit_push g (k ∷ ls) l fit one = (fit.0, fit_push g ls l fit.1 one)

pub fit_below : (g : Ground) (ls : List Level) (l : Level) → LevelsFit g (ls ++ l ∷ []) → LevelsFit g ls
fit_below g [] l fit = tt
fit_below g (k ∷ ls) l fit = (fit.0, fit_below g ls l fit.1)

pub fit_top : (g : Ground) (ls : List Level) (l : Level) → LevelsFit g (ls ++ l ∷ []) → FrameFits g l.frame
fit_top g [] l fit = fit.0
fit_top g (k ∷ ls) l fit = fit_top g ls l fit.1

-- with a level more
pub steady_push : {S : Type 0} {G : Ghosts S} (c : Code) (h : Hands S G) (ls : List Level) (l : Level) →
    IsSteady c h ls → FrameFits (ground h) l.frame → IsSteady c h (ls ++ l ∷ [])
steady_push c h ls l steady one =
    record { laid = steady.laid; sound = steady.sound; fit = steady.fit; held = fit_push (ground h) ls l steady.held one }

-- with a level less
pub steady_below : {S : Type 0} {G : Ghosts S} (c : Code) (h : Hands S G) (ls : List Level) (l : Level) →
    IsSteady c h (ls ++ l ∷ []) → IsSteady c h ls
steady_below c h ls l steady =
    record { laid = steady.laid; sound = steady.sound; fit = steady.fit; held = fit_below (ground h) ls l steady.held }

pub steady_top : {S : Type 0} {G : Ghosts S} (c : Code) (h : Hands S G) (ls : List Level) (l : Level) →
    IsSteady c h (ls ++ l ∷ []) → FrameFits (ground h) l.frame
steady_top c h ls l steady = fit_top (ground h) ls l steady.held

-- after a step
pub steady_on : {S : Type 0} {G : Ghosts S} (c : Code) (after before : Hands S G) (ls : List Level) →
    IsSteady c before ls → Stands after before → IsSteady c after ls
steady_on c after before ls steady stands =
    record {
      laid = ap (λ g. g.layout) stands.same ∙ steady.laid;
      sound = subst (λ g. IsSound c.program g.layout) (sym stands.same) steady.sound;
      fit = stands.fit;
      held = subst (λ g. LevelsFit g ls) (sym stands.same) steady.held;
    }

-- after a step, with another level on top
pub steady_again : {S : Type 0} {G : Ghosts S} (c : Code) (after before : Hands S G) (ls all : List Level) (was now : Level) →
    IsSteady c before (ls ++ was ∷ []) → Stands after before → FrameFits (ground after) now.frame → all ≡ ls ++ now ∷ [] → IsSteady c after all
steady_again c after before ls all was now steady stands fit e =
    subst (λ (xs : List Level). IsSteady c after xs) (sym e)
    (steady_push c after ls now (steady_on c after before ls (steady_below c before ls was steady) stands) fit)
