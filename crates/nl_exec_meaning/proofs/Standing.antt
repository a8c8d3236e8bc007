-- What is held still fits where neither locals nor who runs changed.
use Rattle.std.proofs.Common.{◌≡◌, refl, sym, subst}
use Rattle.nl_agents.specs.World.{Rest}
use Rattle.nl_agents.specs.declared.store.Store.{Ghosts}
use Rattle.nl_exec_meaning.specs.Ground.{Ground, ground_of, SiteFits}
use Rattle.nl_exec_meaning.specs.Means.{Stands}
use Rattle.nl_exec_meaning.specs.Seen.{ground}
use Rattle.nl_exec_meaning.specs.Standing.{LocalsFit}
use Rattle.nl_exec_meaning.specs.declared.hands.Hands.{Hands}

pub ground_same : (now before : Rest) → (now.shape ≡ before.shape) × (now.layout ≡ before.layout) → ground_of now ≡ ground_of before
ground_same now before same = rw (same.0, same.1) refl

pub stands_on : {S : Type 0} {G : Ghosts S} (after before : Hands S G) → LocalsFit (ground before) after.locals → SiteFits (ground before) after.site → ground after ≡ ground before → Stands after before
stands_on after before locals site same = record {
  fit = record {
    locals = subst (λ (g : Ground). LocalsFit g after.locals) (sym same) locals;
    site = subst (λ (g : Ground). SiteFits g after.site) (sym same) site;
  };
  same = same;
}
