-- Each input fits the world in which nothing lives.
use Rattle.std.proofs.Common.{◌≡◌, true, List, [], ◌∷◌, map, refl, ap, ◌&&◌, ◌∙◌}
use Rattle.std.specs.List.{list_all}
use Rattle.nl_value.specs.Living.{fits, no_life}
use Rattle.nl_value.specs.Views.{plain}
use Rattle.nl_value.specs.Plain.{Plain}
use Rattle.trial_listops.proofs.words.answer.Goals as goal

all_fit : ((p : Plain) → fits no_life p ≡ true) → (ps : List Plain) → list_all (fits no_life) ps ≡ true
all_fit fit [] = refl
all_fit fit (p ∷ ps) = ap (λ b. b && list_all (fits no_life) ps) (fit p) ∙ all_fit fit ps

-- src/tests.rt: the call of `apply`
pub apply-requires : goal.apply-requires
apply-requires c = all_fit c.every_value_fits_no_life.ensures (map plain c.args.inputs.now)
