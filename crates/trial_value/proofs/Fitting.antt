-- Every value fits the small world, whose tests of patches and sets pass everything.
use Rattle.std.specs.Prelude.{◌≡◌, true, refl}
use Rattle.nl_value.specs.Plain.{Plain}
use Rattle.nl_value.specs.Living.{fits}
use Rattle.nl_value.proofs.Fitting.{value_fits-all}
use Rattle.trial_value.specs.SmallWorld.{small_world}

pub fits_small : (p : Plain) → fits small_world p ≡ true
fits_small = value_fits-all small_world.patch_fits small_world.set_fits (λ n. refl) (λ s. refl)
