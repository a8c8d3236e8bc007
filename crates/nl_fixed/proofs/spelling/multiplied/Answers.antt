use Rattle.std.proofs.Common.{◌<◌, unsigned_abs, arith}
use Rattle.std.proofs.lemmas.Int.{ints, to_z-of_z}
use Rattle.nl_fixed.proofs.Scaled.{multiplied_far, multiplied_large, multiplied_fits}
use Rattle.nl_fixed.proofs.spelling.multiplied.Goals as goal
use Rattle.nl_fixed.proofs.spelling.multiplied.Goals.{then-places-gt-MOST_ZEROS-via-then-places-gt-MOST_ZEROS, then-places-gt-MOST_ZEROS-via-else-places-gt-MOST_ZEROS+then-unsigned_abs}

pub returns-then-places-gt-MOST_ZEROS : goal.returns-then-places-gt-MOST_ZEROS
returns-then-places-gt-MOST_ZEROS c = elim c.then-places-gt-MOST_ZEROS.branch [
  | then-places-gt-MOST_ZEROS-via-then-places-gt-MOST_ZEROS w ↦
      let some : 0 < unsigned_abs c.args.n = grind (arith, ints) in
      multiplied_far c.args.n c.args.places some (omega arith)
  | then-places-gt-MOST_ZEROS-via-else-places-gt-MOST_ZEROS+then-unsigned_abs w ↦
      multiplied_large c.args.n c.args.places (grind (arith, ints, to_z-of_z))
]

pub overflow_mul-n : goal.overflow_mul-n
overflow_mul-n c = grind (arith, to_z-of_z, multiplied_fits)

pub returns : goal.returns
returns c = grind (arith, to_z-of_z, multiplied_fits)
