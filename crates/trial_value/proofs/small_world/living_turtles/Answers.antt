use Rattle.std.proofs.lemmas.List.Kept.{IsStrictlyIncreasing-filter}
use Rattle.trial_value.specs.SmallWorld.{small_turtle_lives}
use Rattle.trial_value.proofs.small_world.living_turtles.Goals as goal

pub returns-in_err-members-clause-ascending : goal.returns-in_err-members-clause-ascending
returns-in_err-members-clause-ascending c = IsStrictlyIncreasing-filter small_turtle_lives c.args.numbers.now c.as_slice-numbers.ensures.ascending

pub returns-clause-ascending : goal.returns-clause-ascending
returns-clause-ascending c = IsStrictlyIncreasing-filter small_turtle_lives c.args.numbers.now c.as_slice-numbers.ensures.ascending
