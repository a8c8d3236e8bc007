use Rattle.nl_store.proofs.Holds.{hatched-many}
use Rattle.nl_store.proofs.births.birth_vars.Goals as goal

pub hatched-requires : goal.hatched-requires
hatched-requires c = hatched-many c.args.layout.now c.args.files.now.turtles c.in-Some.serial c.turtle_vars.result.now c.requires.many c.turtle_vars.ensures
