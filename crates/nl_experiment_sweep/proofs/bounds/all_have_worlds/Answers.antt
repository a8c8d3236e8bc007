use Rattle.nl_experiment_sweep.specs.Varied.{max_pxcor, max_pycor, min_pxcor, min_pycor}
use Rattle.nl_experiment_sweep.proofs.EachWorld.{answered, few_among}
use Rattle.nl_experiment_sweep.proofs.bounds.all_have_worlds.Goals as goal

pub each_min_x-requires-clause-first : goal.each_min_x-requires-clause-first
each_min_x-requires-clause-first c = rw (c.choice_of.ensures, c.as_slice-varies.ensures) (few_among min_pxcor c.args.order c.args.varies.now c.requires)

pub each_min_x-requires-clause-second : goal.each_min_x-requires-clause-second
each_min_x-requires-clause-second c = rw (c.choice_of-2.ensures, c.as_slice-varies.ensures) (few_among max_pxcor c.args.order c.args.varies.now c.requires)

pub each_min_x-requires-clause-third : goal.each_min_x-requires-clause-third
each_min_x-requires-clause-third c = rw (c.choice_of-3.ensures, c.as_slice-varies.ensures) (few_among min_pycor c.args.order c.args.varies.now c.requires)

pub each_min_x-requires-clause-fourth : goal.each_min_x-requires-clause-fourth
each_min_x-requires-clause-fourth c = rw (c.choice_of-4.ensures, c.as_slice-varies.ensures) (few_among max_pycor c.args.order c.args.varies.now c.requires)

pub returns : goal.returns
returns c =
    let says = rw (c.choice_of.ensures, c.choice_of-2.ensures, c.choice_of-3.ensures, c.choice_of-4.ensures, c.as_slice-varies.ensures) at c.each_min_x.ensures in
    answered c.args.world c.args.order c.args.varies.now c.each_min_x.result c.requires says
