use Rattle.std.proofs.Common.{◌++◌, ◌∙◌}
use Rattle.nl_tree.specs.Tokens.{repeated}
use Rattle.nl_parse_reading.proofs.Levels.{level_one, level_two, level_low, level_high, level_binary}
use Rattle.nl_parse_reading.proofs.classes.operator_class.Goals as goal

pub returns-then-level-eq1 : goal.returns-then-level-eq1
returns-then-level-eq1 c = c.near_class.ensures ∙ level_one c.args.level c.args.minus (c.args.listed.now ++ repeated c.args.values) c.if-level-eq1.true

pub returns-then-level-eq2 : goal.returns-then-level-eq2
returns-then-level-eq2 c = level_two c.args.level c.args.minus (c.args.listed.now ++ repeated c.args.values) c.if-level-eq2.true

pub returns-then-level-lt4 : goal.returns-then-level-lt4
returns-then-level-lt4 c = level_low c.args.level c.args.minus (c.args.listed.now ++ repeated c.args.values) c.if-level-eq1.false c.if-level-eq2.false c.if-level-lt4.true

pub returns-then-level-gt9 : goal.returns-then-level-gt9
returns-then-level-gt9 c = level_high c.args.level c.args.minus (c.args.listed.now ++ repeated c.args.values) c.if-level-eq1.false c.if-level-eq2.false c.if-level-lt4.false c.if-level-gt9.true

pub returns : goal.returns
returns c = level_binary c.args.level c.args.minus (c.args.listed.now ++ repeated c.args.values) c.if-level-eq1.false c.if-level-eq2.false c.if-level-lt4.false c.if-level-gt9.false
