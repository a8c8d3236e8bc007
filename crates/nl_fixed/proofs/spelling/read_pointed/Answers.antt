use Rattle.std.proofs.Common.{false, arith, rules, ap, ◌∙◌}
use Rattle.std.specs.Option.{option_map}
use Rattle.nl_fixed.specs.Spelling.{value_of}
use Rattle.nl_fixed.proofs.Words.{pointed_none, pointed_other}
use Rattle.nl_fixed.proofs.spelling.read_pointed.Goals as goal
use Rattle.nl_fixed.proofs.spelling.read_pointed.Goals.{in_default-via-then-behind-lt1, in_default-via-else-behind-lt1+in_default-1}

pub returns-in_default : goal.returns-in_default
returns-in_default c = elim c.in_default.branch [
  | in_default-via-then-behind-lt1 w ↦
      c.read_ended-in_default.ensures false ∙ ap (option_map value_of) (pointed_none c.args.negative c.args.whole.now c.args.behind.now (search rules))
  | in_default-via-else-behind-lt1+in_default-1 w ↦
      c.read_ended-in_default.ensures false ∙ ap (option_map value_of) (pointed_other c.args.negative c.args.whole.now c.args.behind.now (λ e. omega arith))
]
