use Rattle.std.proofs.Common.{arith, sym}
use Rattle.nl_check.proofs.Agents.{further_value, past_inputs}
use Rattle.nl_check.proofs.words.input_at.Goals as goal

pub returns-then-at-word-2 : goal.returns-then-at-word-2
returns-then-at-word-2 c = sym (further_value c.args.word.now.inputs.now c.args.word.now.values c.args.at (omega arith) (omega arith))

pub returns : goal.returns
returns c = sym (past_inputs c.args.word.now.inputs.now c.args.word.now.values c.args.at (omega arith))
