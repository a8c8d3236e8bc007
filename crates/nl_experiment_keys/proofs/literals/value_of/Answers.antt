use Rattle.nl_scan.proofs.Order.{token_lies_in}
use Rattle.nl_experiment_keys.proofs.literals.value_of.Goals as goal

pub word_of-requires : goal.word_of-requires
word_of-requires c = token_lies_in c.args.text.now c.args.token.now c.requires
