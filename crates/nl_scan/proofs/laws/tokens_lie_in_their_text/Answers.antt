use Rattle.nl_scan.proofs.Order.{token_lies_in}
use Rattle.nl_scan.proofs.laws.tokens_lie_in_their_text.Goals as goal

pub returns : goal.returns
returns c = token_lies_in
