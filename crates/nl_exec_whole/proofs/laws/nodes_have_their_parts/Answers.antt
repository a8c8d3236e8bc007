use Rattle.nl_exec_whole.proofs.TextParts.{nodes_have_their_parts}
use Rattle.nl_exec_whole.proofs.laws.nodes_have_their_parts.Goals as goal

pub returns : goal.returns
returns c = nodes_have_their_parts
