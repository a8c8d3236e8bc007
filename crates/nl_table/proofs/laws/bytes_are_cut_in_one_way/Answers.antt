use Rattle.nl_table.proofs.Fronts.{pieces_are_the_bytes, pieces_are_told, pieces_stay}
use Rattle.nl_table.proofs.laws.bytes_are_cut_in_one_way.Goals as goal

pub returns-clause-joined : goal.returns-clause-joined
returns-clause-joined c = pieces_are_the_bytes

pub returns-clause-told : goal.returns-clause-told
returns-clause-told c = pieces_are_told

pub returns-clause-stay : goal.returns-clause-stay
returns-clause-stay c = pieces_stay
