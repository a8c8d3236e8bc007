use Rattle.nl_decl.proofs.ledger.put.Goals as goal

pub returns : goal.returns
returns c = c.in_ok-insert.ensures.updates.0
