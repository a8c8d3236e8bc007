use Rattle.nl_index.proofs.row.link_in.Goals as goal

pub returns-in-Some-clause-filed : goal.returns-in-Some-clause-filed
returns-in-Some-clause-filed c home lists d none = rw c.in-Some.is (c.link_last.ensures.filed home lists d none)
