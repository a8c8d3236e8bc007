-- A new name is none of those before.
use Rattle.nl_exec_meaning.proofs.Numbering.{inserted, stored_name}
use Rattle.nl_exec_meaning.proofs.local_names.LocalNames.place.Goals as goal

pub invariant_of-self-2 : goal.invariant_of-self-2
invariant_of-self-2 c =
    inserted c.self.inside.list.keys c.insert_full.new.self.keys c.bytes_of.result c.in_ok-at.ensures.keys c.self.invariant c.bytes_of.ensures.text

pub returns-clause-place : goal.returns-clause-place
returns-clause-place c =
    let s = c.in_ok-at.ensures.stored in
    rw (← c.bytes_of.ensures.same) (stored_name c.insert_full.new.self.keys c.in_ok-at.at c.bytes_of.result s.0 s.1 s.2)

pub returns-clause-apart : goal.returns-clause-apart
returns-clause-apart c = invariant_of-self-2 c
