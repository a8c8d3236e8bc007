use Rattle.trial_index.proofs.records.told_at.Given as goal

abbrev pub ghosts-told_counted : goal.ghosts-told_counted
ghosts-told_counted a = record { name = a.blank.name; parts = a.blank.parts }
