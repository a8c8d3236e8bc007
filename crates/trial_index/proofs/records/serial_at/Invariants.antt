use Rattle.trial_index.proofs.records.serial_at.Given as goal

abbrev pub ghosts-serial_counted : goal.ghosts-serial_counted
ghosts-serial_counted a = record { name = a.blank.name; parts = a.blank.parts }
