use Rattle.trial_stores.proofs.trials.Tried.counts_up.Given as goal

abbrev pub ghosts-listed : goal.ghosts-listed
ghosts-listed g a = record { name = a.blank.name; parts = a.blank.parts }
