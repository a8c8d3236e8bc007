use Rattle.trial_index.proofs.filing.Filing.serials.Given as goal

abbrev pub ghosts-walked : goal.ghosts-walked
ghosts-walked a = record { name = a.blank.name; parts = a.blank.parts }
