use Rattle.nl_index.proofs.homes.homes_at.Given as goal

abbrev pub ghosts-homes_counted : goal.ghosts-homes_counted
ghosts-homes_counted a = record { name = a.blank.name; parts = a.blank.parts }
