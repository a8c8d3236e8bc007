use Rattle.nl_links.proofs.ends.ends_at.Given as goal

abbrev pub ghosts-ends_counted : goal.ghosts-ends_counted
ghosts-ends_counted a = record { name = a.blank.name; parts = a.blank.parts }
