use Rattle.nl_store_files.proofs.looking.fields_of.Given as goal

abbrev pub ghosts-fields_counted : goal.ghosts-fields_counted
ghosts-fields_counted a = record { name = a.blank.name; parts = a.blank.parts }
