-- The count is the one that the call begins.
use Rattle.nl_exec_short.proofs.members.links_of_own.Given as goal

abbrev pub ghosts-links_counted : goal.ghosts-links_counted
ghosts-links_counted g a = record { name = a.blank.name; parts = a.blank.parts }
