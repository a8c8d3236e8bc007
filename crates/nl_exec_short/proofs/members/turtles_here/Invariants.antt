-- The count is the one that the call begins.
use Rattle.nl_exec_short.proofs.members.turtles_here.Given as goal

abbrev pub ghosts-turtles_counted : goal.ghosts-turtles_counted
ghosts-turtles_counted g a = record { name = a.blank.name; parts = a.blank.parts }
