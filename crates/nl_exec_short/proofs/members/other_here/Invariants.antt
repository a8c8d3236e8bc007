-- The count is the one that the call begins.
use Rattle.nl_exec_short.proofs.members.other_here.Given as goal

abbrev pub ghosts-turtles_listed : goal.ghosts-turtles_listed
ghosts-turtles_listed g a = record { name = a.blank.name; parts = a.blank.parts }
