-- The count is the one that the call begins.
use Rattle.nl_exec_short.proofs.draws.drawn_below.Given as goal

abbrev pub ghosts-draw_counted : goal.ghosts-draw_counted
ghosts-draw_counted g a = record { name = a.blank.name; parts = a.blank.parts }
