-- The count is the one that the call begins.
use Rattle.nl_exec_cases.proofs.acting.act_now.Given as goal

abbrev pub ghosts-acted : goal.ghosts-acted
ghosts-acted g a = record { name = a.blank.name; parts = a.blank.parts }
