-- The count is the one that the call begins.
use Rattle.nl_exec_arrows.proofs.orders.members.Given as goal

abbrev pub ghosts-members_by : goal.ghosts-members_by
ghosts-members_by g a = record { name = a.blank.name; parts = a.blank.parts }
