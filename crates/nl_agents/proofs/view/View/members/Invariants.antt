use Rattle.nl_agents.proofs.view.View.members.Given as goal

abbrev pub ghosts-members_by : goal.ghosts-members_by
ghosts-members_by g a = record { name = a.blank.name; parts = a.blank.parts }
