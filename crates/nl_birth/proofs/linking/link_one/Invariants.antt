-- The count is the one that the call begins.
use Rattle.nl_birth.proofs.linking.link_one.Given as goal

abbrev pub ghosts-partners : goal.ghosts-partners
ghosts-partners g a = record { name = a.blank.name; parts = a.blank.parts }
