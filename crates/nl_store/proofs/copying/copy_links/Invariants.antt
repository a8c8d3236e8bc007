-- The links so far.
use Rattle.nl_store.proofs.Copies.{LinksTaken}
use Rattle.nl_store.proofs.copying.copy_links.Given as goal

abbrev pub invariant-loop-serial : goal.invariant-loop-serial
invariant-loop-serial l = LinksTaken l.from l.into l.serial-index

abbrev pub ghosts-links_counted : goal.ghosts-links_counted
ghosts-links_counted a = record { name = a.blank.name; parts = a.blank.parts }
