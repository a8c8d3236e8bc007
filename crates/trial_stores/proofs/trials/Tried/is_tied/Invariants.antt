use Rattle.std.proofs.Common.{◌≡◌, take, false}
use Rattle.std.specs.List.{list_any}
use Rattle.nl_agents.specs.Changes.{link_of}
use Rattle.trial_stores.specs.Trials.{joined}
use Rattle.trial_stores.proofs.trials.Tried.is_tied.Given as goal

abbrev pub ghosts-all_links : goal.ghosts-all_links
ghosts-all_links g a = record { name = a.blank.name; parts = a.blank.parts }

abbrev pub invariant-loop-number : goal.invariant-loop-number
invariant-loop-number g l = list_any (λ z. joined l.breed l.directed l.end1 l.end2 (link_of z (g.S.Store.world l.self.store).rest)) (take l.number-index l.numbers) ≡ false
