use Rattle.std.proofs.Common.{◌≡◌, ◌≤◌, ◌-◌, length}
use Rattle.nl_links.specs.Hints.{FewHints, SameHints}
use Rattle.nl_links.proofs.guesses.Hints.room.Given as goal

abbrev pub invariant-loop-self : goal.invariant-loop-self
invariant-loop-self l = record {
  same : SameHints l.self l.initial.self;
  kept : l.entries ≤ length l.initial.self → l.self ≡ l.initial.self;
  few : FewHints l.self l.initial.self l.entries;
}

abbrev pub decreases-loop-self : goal.decreases-loop-self
decreases-loop-self l = l.entries - length l.self
