use Rattle.std.proofs.Common.{◌≡◌, ◌<◌, All, length}
use Rattle.nl_check.proofs.tests.long.Given as goal

abbrev pub invariant-loop-place : goal.invariant-loop-place
invariant-loop-place l = record {
  many : length l.own.items ≡ l.place;
  inside : All (λ c. (c.caller < l.count) × (c.callee < l.count)) l.calls.items;
}
