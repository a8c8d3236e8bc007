use Rattle.std.proofs.Common.{◌≡◌, length, drop}
use Rattle.nl_check.specs.inner.Reach.{passed_kinds, passed_work}
use Rattle.nl_check.proofs.reach.pass_on.Given as goal

abbrev pub invariant-loop-caller : goal.invariant-loop-caller
invariant-loop-caller l = record {
  many : length l.kinds.items ≡ length l.initial.kinds.items;
  kinds : passed_kinds l.given (drop l.caller-index l.callers) l.kinds.items ≡ passed_kinds l.given l.callers l.initial.kinds.items;
  work : passed_work l.given (drop l.caller-index l.callers) l.kinds.items l.work.items ≡ passed_work l.given l.callers l.initial.kinds.items l.initial.work.items;
}
