-- The locals so far are copied.
use Rattle.std.proofs.Common.{◌≡◌, take, map}
use Rattle.nl_exec_meaning.specs.inner.Seen.{kept}
use Rattle.nl_exec_meaning.proofs.locals.Locals.copy.Given as goal

abbrev pub invariant-loop-local : goal.invariant-loop-local
invariant-loop-local l = l.copied ≡ map kept (take l.local-index l.local-items)
