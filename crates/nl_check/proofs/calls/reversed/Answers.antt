use Rattle.std.proofs.Common.{ap, ◌∙◌, length}
use Rattle.nl_check.specs.inner.Calls.{reversed}
use Rattle.nl_check.proofs.Around.{nobody_length}
use Rattle.nl_check.proofs.calls.reversed.Goals as goal

pub loop-call-init : goal.loop-call-init
loop-call-init c = record { many = ap length c.in_ok-callers.ensures ∙ nobody_length c.args.count; rest = ap (λ xs. reversed xs c.args.calls.now) c.in_ok-callers.ensures }
