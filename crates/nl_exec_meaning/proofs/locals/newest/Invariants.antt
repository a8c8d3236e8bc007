-- No local behind is of that name.
use Rattle.std.proofs.Common.{◌≡◌, ◌==◌, ◌≤◌, take, length}
use Rattle.nl_exec_meaning.specs.Variables.{last_index}
use Rattle.nl_exec_meaning.proofs.locals.newest.Given as goal

abbrev pub invariant-places : goal.invariant-places
invariant-places l = record {
  within : l.left ≤ length l.locals;
  none : last_index (λ x. x.id == l.id) (take l.left l.locals) ≡ last_index (λ x. x.id == l.id) l.locals;
}

abbrev pub decreases-places : goal.decreases-places
decreases-places l = l.left
