use Rattle.std.specs.HashSet.{contains}
use Rattle.nl_decl.specs.inner.Ledger.{same_marked}
use Rattle.nl_decl.proofs.Barring.{tells}
use Rattle.nl_decl.proofs.ledger.is_barred.Goals as goal

pub returns : goal.returns
returns c seen place holds = rw (c.bears-common.ensures.found, c.bears_own-own.ensures, c.bears-common.ensures.same, c.own_mark.ensures, c.barring_marks.ensures) (tells (contains same_marked c.args.marks.now) c.args.name.now c.in_ok-key.key c.args.claim c.in_ok-key.ensures.0 seen place holds)
