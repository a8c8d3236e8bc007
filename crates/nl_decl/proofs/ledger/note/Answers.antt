use Rattle.std.proofs.Common.{sym, ◌∙◌}
use Rattle.std.specs.HashSet.{contains}
use Rattle.nl_decl.specs.inner.Ledger.{same_marked}
use Rattle.nl_decl.proofs.Noting.{one_noted, two_noted}
use Rattle.nl_decl.proofs.ledger.note.Goals as goal

pub returns-in-None : goal.returns-in-None
returns-in-None c =
    one_noted c.args.name.now c.args.claim (contains same_marked c.args.marks.now) c.in_ok-key.key c.in_ok-key.ensures.0 (c.in_ok-key.ensures.1 ∙ c.common_mark.ensures)
    (contains same_marked c.put.new.marks) (sym c.in-None.ensures) c.in_ok-put.ensures

pub returns-in_ok-put-in-Some : goal.returns-in_ok-put-in-Some
returns-in_ok-put-in-Some c =
    two_noted c.args.name.now c.args.claim (contains same_marked c.args.marks.now) c.in_ok-key.key c.in_ok-key.ensures.0 (c.in_ok-key.ensures.1 ∙ c.common_mark.ensures)
    (contains same_marked c.put.new.marks) (contains same_marked c.put-in-Some.new.marks) c.in_ok-key-in-Some.key c.in-Some.mark (sym c.in-Some.ensures)
    c.in_ok-key-in-Some.ensures.0 c.in_ok-key-in-Some.ensures.1 c.in_ok-put.ensures c.in_ok-put-in-Some.ensures
