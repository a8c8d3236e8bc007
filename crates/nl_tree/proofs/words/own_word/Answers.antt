use Rattle.std.proofs.Common.{sym}
use Rattle.nl_tree.specs.Index.{term_of}
use Rattle.nl_tree.proofs.Lookup.{own_found, own_absent}
use Rattle.nl_tree.proofs.words.own_word.Goals as goal

pub returns-in-Some : goal.returns-in-Some
returns-in-Some c =
    let found = own_found c.args.declared.now c.requires c.args.name.now (term_of c.in-Some.row.now) c.in-Some.ensures.0 c.in-Some.ensures.1 in
    rw (← c.in-Some.ensures.0) (sym (rw (← c.in-Some.ensures.0) at found))

pub returns-in-None : goal.returns-in-None
returns-in-None c = sym (own_absent c.args.declared.now c.requires c.args.name.now c.in-None.ensures)
