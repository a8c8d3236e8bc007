-- An item of each list.
use Rattle.std.proofs.Common.{ap, ◌∙◌, sym}
use Rattle.std.proofs.lemmas.Bool.{leb-false}
use Rattle.nl_value.specs.Views.{plain}
use Rattle.nl_exec_meaning.specs.Rounds.{listed, lists_of}
use Rattle.nl_exec_arrows.proofs.Given.{column_some, column_none, listed_some, listed_none}
use Rattle.nl_exec_arrows.proofs.giving.item_beside.Goals as goal

pub returns-in-Some : goal.returns-in-Some
returns-in-Some c =
    let r = c.args.rounds.now in
    let v = plain c.in-Some.list.now in
    c.item_of.ensures
    ∙ sym (column_some (lists_of r.over) r.many r.at c.args.list (listed v) c.requires.stand (leb-false r.many r.at c.requires.left) (listed_some r.over c.args.list v (sym c.in-Some.ensures)))

pub returns-in-None : goal.returns-in-None
returns-in-None c =
    let r = c.args.rounds.now in
    sym (column_none (lists_of r.over) r.many r.at c.args.list c.requires.stand (leb-false r.many r.at c.requires.left) (listed_none r.over c.args.list (sym c.in-None.ensures)))
