use Rattle.std.proofs.Common.{ap, ◌∙◌, ◌++◌, map}
use Rattle.nl_tree.specs.Vocabulary.{named_what}
use Rattle.nl_check.proofs.NamedRows.{are_rows}
use Rattle.nl_check.proofs.rows.rows_of.Goals as goal

pub returns : goal.returns
returns c = are_rows c.args.declared.now c.put_rows.new.list c.requires (c.in_ok-put_rows.ensures ∙ ap (λ xs. xs ++ map named_what c.args.declared.now.index) c.in_ok-list.ensures)
