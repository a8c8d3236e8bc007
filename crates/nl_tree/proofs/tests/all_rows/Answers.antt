use Rattle.std.proofs.Common.{sym}
use Rattle.nl_tree.proofs.SampleRows.{going_rows}
use Rattle.nl_tree.proofs.tests.all_rows.Goals as goal

pub returns : goal.returns
returns c = rw (c.in_ok-push.ensures.ok, c.in_ok-list.ensures, c.in_ok-name.ensures.ok) (sym going_rows)
