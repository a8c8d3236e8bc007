use Rattle.std.proofs.Common.{None, Some}
use Rattle.nl_store_lists.specs.Chained.{at_number}
use Rattle.nl_store_lists.proofs.Places.{at-here}
use Rattle.nl_index.specs.Rows.{take_from}
use Rattle.nl_store_records.proofs.Filing.{filed-home, held-kept}
use Rattle.nl_index.proofs.Moves.{at-twice}
use Rattle.nl_index.proofs.row.move_last.Goals as goal

pub link_last-requires-clause-held : goal.link_last-requires-clause-held
link_last-requires-clause-held c = held-kept c.args.chain _ _ c.args.key c.unlink_from.ensures.others c.requires.held

pub link_last-requires-clause-away : goal.link_last-requires-clause-away
link_last-requires-clause-away c =
    let o = c.requires.listed in
    record {
      home = at_number o.home c.args.key None;
      lists = take_from c.args.from c.args.key o.lists;
      filed = c.unlink_from.ensures.filed o.home o.lists o.filed o.here;
      here = at-here o.home c.args.key None;
    }

pub returns-clause-filed : goal.returns-clause-filed
returns-clause-filed c home lists d here =
    filed-home c.args.chain _ _ _ _ _ (at-twice home c.args.key None (Some c.args.to)) (c.link_last.ensures.filed _ _ (c.unlink_from.ensures.filed home lists d here) (at-here home c.args.key None))
