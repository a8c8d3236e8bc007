use Rattle.std.proofs.Common.{None, Some, sym, subst}
use Rattle.nl_store_lists.specs.Chained.{IsPlace}
use Rattle.nl_index.specs.Rows.{borders_in}
use Rattle.nl_store_records.proofs.Filing.{filed-last, held-kept, keeps-trans, place-held, IsHeld-kept}
use Rattle.nl_index.proofs.Borders.{last-redirects, last-stays}
use Rattle.nl_index.proofs.row.link_last.Goals as goal

pub set_place-requires-clause-previous : goal.set_place-requires-clause-previous
set_place-requires-clause-previous c =
    let o = c.requires.away in
    place-held _ _ _ _ _ c.args.number _ o.filed (subst (IsPlace o.home c.args.number) (sym c.last_of-last.ensures) (o.filed.threaded.back.stays c.args.number None tt))

pub set_after-requires-clause-to : goal.set_after-requires-clause-to
set_after-requires-clause-to c = held-kept c.args.chain _ _ c.args.key c.set_place.ensures.others c.requires.held

pub set_after-requires-clause-held : goal.set_after-requires-clause-held
set_after-requires-clause-held c =
    let o = c.requires.away in
    let p = subst (IsPlace o.home c.args.number) (sym c.last_of-last.ensures) (o.filed.threaded.back.stays c.args.number None tt) in
    IsHeld-kept c.args.chain _ _ _ c.set_place.ensures.others (place-held _ _ _ _ _ c.args.number _ o.filed p)

pub returns-clause-filed : goal.returns-clause-filed
returns-clause-filed c home lists d none =
    filed-last c.args.chain _ _ _ _ _ _ _ _ home lists c.args.number c.args.key _ d none c.last_of-last.ensures
    (c.set_place.ensures.after (borders_in c.args.row.now.items) c.args.number) c.set_after.ensures.after (last-stays c.args.chain c.args.number (Some c.args.key) _ _ _ c.set_last.ensures.last)
    (c.set_place.ensures.before (borders_in c.args.row.now.items) c.args.number) c.set_after.ensures.before (last-redirects c.args.chain c.args.number (Some c.args.key) _ _ _ c.set_last.ensures.last)
    (λ j. held-kept c.args.chain _ _ j (keeps-trans c.args.chain _ _ _ c.set_place.ensures.others c.set_after.ensures.others)) c.requires.held
