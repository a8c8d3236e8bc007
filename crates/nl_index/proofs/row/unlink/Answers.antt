use Rattle.std.proofs.Common.{Some, sym, subst}
use Rattle.nl_store_lists.specs.Chained.{IsPlace}
use Rattle.nl_store_records.proofs.Filing.{filed-without, held-kept, keeps-trans, place-held, IsHeld-kept}
use Rattle.nl_index.proofs.row.unlink.Goals as goal

pub place_at-place-requires-clause-held : goal.place_at-place-requires-clause-held
place_at-place-requires-clause-held c = c.requires.listed.filed.held c.args.key c.args.number c.requires.listed.here

pub set_after-requires-clause-held : goal.set_after-requires-clause-held
set_after-requires-clause-held c =
    let o = c.requires.listed in
    place-held _ _ _ _ _ c.args.number _ o.filed (subst (IsPlace o.home c.args.number) (sym c.place_at-place.ensures.previous) (o.filed.threaded.back.stays c.args.number (Some c.args.key) o.here))

pub set_after-requires-clause-to : goal.set_after-requires-clause-to
set_after-requires-clause-to c =
    let o = c.requires.listed in
    place-held _ _ _ _ _ c.args.number _ o.filed (subst (IsPlace o.home c.args.number) (sym c.place_at-place.ensures.next) (o.filed.threaded.forth.stays c.args.number (Some c.args.key) o.here))

pub set_before-requires-clause-to : goal.set_before-requires-clause-to
set_before-requires-clause-to c =
    let o = c.requires.listed in
    let p = subst (IsPlace o.home c.args.number) (sym c.place_at-place.ensures.previous) (o.filed.threaded.back.stays c.args.number (Some c.args.key) o.here) in
    IsHeld-kept c.args.chain _ _ _ c.set_after.ensures.others (place-held _ _ _ _ _ c.args.number _ o.filed p)

pub set_before-requires-clause-held : goal.set_before-requires-clause-held
set_before-requires-clause-held c =
    let o = c.requires.listed in
    let p = subst (IsPlace o.home c.args.number) (sym c.place_at-place.ensures.next) (o.filed.threaded.forth.stays c.args.number (Some c.args.key) o.here) in
    IsHeld-kept c.args.chain _ _ _ c.set_after.ensures.others (place-held _ _ _ _ _ c.args.number _ o.filed p)

pub returns-clause-filed : goal.returns-clause-filed
returns-clause-filed c home lists d here =
    filed-without c.args.chain _ _ _ _ _ _ home lists c.args.number c.args.key _ _ d here c.place_at-place.ensures.previous c.place_at-place.ensures.next
    c.set_after.ensures.after c.set_after.ensures.before c.set_before.ensures.before c.set_before.ensures.after
    (λ j. held-kept c.args.chain _ _ j (keeps-trans c.args.chain _ _ _ c.set_after.ensures.others c.set_before.ensures.others))
