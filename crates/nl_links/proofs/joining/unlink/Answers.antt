use Rattle.std.proofs.Common.{Some, sym, subst, ◌∙◌}
use Rattle.nl_store_lists.specs.Chained.{IsPlace}
use Rattle.nl_store_records.proofs.Filing.{filed-without, held-kept, keeps-trans, place-held, IsHeld-kept}
use Rattle.nl_links.specs.Sides.{kind_of}
use Rattle.nl_links.proofs.Borders.{keeps-then}
use Rattle.nl_links.proofs.joining.unlink.Goals as goal

pub place_at-place-requires-clause-held : goal.place_at-place-requires-clause-held
place_at-place-requires-clause-held c = c.requires.listed.filed.held c.args.key c.args.turtle c.requires.listed.here

pub set_after-requires-clause-held : goal.set_after-requires-clause-held
set_after-requires-clause-held c =
    let o = c.requires.listed in
    let previous = rw c.kind.ensures.kind at c.place_at-place.ensures.previous in
    place-held _ _ _ _ _ c.args.turtle _ o.filed (subst (IsPlace o.home c.args.turtle) (sym previous) (o.filed.threaded.back.stays c.args.turtle (Some c.args.key) o.here))

pub set_before-requires-clause-turtle : goal.set_before-requires-clause-turtle
set_before-requires-clause-turtle c = c.set_after.ensures.beside.held c.args.turtle ∙ c.requires.turtle

pub set_after-requires-clause-to : goal.set_after-requires-clause-to
set_after-requires-clause-to c =
    let o = c.requires.listed in
    let next = rw c.kind.ensures.kind at c.place_at-place.ensures.next in
    place-held _ _ _ _ _ c.args.turtle _ o.filed (subst (IsPlace o.home c.args.turtle) (sym next) (o.filed.threaded.forth.stays c.args.turtle (Some c.args.key) o.here))

pub set_before-requires-clause-to : goal.set_before-requires-clause-to
set_before-requires-clause-to c =
    let o = c.requires.listed in
    let previous = rw c.kind.ensures.kind at c.place_at-place.ensures.previous in
    let p = subst (IsPlace o.home c.args.turtle) (sym previous) (o.filed.threaded.back.stays c.args.turtle (Some c.args.key) o.here) in
    IsHeld-kept (kind_of c.args.side) _ _ _ c.set_after.ensures.others (place-held _ _ _ _ _ c.args.turtle _ o.filed p)

pub set_before-requires-clause-held : goal.set_before-requires-clause-held
set_before-requires-clause-held c =
    let o = c.requires.listed in
    let next = rw c.kind.ensures.kind at c.place_at-place.ensures.next in
    let p = subst (IsPlace o.home c.args.turtle) (sym next) (o.filed.threaded.forth.stays c.args.turtle (Some c.args.key) o.here) in
    IsHeld-kept (kind_of c.args.side) _ _ _ c.set_after.ensures.others (place-held _ _ _ _ _ c.args.turtle _ o.filed p)

pub returns-clause-filed : goal.returns-clause-filed
returns-clause-filed c home lists d here =
    let kind = c.kind.ensures.kind in
    filed-without (kind_of c.args.side) _ _ _ _ _ _ home lists c.args.turtle c.args.key _ _ d here
    (rw kind at c.place_at-place.ensures.previous) (rw kind at c.place_at-place.ensures.next)
    c.set_after.ensures.after c.set_after.ensures.before c.set_before.ensures.before c.set_before.ensures.after
    (λ j. held-kept (kind_of c.args.side) _ _ j (keeps-trans (kind_of c.args.side) _ _ _ c.set_after.ensures.others c.set_before.ensures.others))

pub returns-clause-others : goal.returns-clause-others
returns-clause-others c = keeps-trans (kind_of c.args.side) _ _ _ c.set_after.ensures.others c.set_before.ensures.others

pub returns-clause-beside : goal.returns-clause-beside
returns-clause-beside c = keeps-then c.args.side _ _ _ c.set_after.ensures.beside c.set_before.ensures.beside
