use Rattle.std.proofs.Common.{None, Some, sym, subst, ◌∙◌}
use Rattle.nl_store_lists.specs.Chained.{IsPlace}
use Rattle.nl_store_records.proofs.Filing.{filed-last, held-kept, keeps-trans, place-held, IsHeld-kept}
use Rattle.nl_index.proofs.Borders.{last-redirects, last-stays}
use Rattle.nl_links.specs.Sides.{borders_of, kind_of}
use Rattle.nl_links.proofs.Borders.{keeps-last, keeps-then, last-set}
use Rattle.nl_links.proofs.joining.link_last.Goals as goal

pub set_place-requires-clause-previous : goal.set_place-requires-clause-previous
set_place-requires-clause-previous c =
    let o = c.requires.away in
    place-held _ _ _ _ _ c.args.turtle _ o.filed (subst (IsPlace o.home c.args.turtle) (sym c.last_of-last.ensures) (o.filed.threaded.back.stays c.args.turtle None tt))

pub set_after-requires-clause-to : goal.set_after-requires-clause-to
set_after-requires-clause-to c = held-kept c.kind.result _ _ c.args.key c.set_place.ensures.others c.requires.held

pub set_after-requires-clause-held : goal.set_after-requires-clause-held
set_after-requires-clause-held c =
    let o = c.requires.away in
    let p = subst (IsPlace o.home c.args.turtle) (sym c.last_of-last.ensures) (o.filed.threaded.back.stays c.args.turtle None tt) in
    IsHeld-kept c.kind.result _ _ _ c.set_place.ensures.others (place-held _ _ _ _ _ c.args.turtle _ o.filed p)

pub set_last-requires-clause-held : goal.set_last-requires-clause-held
set_last-requires-clause-held c = c.set_after.ensures.beside.held c.args.turtle ∙ c.requires.turtle

pub returns-clause-filed : goal.returns-clause-filed
returns-clause-filed c home lists d none =
    let kind = c.kind.ensures.kind in
    let held = c.set_after.ensures.beside.held c.args.turtle ∙ c.requires.turtle in
    let last = last-set c.args.side (Some c.args.key) c.set_after.new.ends c.set_last.new.self c.args.turtle held c.set_last.ensures in
    let borders = borders_of c.args.side c.args.ends.now in
    filed-last (kind_of c.args.side) _ _ _ _ _ _ _ _ home lists c.args.turtle c.args.key _ d none c.last_of-last.ensures
    (rw kind at (c.set_place.ensures.after borders c.args.turtle)) c.set_after.ensures.after (last-stays (kind_of c.args.side) c.args.turtle (Some c.args.key) _ _ _ last)
    (rw kind at (c.set_place.ensures.before borders c.args.turtle)) c.set_after.ensures.before (last-redirects (kind_of c.args.side) c.args.turtle (Some c.args.key) _ _ _ last)
    (λ j. held-kept (kind_of c.args.side) _ _ j (keeps-trans (kind_of c.args.side) _ _ _ (rw kind at c.set_place.ensures.others) c.set_after.ensures.others)) c.requires.held

pub returns-clause-others : goal.returns-clause-others
returns-clause-others c = keeps-trans (kind_of c.args.side) _ _ _ (rw c.kind.ensures.kind at c.set_place.ensures.others) c.set_after.ensures.others

pub returns-clause-beside : goal.returns-clause-beside
returns-clause-beside c = keeps-then c.args.side _ _ _ c.set_after.ensures.beside (keeps-last c.args.side (Some c.args.key) c.set_after.new.ends c.set_last.new.self c.args.turtle c.set_last.ensures)
