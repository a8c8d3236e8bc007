use Rattle.std.proofs.Common.{arith, refl, ap, sym, ◌∙◌, length}
use Rattle.std.proofs.lemmas.Bool.{false≢true}
use Rattle.std.proofs.lemmas.List.{length-map}
use Rattle.nl_value.proofs.Sameness.{lengths_differ, lists_seen, rest_alike-end, rest_differs, rest_goes_on, item_fits, item_without}
use Rattle.nl_value.proofs.Weighing.{item_weighs}
use Rattle.nl_value.proofs.equality.+same.Goals as goal

pub same_items-returns-then-len-clause-same : goal.same_items-returns-then-len-clause-same
same_items-returns-then-len-clause-same g t c =
    sym (lengths_differ (g.L.Life.living c.args.life.now) c.args.items.now c.args.others.now
    (λ e. c.if-len.true (omega (arith, simp length-map at (ap length c.items.view_is), simp length-map at (ap length c.others.view_is)))))

pub same_items-loop-i-init : goal.same_items-loop-i-init
same_items-loop-i-init g t c = (omega arith, refl)

pub same_items-same-requires : goal.same_items-same-requires
same_items-same-requires g t c =
    let w = g.L.Life.living c.args.life.now in
    let first = item_fits w c.items.inside.list.items c.args.items.now c.loop-i.i c.item-item.result c.items.view_is (omega arith) (rw (← c.deref-item-items.ensures.value) c.item-item.is) c.requires.first in
    let second = item_fits w c.others.inside.list.items c.args.others.now c.loop-i.i c.index.result.now c.others.view_is (omega arith) c.index.ensures c.requires.second in
    let less = item_weighs c.items.inside.list.items c.args.items.now c.loop-i.i c.item-item.result c.items.view_is (omega arith) (rw (← c.deref-item-items.ensures.value) c.item-item.is) in
    λ κs q. (omega (arith, less, c.decreases), (q, (first, second)))

pub same_items-returns-then-not-branch-clause-same : goal.same_items-returns-then-not-branch-clause-same
same_items-returns-then-not-branch-clause-same g t c =
    let w = g.L.Life.living c.args.life.now in
    let differs = rest_differs w c.deref-item-items.result.now c.others.inside.list.items c.loop-i.i c.item-item.result c.index.result.now c.loop-i-test.true (omega arith) c.item-item.is c.index.ensures (sym c.in_ok-same.ensures.same ∙ c.if-not-branch.true) in
    sym (sym (lists_seen w c.deref-item-items.result.now c.others.inside.list.items c.args.items.now c.args.others.now (rw c.deref-item-items.ensures.value c.items.view_is) c.others.view_is) ∙ c.loop-i.invariant.1 ∙ differs)

pub same_items-loop-i-preserved : goal.same_items-loop-i-preserved
same_items-loop-i-preserved g t c =
    let w = g.L.Life.living c.args.life.now in
    let goes_on = rest_goes_on w c.deref-item-items.result.now c.others.inside.list.items c.loop-i.i c.item-item.result c.index.result.now c.loop-i-test.true (omega arith) c.item-item.is c.index.ensures (sym c.in_ok-same.ensures.same ∙ c.if-not-branch.false) in
    (c.loop-i.invariant.0, c.loop-i.invariant.1 ∙ goes_on)

pub same_items-returns-clause-same : goal.same_items-returns-clause-same
same_items-returns-clause-same g t c =
    let w = g.L.Life.living c.args.life.now in
    let end = rest_alike-end w c.deref-item-items.result.now c.others.inside.list.items c.loop-i.i (omega arith) (omega arith) in
    sym (sym (lists_seen w c.deref-item-items.result.now c.others.inside.list.items c.args.items.now c.args.others.now (rw c.deref-item-items.ensures.value c.items.view_is) c.others.view_is) ∙ c.loop-i.invariant.1 ∙ end)

pub same_items-returns-in_err-same-clause-without : goal.same_items-returns-in_err-same-clause-without
same_items-returns-in_err-same-clause-without g t c h =
    absurd (false≢true (c.in_err-same.ensures.without (item_without c.items.inside.list.items c.args.items.now c.loop-i.i c.item-item.result c.items.view_is (omega arith) (rw (← c.deref-item-items.ensures.value) c.item-item.is) h)))
