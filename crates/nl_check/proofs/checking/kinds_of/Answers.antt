use Rattle.std.proofs.Common.{sym, ap, subst, ◌∙◌, length}
use Rattle.nl_tree.specs.Vocabulary.{terms}
use Rattle.nl_check.specs.inner.Reach.{AreSettled}
use Rattle.nl_check.proofs.Graph.{own_length, list_inside, callers_many, callers_placed, left_there}
use Rattle.nl_check.proofs.Judged.{callee_there, if_ok}
use Rattle.nl_check.proofs.checking.kinds_of.Goals as goal

pub reversed-requires : goal.reversed-requires
reversed-requires c =
    let d = c.args.declared.now in
    let bodies = c.args.bodies.now in
    list_inside (terms d) bodies (callee_there d bodies c.requires.many) c.len.result c.in_ok-all.all.own.items c.as_slice.result.now c.len.ensures c.in_ok-all.ensures.own (c.as_slice.ensures.value ∙ c.in_ok-all.ensures.calls)

pub settle-requires-clause-many : goal.settle-requires-clause-many
settle-requires-clause-many c =
    let d = c.args.declared.now in
    let bodies = c.args.bodies.now in
    callers_many (terms d) bodies (callee_there d bodies c.requires.many) c.len.result c.in_ok-all.all.own.items c.as_slice.result.now c.len.ensures c.in_ok-all.ensures.own (c.as_slice.ensures.value ∙ c.in_ok-all.ensures.calls)
    c.as_slice-2.result.now (c.as_slice-2.ensures.value ∙ c.in_ok-callers.ensures)

pub settle-requires-clause-places : goal.settle-requires-clause-places
settle-requires-clause-places c =
    let d = c.args.declared.now in
    let bodies = c.args.bodies.now in
    callers_placed (terms d) bodies (callee_there d bodies c.requires.many) c.len.result c.in_ok-all.all.own.items c.as_slice.result.now c.len.ensures c.in_ok-all.ensures.own (c.as_slice.ensures.value ∙ c.in_ok-all.ensures.calls)
    c.as_slice-2.result.now (c.as_slice-2.ensures.value ∙ c.in_ok-callers.ensures)

pub returns : goal.returns
returns c =
    let d = c.args.declared.now in
    let bodies = c.args.bodies.now in
    let there = left_there (terms d) bodies (callee_there d bodies c.requires.many) c.len.result c.in_ok-all.all.own.items c.as_slice.result.now c.len.ensures c.in_ok-all.ensures.own (c.as_slice.ensures.value ∙ c.in_ok-all.ensures.calls)
    c.as_slice-2.result.now (c.as_slice-2.ensures.value ∙ c.in_ok-callers.ensures) in
    if_ok c.listed.result
    (λ ks is. record {
      names = c.requires.names;
      bodies_many = c.requires.many;
      kinds_many = ap length (is ∙ c.as_slice-3.ensures.value) ∙ c.in_ok-settled.ensures.many ∙ ap length c.in_ok-all.ensures.own ∙ own_length (terms d) bodies;
      left = there ks (subst (AreSettled c.in_ok-all.all.own.items c.as_slice-2.result.now) (sym (is ∙ c.as_slice-3.ensures.value)) c.in_ok-settled.ensures.settled);
    })
    c.listed.ensures
