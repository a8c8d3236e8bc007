use Rattle.std.proofs.Common.{◌∙◌, sym, subst, map, arith, true, false}
use Rattle.nl_value.specs.Views.{plain}
use Rattle.nl_listops_series.proofs.Walks.{mapped_below}
use Rattle.nl_listops_series.proofs.FirstPlaces.{Leads, same_there, leads_below, leads_there, leads_on, leads_ended}
use Rattle.nl_listops_series.proofs.firsts.first_place.Goals as goal

pub returns-then-branch : goal.returns-then-branch
returns-then-branch g c =
    let w = g.L.Life.living c.args.life.now in
    let values = c.args.values.now in
    let leads = subst (Leads w (map plain values) c.args.place) c.in-Some.is c.loop-candidate.invariant in
    let before = leads_below w (c.equality_is_an_equivalence.ensures w) (map plain values) c.args.place c.in-Some.other leads in
    let same = same_there w values c.args.place c.in-Some.other c.index-values-place.result c.index-values-other.result true c.requires.inside (omega (arith, before, c.requires.inside))
    c.index-values-place.is c.index-values-other.is (sym c.in_ok-same.ensures.same ∙ c.if-branch.true) in
    leads_there w (c.equality_is_an_equivalence.ensures w) (map plain values) c.args.place c.in-Some.other leads same

pub loop-candidate-preserved : goal.loop-candidate-preserved
loop-candidate-preserved g c =
    let w = g.L.Life.living c.args.life.now in
    let values = c.args.values.now in
    let leads = subst (Leads w (map plain values) c.args.place) c.in-Some.is c.loop-candidate.invariant in
    let before = leads_below w (c.equality_is_an_equivalence.ensures w) (map plain values) c.args.place c.in-Some.other leads in
    let differs = same_there w values c.args.place c.in-Some.other c.index-values-place.result c.index-values-other.result false c.requires.inside (omega (arith, before, c.requires.inside))
    c.index-values-place.is c.index-values-other.is (sym c.in_ok-same.ensures.same ∙ c.if-branch.false) in
    leads_on w (c.equality_is_an_equivalence.ensures w) (map plain values) c.args.place c.in-Some.other c.args.earlier.now (mapped_below plain values c.args.place c.requires.inside) c.requires.chained leads differs

pub returns : goal.returns
returns g c =
    let w = g.L.Life.living c.args.life.now in
    let values = c.args.values.now in
    leads_ended w (c.equality_is_an_equivalence.ensures w) (map plain values) c.args.place c.loop-candidate.candidate (mapped_below plain values c.args.place c.requires.inside) c.in_default.not-Some c.loop-candidate.invariant
