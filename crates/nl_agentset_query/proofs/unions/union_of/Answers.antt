use Rattle.std.proofs.Common.{map, ap, sym, ◌∙◌}
use Rattle.nl_value.specs.Plain.{PlainSet, plains}
use Rattle.nl_value.specs.Views.{plain}
use Rattle.std.specs.Prelude.{Ok}
use Rattle.nl_agentset_query.proofs.Fitting.{list_fits_as_items}
use Rattle.nl_agentset_query.proofs.United.{union_is}
use Rattle.nl_agentset_query.proofs.unions.union_of.Goals as goal

pub returns-clause-answer : goal.returns-clause-answer
returns-clause-answer g c =
    let w = g.S.Store.world c.args.store.now in
    let values = map plain c.args.values.now in
    union_is w c.shape-stands.ensures.stands c.args.kind (plains values) c.new-found.result.items c.gather_all.new.into.items c.in_order.result
    (sym (list_fits_as_items w.rest values) ∙ c.requires) c.new-found.ensures.items c.in_ok-gather_all.ensures.gathered c.in_order.ensures.same c.in_order.ensures.ascending
    ∙ ap (λ set. Ok (PlainSet set)) (sym c.listed.ensures) ∙ ap Ok (sym c.in_ok-set.ensures)
