use Rattle.std.proofs.Common.{map}
use Rattle.nl_value.specs.Views.{plain}
use Rattle.nl_agentset_query.proofs.Fitting.{found_fits}
use Rattle.nl_agentset_query.proofs.inputs.fitting_at.Goals as goal

pub returns-clause-fit : goal.returns-clause-fit
returns-clause-fit g c =
    found_fits (g.S.Store.world c.args.store.now).rest (map plain c.args.inputs.now) c.args.at (λ value. plain value.now) c.value_at.result c.requires c.value_at.ensures
