use Rattle.std.proofs.Common.{map}
use Rattle.std.specs.Bool.{IsTrue}
use Rattle.nl_value.specs.Views.{plain}
use Rattle.nl_agentset_query.specs.Inputs.{inputs_fit}
use Rattle.trial_query.proofs.giving.values_of.Given as goal

abbrev pub invariant-loop-input : goal.invariant-loop-input
invariant-loop-input g l = IsTrue (inputs_fit (g.S.Store.world l.tried.store).rest (map plain l.values.items))
