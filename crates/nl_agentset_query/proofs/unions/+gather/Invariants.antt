-- What is gathered of the values that are left, behind what is gathered; each call is on less of the value.
use Rattle.std.proofs.Common.{◌≡◌, ◌≤◌, ◌+◌, map}
use Rattle.nl_value.specs.Plain.{plains}
use Rattle.nl_value.specs.inner.Weights.{weight, weights}
use Rattle.nl_value.specs.Views.{plain}
use Rattle.nl_agentset_query.proofs.Uniting.{behind, rest_of, reads_left}
use Rattle.nl_agentset_query.proofs.unions.+gather.Given as goal

abbrev pub decreases-gather : goal.decreases-gather
decreases-gather g l = weight (plain l.value.now)

abbrev pub decreases-gather_all : goal.decreases-gather_all
decreases-gather_all g l = 1 + weights (plains (map plain l.values.now))

abbrev pub invariant-gather_all-loop-value : goal.invariant-gather_all-loop-value
invariant-gather_all-loop-value g l =
    let r = (g.S.Store.world l.store).rest in
    (behind l.fn.into.items (rest_of r l.kind l.values 0) ≡ behind l.into.items (rest_of r l.kind l.values l.value-index))
    × (l.steps + reads_left r l.values l.value-index ≤ l.fn.steps + reads_left r l.values 0)
