use Rattle.std.proofs.Common.{sym, ap, ◌∙◌, ◌≡◌, Some, None, true, if◌then◌else◌}
use Rattle.nl_value.specs.Views.{plain}
use Rattle.nl_listops_series.specs.Sorts.{agent_kind, first_kind, is_agent_kind}
use Rattle.nl_listops_series.proofs.Walks.{none_more, first_given}
use Rattle.nl_listops_series.proofs.sorts.first_agent_kind.Goals as goal

pub returns-then-is_agent_kind : goal.returns-then-is_agent_kind
returns-then-is_agent_kind g c =
    let w = g.L.Life.living c.args.life.now in
    let kind = c.order_kind-kind.result in
    let told : is_agent_kind kind ≡ true = sym c.if-is_agent_kind.ensures in
    let given : agent_kind w (plain c.value-item.result) ≡ Some kind =
    ap (λ k. if is_agent_kind k then Some k else None) (sym c.order_kind-kind.ensures) ∙ ap (λ b. if b then Some kind else None) told in
    let first = first_given plain (agent_kind w) c.args.values.now c.loop-value.value-index c.value-item.result kind c.loop-value-test.true c.value-item.is c.loop-value.invariant given in
    sym (ap first_kind first.1)

pub loop-value-preserved : goal.loop-value-preserved
loop-value-preserved g c =
    let w = g.L.Life.living c.args.life.now in
    let kind = c.order_kind-kind.result in
    let none : agent_kind w (plain c.value-item.result) ≡ None =
    ap (λ k. if is_agent_kind k then Some k else None) (sym c.order_kind-kind.ensures) ∙ ap (λ b. if b then Some kind else None) (sym c.if-is_agent_kind.ensures) in
    none_more plain (agent_kind w) c.args.values.now c.loop-value.value-index c.value-item.result c.loop-value-test.true c.value-item.is none ∙ c.loop-value.invariant
