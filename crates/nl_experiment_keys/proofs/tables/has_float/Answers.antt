use Rattle.std.proofs.Common.{sym, ◌∙◌}
use Rattle.toml.specs.View.{items_view, view}
use Rattle.nl_experiment_keys.specs.Reading.{has_float}
use Rattle.nl_experiment_keys.proofs.Walks.{float_here, float_is, float_none, float_passed}
use Rattle.nl_experiment_keys.proofs.tables.has_float.Goals as goal

pub returns-then-is_float : goal.returns-then-is_float
returns-then-is_float c =
    float_here c.items.left.now c.in-Some.value.now c.in-Some.behind.now (has_float (items_view c.args.items.now)) c.in-Some.ensures.cases.0 c.items.invariant
    (sym (float_is (view c.in-Some.value.now)) ∙ sym c.is_float.ensures ∙ c.if-is_float.true)

pub items-preserved : goal.items-preserved
items-preserved c =
    float_passed c.items.left.now c.in-Some.value.now c.in-Some.behind.now (has_float (items_view c.args.items.now)) c.in-Some.ensures.cases.0 c.items.invariant
    (sym (float_is (view c.in-Some.value.now)) ∙ sym c.is_float.ensures ∙ c.if-is_float.false)

pub returns : goal.returns
returns c = float_none c.items.left.now (has_float (items_view c.args.items.now)) c.in_default.ensures.cases c.items.invariant
