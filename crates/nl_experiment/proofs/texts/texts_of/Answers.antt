use Rattle.std.proofs.Common.{subst}
use Rattle.nl_tree.specs.Views.{plain}
use Rattle.nl_experiment.specs.Texts.{RefusesTexts, maybe_trees, metrics_from, texts_of}
use Rattle.nl_experiment.proofs.Lone.{refused_by, refused_metrics, refused_until, refused_when}
use Rattle.nl_experiment.proofs.texts.texts_of.Goals as goal

pub returns-in_err-until-clause-fault : goal.returns-in_err-until-clause-fault
returns-in_err-until-clause-fault c =
    let p = c.args.program.now in
    let f = c.args.fields.now in
    let refusal = c.in_err-until.field-0.0 in
    refused_by p (texts_of f) c.from_residual-in_err-until.result refusal c.from_residual-in_err-until.ensures.1
    (refused_until p f (plain c.in_ok-setup.setup) (plain c.in_ok-go.go) refusal c.in_ok-setup.ensures.tree c.in_ok-go.ensures.tree c.in_err-until.ensures.fault)

pub returns-in_err-measure_when-clause-fault : goal.returns-in_err-measure_when-clause-fault
returns-in_err-measure_when-clause-fault c =
    let p = c.args.program.now in
    let f = c.args.fields.now in
    let refusal = c.in_err-measure_when.field-0.0 in
    refused_by p (texts_of f) c.from_residual-in_err-measure_when.result refusal c.from_residual-in_err-measure_when.ensures.1
    (refused_when p f (plain c.in_ok-setup.setup) (plain c.in_ok-go.go) (maybe_trees c.in_ok-until.until) refusal c.in_ok-setup.ensures.tree c.in_ok-go.ensures.tree
    c.in_ok-until.ensures.trees c.in_err-measure_when.ensures.fault)

pub returns-in_err-metrics-clause-fault : goal.returns-in_err-metrics-clause-fault
returns-in_err-metrics-clause-fault c =
    let p = c.args.program.now in
    let f = c.args.fields.now in
    let refusal = c.in_err-metrics.field-0.0 in
    let bad = subst (λ ms. RefusesTexts p (metrics_from 1 ms) refusal) c.as_slice.ensures c.in_err-metrics.ensures.fault in
    refused_by p (texts_of f) c.from_residual-in_err-metrics.result refusal c.from_residual-in_err-metrics.ensures.1
    (refused_metrics p f (plain c.in_ok-setup.setup) (plain c.in_ok-go.go) (maybe_trees c.in_ok-until.until) (maybe_trees c.in_ok-measure_when.measure_when) refusal
    c.in_ok-setup.ensures.tree c.in_ok-go.ensures.tree c.in_ok-until.ensures.trees c.in_ok-measure_when.ensures.trees bad)
