use Rattle.std.proofs.Common.{sym, subst}
use Rattle.std.proofs.lemmas.List.Elements.{All-cons, All-nil}
use Rattle.std.proofs.lemmas.List.{nil_from_length}
use Rattle.nl_experiment_sweep.specs.Varied.{AllHaveValues, HasValues}
use Rattle.nl_experiment_sweep.specs.declared.varied.Vary.{Vary}
use Rattle.nl_experiment_sweep.proofs.tests.all_have_values.Goals as goal

pub varied-preserved : goal.varied-preserved
varied-preserved c = λ rest.
    c.varied.invariant (subst AllHaveValues (sym c.in-Some.ensures.cases.0)
    (All-cons (λ (v : Vary). HasValues v.choice) c.in-Some.vary.now c.in-Some.behind.now (c.has_values.ensures c.if-not-has_values.false) rest))

pub returns : goal.returns
returns c = λ yes. c.varied.invariant (subst AllHaveValues (sym (nil_from_length c.varied.left.now c.in_default.ensures.cases)) (All-nil (λ (v : Vary). HasValues v.choice)))
