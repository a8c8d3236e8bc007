-- The truth is that of the value, wherever the stream stands.
use Rattle.std.proofs.Common.{Bool, Result, ap, ◌∙◌, sym}
use Rattle.std.specs.Prelude.{Option}
use Rattle.nl_value.specs.Plain.{Plain}
use Rattle.nl_value.specs.Views.{plain}
use Rattle.nl_value.specs.declared.values.Value.{Value}
use Rattle.nl_run.specs.Calls.{called_name}
use Rattle.nl_run.specs.Course.{Standing, put_back, truth_by}
use Rattle.nl_run.specs.Plans.{job_in, lone_seen}
use Rattle.nl_run.specs.declared.rows.RunEnd.{RunEnd}
use Rattle.nl_run.specs.inner.Cells.{truth_or, value_or_ends}
use Rattle.nl_run.proofs.Stepping.{truth_same}
use Rattle.nl_run.proofs.settle.truth_end.Goals as goal

pub returns-in_ok-judged-in-Ok : goal.returns-in_ok-judged-in-Ok
returns-in_ok-judged-in-Ok c = λ mark s next.
    let j = job_in c.args.plan.now in
    let called = called_name c.args.called in
    let l = lone_seen c.args.text in
    let judged = λ (v : Plain) (s1 : Standing). truth_by j called l v (put_back mark s1) next in
    c.in_ok-judged-in-Ok.ensures (put_back mark s) next
    ∙ ap (λ (t : Option Bool). truth_or t j called l (put_back mark s) next) c.truth_in.ensures
    ∙ truth_same j called l (plain c.in-Ok.value) (put_back mark s) next
    ∙ ap (λ (r : Result Value RunEnd). value_or_ends r s judged) (sym c.in-Ok.is)
    ∙ c.in_ok-how.ensures.value s judged
