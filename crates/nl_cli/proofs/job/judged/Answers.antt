use Rattle.std.proofs.Common.{Ok, Err, subst}
use Rattle.std.proofs.lemmas.Result.{err_from_is_err_and}
use Rattle.nl_fixed.specs.Nouns.{Bytes, Names}
use Rattle.nl_experiment.specs.Widgets.{widgets_of}
use Rattle.nl_cli.specs.declared.job.Job.{Job}
use Rattle.nl_cli.specs.inner.Stages.{ProgramSays}
use Rattle.nl_cli.proofs.GatherSteps.{all_judged, experiment_stops, model_stops, texts_stop}
use Rattle.nl_cli.proofs.job.judged.Goals as goal

pub returns-in_err-experiment : goal.returns-in_err-experiment
returns-in_err-experiment c =
    let p = err_from_is_err_and c.from_residual.result c.from_residual.ensures.1 in
    rw (p.1, p.2) (experiment_stops c.args.model.items c.args.experiment.now c.in_err-experiment.field-0.0 c.in_err-experiment.ensures)

pub returns-in_err-program : goal.returns-in_err-program
returns-in_err-program c =
    let p = err_from_is_err_and c.from_residual-in_err-program.result c.from_residual-in_err-program.ensures.1 in
    let P : Names → Type 0 = λ w. ProgramSays w c.as_slice.result.now (Err c.in_err-program.field-0.0) in
    let Q : Bytes → Type 0 = λ b. ProgramSays (widgets_of c.in_ok-experiment.experiment) b (Err c.in_err-program.field-0.0) in
    let says = subst Q c.as_slice.ensures.value (subst P c.widgets.ensures.names c.in_err-program.ensures) in
    rw (p.1, p.2) (model_stops c.args.model.items c.args.experiment.now c.in_ok-experiment.experiment c.in_err-program.field-0.0 c.in_ok-experiment.ensures says)

pub returns-in_err-texts : goal.returns-in_err-texts
returns-in_err-texts c =
    let p = err_from_is_err_and c.from_residual-in_err-texts.result c.from_residual-in_err-texts.ensures.1 in
    let P : Names → Type 0 = λ w. ProgramSays w c.as_slice.result.now (Ok c.in_ok-program.program) in
    let Q : Bytes → Type 0 = λ b. ProgramSays (widgets_of c.in_ok-experiment.experiment) b (Ok c.in_ok-program.program) in
    let verdict = subst Q c.as_slice.ensures.value (subst P c.widgets.ensures.names c.in_ok-program.ensures) in
    rw (p.1, p.2) (texts_stop c.args.model.items c.args.experiment.now c.in_ok-experiment.experiment c.in_ok-program.program c.in_err-texts.field-0.0 c.in_ok-experiment.ensures verdict c.in_err-texts.ensures)

pub returns : goal.returns
returns c =
    let P : Names → Type 0 = λ w. ProgramSays w c.as_slice.result.now (Ok c.in_ok-program.program) in
    let Q : Bytes → Type 0 = λ b. ProgramSays (widgets_of c.in_ok-experiment.experiment) b (Ok c.in_ok-program.program) in
    let verdict = subst Q c.as_slice.ensures.value (subst P c.widgets.ensures.names c.in_ok-program.ensures) in
    let job : Job = record { model = c.args.model; experiment = c.in_ok-experiment.experiment; program = c.in_ok-program.program; texts = c.in_ok-texts.texts } in
    all_judged c.args.experiment.now job c.in_ok-experiment.ensures verdict c.in_ok-texts.ensures.0 c.in_ok-texts.ensures.1.0 c.in_ok-texts.ensures.1.1
