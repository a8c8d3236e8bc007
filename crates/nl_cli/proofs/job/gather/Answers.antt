use Rattle.std.proofs.Common.{subst}
use Rattle.std.proofs.lemmas.Result.{err_from_is_err_and}
use Rattle.nl_fixed.specs.Nouns.{Bytes}
use Rattle.nl_cli.specs.Outcome.{asked}
use Rattle.nl_cli.specs.Words.{paths_in}
use Rattle.nl_cli.specs.inner.Stages.{Judges}
use Rattle.nl_cli.proofs.GatherSteps.{Got-same, all_read_then, experiment_read_stops, model_read_stops, read_gathers}
use Rattle.nl_cli.proofs.job.gather.Goals as goal

pub returns-in_err-model : goal.returns-in_err-model
returns-in_err-model g c =
    let p = err_from_is_err_and c.from_residual.result c.from_residual.ensures.1 in
    let files = asked g.F.Files.faults g.F.Files.last_fault g.F.Files.folder c.args.files.now c.read_input.new.files in
    rw (p.1, p.2) (model_read_stops (paths_in c.args.paths.now) files c.in_err-model.field-0.0 c.in_err-model.ensures.outcome)

pub returns-in_err-experiment : goal.returns-in_err-experiment
returns-in_err-experiment g c =
    let p = err_from_is_err_and c.from_residual-in_err-experiment.result c.from_residual-in_err-experiment.ensures.1 in
    let paths = paths_in c.args.paths.now in
    rw (p.1, p.2) (experiment_read_stops g.F.Files.faults g.F.Files.last_fault g.F.Files.folder c.args.files.now c.read_input.new.files c.read_input-2.new.files paths
    c.in_ok-model.model.items c.in_err-experiment.field-0.0 c.in_ok-model.ensures.outcome.0 c.in_ok-model.ensures.outcome.2 c.in_err-experiment.ensures.outcome)

pub returns : goal.returns
returns g c =
    let paths = paths_in c.args.paths.now in
    let f = g.F.Files.faults in
    let l = g.F.Files.last_fault in
    let k = g.F.Files.folder in
    let files = asked f l k c.args.files.now c.read_input-2.new.files in
    let all = all_read_then f l k c.args.files.now c.read_input.new.files c.read_input-2.new.files c.in_ok-model.ensures.outcome.0 c.in_ok-experiment.ensures.outcome.0 in
    let got = Got-same paths.experiment (k c.read_input.new.files) (k c.args.files.now) c.in_ok-experiment.experiment.items c.in_ok-model.ensures.same_folder c.in_ok-experiment.ensures.outcome.2 in
    let P : Bytes → Type 0 = λ text. Judges c.in_ok-model.model.items text c.judged.result in
    read_gathers paths files c.in_ok-model.model.items c.in_ok-experiment.experiment.items c.judged.result all
    c.in_ok-model.ensures.outcome.2 got (subst P c.as_slice.ensures.value c.judged.ensures)
