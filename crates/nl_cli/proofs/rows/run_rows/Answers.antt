use Rattle.std.proofs.Common.{◌∙◌, ap}
use Rattle.nl_fixed.specs.Nouns.{Bytes}
use Rattle.nl_run.specs.Course.{rows_of}
use Rattle.nl_run.specs.Experiments.{job_by, trees_seen}
use Rattle.nl_cli.specs.inner.Stages.{job_in}
use Rattle.nl_cli.proofs.Heads.{last_of_run, text_of_run}
use Rattle.nl_cli.proofs.rows.run_rows.Goals as goal

pub returns-clause-text : goal.returns-clause-text
returns-clause-text g c =
    let job = c.args.job.now in
    let source = ap (λ (s : Bytes). job_by job.program s job.experiment (trees_seen job.texts) c.args.number) c.source-source.ensures in
    let rows = c.as_slice.ensures ∙ c.rows.ensures ∙ c.in_ok-finish.ensures.rows ∙ ap rows_of (c.in_ok-run.ensures.job ∙ source) in
    text_of_run (job_in job) c.args.number c.in_ok-head.head c.in_ok-head.ensures c.as_slice.result.now c.row_lines.result rows c.row_lines.ensures.text

pub returns-clause-last : goal.returns-clause-last
returns-clause-last g c =
    let job = c.args.job.now in
    let source = ap (λ (s : Bytes). job_by job.program s job.experiment (trees_seen job.texts) c.args.number) c.source-source.ensures in
    let rows = c.as_slice.ensures ∙ c.rows.ensures ∙ c.in_ok-finish.ensures.rows ∙ ap rows_of (c.in_ok-run.ensures.job ∙ source) in
    last_of_run (job_in job) c.args.number c.in_ok-head.head c.in_ok-head.ensures c.as_slice.result.now c.row_lines.result rows c.row_lines.ensures.last
