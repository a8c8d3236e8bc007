use Rattle.std.proofs.Common.{◌+◌, ◌∙◌}
use Rattle.nl_cli.specs.Inputs.{run_of}
use Rattle.nl_cli.specs.inner.Stages.{job_in}
use Rattle.nl_cli.proofs.SummarySteps.{count_more, last_more}
use Rattle.nl_cli.proofs.summary.counted_runs.Goals as goal

pub runs-preserved : goal.runs-preserved
runs-preserved g c =
    let job = job_in c.args.job.now in (
      count_more job c.runs.done c.runs.bytes c.args.header c.in_ok-bytes.bytes c.as_bytes.result.now c.runs.invariant.0
          (c.as_bytes.ensures ∙ c.in_ok-rows.ensures.text) c.in_ok-bytes.ensures,
      c.in_ok-rows.ensures.last ∙ last_more job c.runs.done (c.rows_say_one_run.ensures.last (run_of job (c.runs.done + 1))),
    )
