use Rattle.std.proofs.Common.{ℕ, ◌+◌, ◌++◌, ◌∙◌, length, ap}
use Rattle.std.specs.Prelude.{codes}
use Rattle.std.specs.Fmt.{decimal}
use Rattle.nl_fixed.specs.Nouns.{Bytes}
use Rattle.nl_cli.specs.Inputs.{runs_in}
use Rattle.nl_cli.specs.inner.Stages.{job_in, rows_among}
use Rattle.nl_cli.specs.Table.{run_numbers}
use Rattle.nl_cli.proofs.SummarySteps.{summary_is}
use Rattle.nl_cli.proofs.summary.summary.Goals as goal

pub returns : goal.returns
returns g c =
    let job = job_in c.args.job.now in
    let total = c.in_ok-total.total in
    let count = c.in_ok-total.ensures.bytes ∙ ap (λ (h : Bytes). length h + length (rows_among job (run_numbers job))) (c.as_bytes.ensures ∙ c.in_ok-header.ensures) in
    let front = ap (λ (runs : ℕ). codes "runs " ++ (decimal runs ++ (codes "\nbytes " ++ (decimal total.bytes ++ codes "\n")))) c.runs.ensures.count in
    let head = c.in_ok-text.ensures.ok ∙ c.as_bytes-2.ensures.value ∙ c.in_ok-head.ensures.ok ∙ front in
    summary_is c.args.model.now job total.bytes total.last c.append.new.self count c.in_ok-total.ensures.last
    (c.in_ok-append.ensures.ok ∙ ap (λ (t : Bytes). t ++ c.as_bytes-3.result.now) head
    ∙ ap (λ (l : Bytes). (codes "runs " ++ (decimal (runs_in job) ++ (codes "\nbytes " ++ (decimal total.bytes ++ codes "\n")))) ++ l) c.as_bytes-3.ensures)
