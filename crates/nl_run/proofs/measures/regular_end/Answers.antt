-- The metrics are measured at the end where no condition tells when they are.
use Rattle.std.proofs.Common.{◌≡◌, ℕ, ap, ◌∙◌}
use Rattle.std.specs.Prelude.{Option}
use Rattle.nl_fixed.specs.Nouns.{Texts}
use Rattle.nl_run.specs.Course.{ends_as, ends_by}
use Rattle.nl_run.specs.Job.{Lone}
use Rattle.nl_run.specs.Left.{cells_from, end_of, rest_by, stands}
use Rattle.nl_run.specs.Plans.{job_in}
use Rattle.nl_run.specs.declared.phase.Behind.TheVariants.{End}
use Rattle.nl_run.specs.declared.rows.RunEnd.{RunEnd}
use Rattle.nl_run.proofs.Stepping.{if_ok}
use Rattle.nl_run.proofs.measures.regular_end.Goals as goal

pub returns-in_default-clause-rest : goal.returns-in_default-clause-rest
returns-in_default-clause-rest g c =
    let j = job_in c.args.plan.now in
    let now = c.args.progress.now in
    let how = end_of c.args.end in
    if_ok (λ phase. (n : ℕ) → rest_by phase j c.next_metric.new.progress n ≡ cells_from j 0 c.empty-cells.result (End c.args.end) (stands now n))
    (λ phase. (n : ℕ) → rest_by phase j c.next_metric.new.progress n ≡ ends_by j.when how j (stands now n)) c.next_metric.result c.next_metric.ensures.rest
    (λ phase same n.
    same n ∙ ap (λ (cells : Texts). cells_from j 0 cells (End c.args.end) (stands now n)) c.empty-cells.ensures
    ∙ ap (λ (o : Option Lone). ends_by o how j (stands now n)) c.in_default.ensures)

pub returns-clause-rest : goal.returns-clause-rest
returns-clause-rest g c = λ n.
    let j = job_in c.args.plan.now in
    ap (λ (how : RunEnd). ends_as how (stands c.args.progress.now n)) c.end_of.ensures
    ∙ ap (λ (o : Option Lone). ends_by o (end_of c.args.end) j (stands c.args.progress.now n)) c.in-Some.ensures
