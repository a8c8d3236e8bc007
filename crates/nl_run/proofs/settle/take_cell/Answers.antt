-- A text that is too large is an error at the metric's first word.
use Rattle.std.proofs.Common.{◌+◌, false, [], ◌∷◌, ◌++◌, ◌∙◌, sym, subst}
use Rattle.nl_value.specs.Text.{text_of}
use Rattle.nl_value.specs.Views.{plain}
use Rattle.nl_agents.specs.Names.{living_of}
use Rattle.nl_exec.specs.Machines.{world_of}
use Rattle.nl_run.specs.Course.{metric_name}
use Rattle.nl_run.specs.Left.{cells_from, stands}
use Rattle.nl_run.specs.Plans.{job_in, lone_seen}
use Rattle.nl_run.specs.inner.Cells.{CellOf}
use Rattle.nl_run.proofs.Stepping.{large_cell}
use Rattle.nl_run.proofs.settle.take_cell.Goals as goal

pub returns-in-None-clause-rest : goal.returns-in-None-clause-rest
returns-in-None-clause-rest g c = λ n.
    let now = c.args.progress.now in
    let whole = text_of (living_of (world_of now.machine).rest) false (plain c.args.value.now) in
    c.in_ok-end-in-None.ensures (stands now n)
    ∙ sym (large_cell (job_in c.args.plan.now) (metric_name (c.args.index + 1)) (lone_seen c.args.metric) (plain c.args.value.now) (stands now n)
    (λ cell s. cells_from (job_in c.args.plan.now) (c.args.index + 1) (c.args.cells ++ cell ∷ []) c.args.behind s)
    (subst (CellOf whole) c.in-None.is c.in_ok-cell_of.ensures))
