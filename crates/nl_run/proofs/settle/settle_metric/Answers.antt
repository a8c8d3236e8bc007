-- The value fits the world, and stands where the stream was put back.
use Rattle.std.proofs.Common.{◌+◌, IsTrue, Result, [], ◌∷◌, ◌++◌, ap, ◌∙◌, sym, subst}
use Rattle.nl_fixed.specs.Nouns.{Bytes}
use Rattle.nl_value.specs.Plain.{Plain}
use Rattle.nl_value.specs.Views.{plain}
use Rattle.nl_value.specs.declared.values.Value.{Value}
use Rattle.nl_exec_acts.specs.Stage.{Scene}
use Rattle.nl_exec_meaning.specs.Ground.{fits, ground_of}
use Rattle.nl_exec.specs.Machines.{world_of}
use Rattle.nl_run.specs.Course.{Standing, metric_name, put_back, with_cell}
use Rattle.nl_run.specs.Left.{cells_from, standing, stands}
use Rattle.nl_run.specs.Plans.{job_in, lone_seen}
use Rattle.nl_run.specs.declared.rows.RunEnd.{RunEnd}
use Rattle.nl_run.specs.inner.Cells.{GivesValue, value_or_ends}
use Rattle.nl_run.proofs.settle.settle_metric.Goals as goal

pub take_cell-requires-clause-fits : goal.take_cell-requires-clause-fits
take_cell-requires-clause-fits g c =
    let ground = ground_of (world_of c.args.progress.now.machine).rest in
    subst (λ (s : Scene). IsTrue (fits (ground_of s.world.rest) (plain c.in-Ok.value))) (sym c.put_back.ensures.stream)
    (subst (GivesValue ground) c.in-Ok.is (c.in_ok-how.ensures.fits ground c.requires.fits))

pub returns-in_ok-phase-in-Ok-clause-rest : goal.returns-in_ok-phase-in-Ok-clause-rest
returns-in_ok-phase-in-Ok-clause-rest g c = λ n.
    let j = job_in c.args.plan.now in
    let now = c.args.progress.now in
    let at = c.args.measuring in
    let l = lone_seen at.metric in
    let next = λ (cell : Bytes) (s : Standing). cells_from j (at.index + 1) (at.cells ++ cell ∷ []) at.behind s in
    let judged = λ (v : Plain) (s : Standing). with_cell j (metric_name (at.index + 1)) l v (put_back at.mark s) next in
    c.in_ok-phase-in-Ok.ensures.rest n
    ∙ ap (λ (s : Scene). with_cell j (metric_name (at.index + 1)) l (plain c.in-Ok.value) (standing s n now.step now.rows) next) c.put_back.ensures.stream
    ∙ ap (λ (r : Result Value RunEnd). value_or_ends r (stands now n) judged) (sym c.in-Ok.is)
    ∙ c.in_ok-how.ensures.value (stands now n) judged
