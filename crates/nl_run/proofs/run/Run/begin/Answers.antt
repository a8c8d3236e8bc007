-- What is left of a run that begins is its whole course.
use Rattle.std.proofs.Common.{◌≡◌, ◌+◌, ap, ◌∙◌, arith}
use Rattle.nl_exec.specs.Machines.{spent_of}
use Rattle.nl_run.specs.Course.{course_within}
use Rattle.nl_run.specs.Plans.{job_in}
use Rattle.nl_run.proofs.run.Run.begin.Goals as goal

pub invariant_of-result : goal.invariant_of-result
invariant_of-result g c = record {
  ready = λ going. c.in_ok-progress.ensures.ready;
  budget = λ going. omega (arith, c.in_ok-progress.ensures.spent, c.in_ok-progress.ensures.left);
  course = λ going n.
      (let all : n ≡ spent_of c.in_ok-progress.progress.machine + n = omega (arith, c.in_ok-progress.ensures.spent) in
      c.in_ok-progress.ensures.rest n ∙ ap (course_within (job_in c.args.plan)) all);
}
