-- The distance is had at once, and is that of at most one step.
use Rattle.std.proofs.Common.{◌+◌, ◌/◌, ◌%◌, ℤ, Option, unsigned_abs, refl, ap, ◌∙◌, sym}
use Rattle.nl_fixed.specs.Numbers.{one}
use Rattle.nl_value.specs.Plain.{Plain}
use Rattle.nl_tree.specs.Tree.{Node, span}
use Rattle.nl_agents.specs.declared.agents.Owner.{Owner}
use Rattle.nl_exec_meaning.specs.Code.{node_at}
use Rattle.nl_exec_acts.specs.Acts.{turtle_in}
use Rattle.nl_exec_acts.specs.declared.fail.ErrorKind.TheVariants.{WrongType}
use Rattle.nl_exec_meaning.specs.Frames.{way_of}
use Rattle.nl_exec_meaning.specs.Seen.{state_of}
use Rattle.nl_exec_meaning.specs.Meaning.{evaluator}
use Rattle.nl_exec_meaning.specs.Running.{staying}
use Rattle.nl_exec_meaning.specs.State.{State, Outcome, come_to, found, with_number, ◌>>=◌}
use Rattle.nl_exec_meaning.specs.Steps.{steps, walked}
use Rattle.nl_exec_at_once.proofs.Stepping.{one_step}
use Rattle.nl_exec_at_once.proofs.walking.walk.Goals as goal

pub returns-clause-done : goal.returns-clause-done
returns-clause-done g c = λ done room n enough.
    let code = c.args.code.now in
    let t = node_at code c.args.node in
    let place = span t in
    let prev = evaluator code.program room in
    let s = state_of code.names c.args.hands.now (c.args.units.now + n) in
    let number = c.in-Some-number.number in
    let by = c.ahead-by.result in
    let walk = λ (value : Plain) (s1 : State). staying c.args.runs s1 (with_number value place s1 (λ count. walked (way_of c.args.back count) place s1)) in
    ap (λ (o : Option Node). found o WrongType place s (λ part. prev part s >>= walk)) (sym c.in-Some.ensures.value)
    ∙ ap (λ (o : Outcome). o >>= walk) (c.in-Some-number.ensures room (c.args.units.now + n) enough)
    ∙ c.if-not-lives_and_may_run.ensures.stays refl code (c.args.units.now + n) (walked (way_of c.args.back number) place s)
    ∙ ap (λ (x : ℤ). walked x place s) (sym c.ahead-by.ensures)
    ∙ ap (λ (a : Owner). come_to (turtle_in a) place s (λ turtle. steps (unsigned_abs by / one) turtle (unsigned_abs by % one) by place s)) c.in-Turtle.is
    ∙ one_step by (c.if-not-is_within_one_step.ensures.some refl) (c.if-not-is_within_one_step.ensures.most refl) c.in-Turtle.turtle place s
    ∙ c.step_once.ensures.done done code place n
