-- What stands in the way of the share, one after another.
use Rattle.std.proofs.Common.{◌≡◌, ◌⊎◌, inl, inr, ℤ, Option, Some, ap, ◌∙◌, sym}
use Rattle.nl_fixed.specs.declared.span.Span.{Span}
use Rattle.nl_value.specs.Views.{plain}
use Rattle.nl_tree.specs.Tree.{span}
use Rattle.nl_agents.specs.World.{World}
use Rattle.nl_motion.specs.Diffusion.{diffuse_fault, diffused}
use Rattle.nl_motion.specs.declared.faults.MoveFault.{MoveFault}
use Rattle.nl_motion.specs.declared.faults.MoveFault.TheVariants as motion
use Rattle.nl_exec_acts.specs.declared.fail.ErrorKind.TheVariants.{WrongType}
use Rattle.nl_exec_acts.specs.Fails.{error_of_motion}
use Rattle.nl_exec_acts.specs.Stage.{bare, changed}
use Rattle.nl_exec_meaning.specs.Code.{node_at}
use Rattle.nl_exec_meaning.specs.State.{fails, found, goes_on, with_number, with_stage, with_world, rest_of}
use Rattle.nl_exec_meaning.specs.Meaning.{unless}
use Rattle.nl_exec_meaning.specs.Frames.{resumed}
use Rattle.nl_exec_meaning.specs.Means.{unless_ended}
use Rattle.nl_exec_meaning.specs.Seen.{ended, state_of}
use Rattle.nl_exec_meaning.specs.declared.exits.Exit.{Exit}
use Rattle.nl_exec_meaning.specs.declared.frames.Frame.TheVariants as frame
use Rattle.nl_exec_cases.proofs.Sharing.{fault_bare}
use Rattle.nl_exec_cases.proofs.moving.resume_share.Goals as goal

pub returns-in-Ok-clause-meaning : goal.returns-in-Ok-clause-meaning
returns-in-Ok-clause-meaning g c = λ prev units thrifty.
    let code = c.args.code.now in
    let hands = c.args.hands.now in
    let w = g.S.Store.world hands.stage.store in
    let s = state_of code.names hands units in
    let place = span (node_at code c.args.node) in
    let share = c.in-Some-number_of.share in
    let done = λ (count : ℤ). goes_on (with_stage (changed (diffused c.args.slot count c.args.four) s.stage) s) in
    let next = λ (count : ℤ). unless (diffuse_fault c.args.slot count c.args.four (bare (rest_of s))) place s (done count) in
    let taken = with_number (plain c.in-Gives.value) place s next in
    ap (λ (x : World). goes_on (with_world x s)) c.in-Ok.ensures.world
    ∙ sym (ap (λ (f : Option MoveFault). unless f place s (done share)) (fault_bare c.args.slot share c.args.four w ∙ c.in-Ok.ensures.cause))
    ∙ sym (c.number_of.ensures place s next ∙ ap (λ (o : Option ℤ). found o WrongType place s next) c.in-Some-number_of.is)
    ∙ sym (c.left.ensures.ends code units taken ∙ ap (λ (o : Option Exit). unless_ended o s taken) c.in_default-left.is)
    ∙ sym (ap (λ (e : Exit). resumed code prev (frame.Share c.args.node c.args.runs c.args.slot c.args.four) (ended e s)) c.in-Gives.is)

only : (cause : Option MoveFault) (why : MoveFault) → (why ≡ motion.NoMemory) ⊎ (cause ≡ Some why) → (why ≡ motion.NoMemory → ⊥) → cause ≡ Some why
only cause why (inl none) other = absurd (other none)
only cause why (inr is) other = is

pub returns-in_ok-exit-in-Err-clause-meaning : goal.returns-in_ok-exit-in-Err-clause-meaning
returns-in_ok-exit-in-Err-clause-meaning g c = λ prev units thrifty.
    let code = c.args.code.now in
    let hands = c.args.hands.now in
    let w = g.S.Store.world hands.stage.store in
    let s = state_of code.names hands units in
    let place = span (node_at code c.args.node) in
    let share = c.in-Some-number_of.share in
    let done = λ (count : ℤ). goes_on (with_stage (changed (diffused c.args.slot count c.args.four) s.stage) s) in
    let next = λ (count : ℤ). unless (diffuse_fault c.args.slot count c.args.four (bare (rest_of s))) place s (done count) in
    let taken = with_number (plain c.in-Gives.value) place s next in
    let cause = only _ c.in-Err.why c.in-Err.ensures.cause c.in_ok-exit-in-Err.ensures.reason in
    ap (λ (x : World). ended c.in_ok-exit-in-Err.exit (with_world x s)) c.in-Err.ensures.kept
    ∙ ap (λ (e : Exit). ended e s) c.in_ok-exit-in-Err.ensures.error
    ∙ ap (λ (p : Span). fails (error_of_motion c.in-Err.why) p s) c.span-in-Err.ensures
    ∙ sym (ap (λ (f : Option MoveFault). unless f place s (done share)) (fault_bare c.args.slot share c.args.four w ∙ cause))
    ∙ sym (c.number_of.ensures place s next ∙ ap (λ (o : Option ℤ). found o WrongType place s next) c.in-Some-number_of.is)
    ∙ sym (c.left.ensures.ends code units taken ∙ ap (λ (o : Option Exit). unless_ended o s taken) c.in_default-left.is)
    ∙ sym (ap (λ (e : Exit). resumed code prev (frame.Share c.args.node c.args.runs c.args.slot c.args.four) (ended e s)) c.in-Gives.is)
