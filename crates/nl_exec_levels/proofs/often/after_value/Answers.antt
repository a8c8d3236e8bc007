-- The variable has the value.
use Rattle.nl_exec_meaning.specs.Frames.{resumed}
use Rattle.nl_exec_meaning.specs.Seen.{ended}
use Rattle.nl_exec_meaning.specs.declared.frames.Frame.TheVariants as frame
use Rattle.nl_exec_levels.proofs.Following.{comes_to}
use Rattle.nl_exec_levels.proofs.often.after_value.Goals as goal

pub returns-clause-rest : goal.returns-clause-rest
returns-clause-rest g c =
    let code = c.args.code.now in
    comes_to code c.args.levels.now.items c.args.node (λ prev s. resumed code prev (frame.SetValue c.args.word c.args.variable) (ended c.args.exit s))
    c.follow.new.levels.items c.in_ok-focus.focus c.resume_set-next.result c.resume_set-next.new.hands c.args.hands.now
    c.in_ok-focus.ensures.rest c.resume_set-next.ensures.meaning
