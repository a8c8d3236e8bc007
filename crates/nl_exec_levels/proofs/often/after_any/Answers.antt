-- What is next is what the frame means.
use Rattle.nl_exec_meaning.specs.Frames.{resumed}
use Rattle.nl_exec_meaning.specs.Seen.{ended}
use Rattle.nl_exec_levels.proofs.Following.{comes_to}
use Rattle.nl_exec_levels.proofs.often.after_any.Goals as goal

pub returns-clause-rest : goal.returns-clause-rest
returns-clause-rest g c =
    let code = c.args.code.now in
    comes_to code c.args.levels.now.items c.args.node (λ prev s. resumed code prev (c.args.frame) (ended c.args.exit s))
    c.follow.new.levels.items c.in_ok-focus.focus c.in_ok-next.next c.resume.new.hands c.args.hands.now
    c.in_ok-focus.ensures.rest c.in_ok-next.ensures.meaning
