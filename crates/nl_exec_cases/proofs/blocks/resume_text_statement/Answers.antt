-- The block is left.
use Rattle.std.proofs.Common.{ap, ◌∙◌, sym}
use Rattle.nl_exec_meaning.specs.State.{State}
use Rattle.nl_exec_meaning.specs.Frames.{resumed}
use Rattle.nl_exec_meaning.specs.Seen.{ended, state_of}
use Rattle.nl_exec_meaning.specs.declared.exits.Exit.{Exit}
use Rattle.nl_exec_meaning.specs.declared.exits.Exit.TheVariants.{Stopped, Reported, Left}
use Rattle.nl_exec_meaning.specs.declared.frames.Frame.TheVariants as frame
use Rattle.nl_exec_cases.proofs.blocks.resume_text_statement.Goals as goal

pub returns-in-Stopped-clause-meaning : goal.returns-in-Stopped-clause-meaning
returns-in-Stopped-clause-meaning g c = λ prev units thrifty.
    let code = c.args.code.now in
    ap (λ (x : State). ended Stopped x) (c.cut.ensures.state code units)
    ∙ sym (ap (λ (e : Exit). resumed code prev (frame.TextStatement c.args.node c.args.at c.args.stopped) (ended e (state_of code.names c.args.hands.now units))) c.in-Stopped.is)

pub returns-in-Reported-clause-meaning : goal.returns-in-Reported-clause-meaning
returns-in-Reported-clause-meaning g c = λ prev units thrifty.
    let code = c.args.code.now in
    ap (λ (x : State). ended (Reported c.in-Reported.value) x) (c.cut-in-Reported.ensures.state code units)
    ∙ sym (ap (λ (e : Exit). resumed code prev (frame.TextStatement c.args.node c.args.at c.args.stopped) (ended e (state_of code.names c.args.hands.now units))) c.in-Reported.is)

pub returns-in-Left-clause-meaning : goal.returns-in-Left-clause-meaning
returns-in-Left-clause-meaning g c = λ prev units thrifty.
    let code = c.args.code.now in
    ap (λ (x : State). ended Left x) (c.cut-in-Left.ensures.state code units)
    ∙ sym (ap (λ (e : Exit). resumed code prev (frame.TextStatement c.args.node c.args.at c.args.stopped) (ended e (state_of code.names c.args.hands.now units))) c.in-Left.is)
