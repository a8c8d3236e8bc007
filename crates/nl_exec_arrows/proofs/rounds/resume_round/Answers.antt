-- The locals of a turn are forgotten at its end, and what is left goes on.
use Rattle.std.proofs.Common.{ap, ◌∙◌, sym}
use Rattle.std.proofs.lemmas.Result.{IfOk-weaker}
use Rattle.nl_value.specs.Views.{plain}
use Rattle.nl_exec_meaning.specs.Code.{node_at}
use Rattle.nl_exec_meaning.specs.Frames.{resumed}
use Rattle.nl_exec_meaning.specs.Rounds.{turn_over}
use Rattle.nl_exec_meaning.specs.Seen.{ended, state_of}
use Rattle.nl_exec_meaning.specs.State.{State}
use Rattle.nl_exec_meaning.specs.declared.exits.Exit.{Exit}
use Rattle.nl_exec_meaning.specs.declared.exits.Exit.TheVariants as exits
use Rattle.nl_exec_meaning.specs.declared.frames.Frame.TheVariants as frame
use Rattle.nl_exec_arrows.proofs.rounds.resume_round.Goals as goal

pub returns-in-Gives-clause-meaning : goal.returns-in-Gives-clause-meaning
returns-in-Gives-clause-meaning g c =
    let code = c.args.code.now in
    let t = node_at code c.args.node in
    IfOk-weaker c.round_over.result _ _ (λ next meant. λ prev units thrifty.
    meant prev units thrifty
    ∙ ap (λ (s : State). turn_over c.args.word prev t c.args.index c.args.rounds (plain c.in-Gives.value) s) (c.cut.ensures.state code units)
    ∙ sym (ap (λ (e : Exit). resumed code prev (frame.Round c.args.node c.args.index c.args.word c.args.kept c.args.rounds) (ended e (state_of code.names c.args.hands.now units))) c.in-Gives.is))
    c.round_over.ensures.meaning

pub returns-in-Stopped-clause-meaning : goal.returns-in-Stopped-clause-meaning
returns-in-Stopped-clause-meaning g c = λ prev units thrifty.
    let code = c.args.code.now in
    ap (ended exits.Stopped) (c.cut-in-Stopped.ensures.state code units)
    ∙ sym (ap (λ (e : Exit). resumed code prev (frame.Round c.args.node c.args.index c.args.word c.args.kept c.args.rounds) (ended e (state_of code.names c.args.hands.now units))) c.in-Stopped.is)

pub returns-in-Reported-clause-meaning : goal.returns-in-Reported-clause-meaning
returns-in-Reported-clause-meaning g c = λ prev units thrifty.
    let code = c.args.code.now in
    ap (ended (exits.Reported c.in-Reported.value)) (c.cut-in-Reported.ensures.state code units)
    ∙ sym (ap (λ (e : Exit). resumed code prev (frame.Round c.args.node c.args.index c.args.word c.args.kept c.args.rounds) (ended e (state_of code.names c.args.hands.now units))) c.in-Reported.is)

pub returns-in-Left-clause-meaning : goal.returns-in-Left-clause-meaning
returns-in-Left-clause-meaning g c = λ prev units thrifty.
    let code = c.args.code.now in
    ap (ended exits.Left) (c.cut-in-Left.ensures.state code units)
    ∙ sym (ap (λ (e : Exit). resumed code prev (frame.Round c.args.node c.args.index c.args.word c.args.kept c.args.rounds) (ended e (state_of code.names c.args.hands.now units))) c.in-Left.is)
