-- How a turn ended.
use Rattle.std.proofs.Common.{ap, ◌∙◌, sym}
use Rattle.nl_exec_meaning.specs.State.{State}
use Rattle.nl_exec_meaning.specs.Walks.{valued}
use Rattle.nl_exec_meaning.specs.Seen.{ended, state_of}
use Rattle.nl_exec_meaning.specs.declared.exits.Exit.{Exit}
use Rattle.nl_exec_meaning.specs.declared.exits.Exit.TheVariants.{Stopped, Reported}
use Rattle.nl_value.specs.Views.{plain}
use Rattle.nl_exec_walks.proofs.Turning.{left_told}
use Rattle.nl_exec_walks.proofs.answering.valued.Goals as goal

pub returns-in-Gives-clause-meaning : goal.returns-in-Gives-clause-meaning
returns-in-Gives-clause-meaning g c = λ code units next.
    ap (λ (e : Exit). valued c.args.site c.args.place (ended e (state_of code.names c.args.hands.now units)) next) c.in-Gives.is
    ∙ ap (λ (x : State). next (plain c.in-Gives.value) x) (sym (c.back.ensures.state code units))

pub returns-in-Left-clause-meaning : goal.returns-in-Left-clause-meaning
returns-in-Left-clause-meaning g c = λ code units next.
    let s = state_of code.names c.args.hands.now units in
    ap (λ (e : Exit). valued c.args.site c.args.place (ended e s) next) c.in-Left.is
    ∙ left_told c.args.site c.args.place s next c.fault.result c.fault.ensures
    ∙ ap (λ (x : State). ended c.fault.result x) (sym (c.back-in-Left.ensures.state code units))

pub returns-in-Stopped-clause-meaning : goal.returns-in-Stopped-clause-meaning
returns-in-Stopped-clause-meaning g c = λ code units next.
    ap (λ (e : Exit). valued c.args.site c.args.place (ended e (state_of code.names c.args.hands.now units)) next) c.in-Stopped.is
    ∙ ap (λ (x : State). ended Stopped x) (sym (c.back-in-Stopped.ensures.state code units))

pub returns-in-Reported-clause-meaning : goal.returns-in-Reported-clause-meaning
returns-in-Reported-clause-meaning g c = λ code units next.
    ap (λ (e : Exit). valued c.args.site c.args.place (ended e (state_of code.names c.args.hands.now units)) next) c.in-Reported.is
    ∙ ap (λ (x : State). ended (Reported c.in-Reported.value) x) (sym (c.back-in-Reported.ensures.state code units))
