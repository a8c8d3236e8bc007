-- Words that end at once.
use Rattle.std.proofs.Common.{ap, ◌∙◌, sym}
use Rattle.nl_exec_meaning.specs.Code.{node_at}
use Rattle.nl_exec_meaning.specs.Meaning.{control_case}
use Rattle.nl_exec_meaning.specs.Seen.{state_of}
use Rattle.nl_exec_dispatch.proofs.dispatch.enter_control.Goals as goal

pub returns-in-Die-clause-meaning : goal.returns-in-Die-clause-meaning
returns-in-Die-clause-meaning g c = λ prev units thrifty.
    let code = c.args.code.now in
    let s = state_of code.names c.args.hands.now units in
    c.enter_die.ensures.meaning units
    ∙ sym (ap (λ w. control_case w code.program c.args.runs prev (node_at code c.args.node) s) c.in-Die.is)

pub returns-in-ClearGlobals-clause-meaning : goal.returns-in-ClearGlobals-clause-meaning
returns-in-ClearGlobals-clause-meaning g c = λ prev units thrifty.
    let code = c.args.code.now in
    let s = state_of code.names c.args.hands.now units in
    c.enter_clear_globals.ensures.meaning units
    ∙ sym (ap (λ w. control_case w code.program c.args.runs prev (node_at code c.args.node) s) c.in-ClearGlobals.is)

pub returns-in-ClearAll-clause-meaning : goal.returns-in-ClearAll-clause-meaning
returns-in-ClearAll-clause-meaning g c = λ prev units thrifty.
    let code = c.args.code.now in
    let s = state_of code.names c.args.hands.now units in
    c.enter_clear_all.ensures.meaning units
    ∙ sym (ap (λ w. control_case w code.program c.args.runs prev (node_at code c.args.node) s) c.in-ClearAll.is)
