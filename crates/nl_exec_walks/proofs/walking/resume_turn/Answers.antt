-- How a turn ended.
use Rattle.std.proofs.Common.{ap, ◌∙◌, sym, subst}
use Rattle.nl_exec_meaning.specs.State.{State, at_site}
use Rattle.nl_exec_meaning.specs.Frames.{resumed}
use Rattle.nl_exec_meaning.specs.Ground.{SiteFits}
use Rattle.nl_exec_meaning.specs.Seen.{ended, ground, state_of}
use Rattle.nl_exec_meaning.specs.declared.exits.Exit.{Exit}
use Rattle.nl_exec_meaning.specs.declared.exits.Exit.TheVariants.{Reported}
use Rattle.nl_exec_meaning.specs.declared.frames.Frame.TheVariants as frame
use Rattle.nl_exec_meaning.specs.declared.turns.Turns.{Turns}
use Rattle.nl_exec_walks.proofs.walking.resume_turn.Goals as goal

pub returns-in-Gives-clause-meaning : goal.returns-in-Gives-clause-meaning
returns-in-Gives-clause-meaning g c = λ prev units thrifty.
    let code = c.args.code.now in
    c.turn_after.ensures.meaning prev units thrifty
    ∙ sym (ap (λ (e : Exit). resumed code prev (frame.Asked c.args.node c.args.index c.args.turns) (ended e (state_of code.names c.args.hands.now units))) c.in-Gives.is)

pub returns-in-Stopped-clause-meaning : goal.returns-in-Stopped-clause-meaning
returns-in-Stopped-clause-meaning g c = λ prev units thrifty.
    let code = c.args.code.now in
    c.turn_after-in-Stopped.ensures.meaning prev units thrifty
    ∙ sym (ap (λ (e : Exit). resumed code prev (frame.Asked c.args.node c.args.index c.args.turns) (ended e (state_of code.names c.args.hands.now units))) c.in-Stopped.is)

pub returns-in-Left-clause-meaning : goal.returns-in-Left-clause-meaning
returns-in-Left-clause-meaning g c = λ prev units thrifty.
    let code = c.args.code.now in
    c.turn_after-in-Left.ensures.meaning prev units thrifty
    ∙ sym (ap (λ (e : Exit). resumed code prev (frame.Asked c.args.node c.args.index c.args.turns) (ended e (state_of code.names c.args.hands.now units))) c.in-Left.is)

pub run_as-requires-clause-site : goal.run_as-requires-clause-site
run_as-requires-clause-site g c = subst (λ (x : Turns). SiteFits (ground c.args.hands.now) x.site) (sym c.get.ensures) c.requires.turns.site

pub returns-in-Reported-clause-meaning : goal.returns-in-Reported-clause-meaning
returns-in-Reported-clause-meaning g c = λ prev units thrifty.
    let code = c.args.code.now in
    ap (λ (x : State). ended (Reported c.in-Reported.value) x) (c.run_as.ensures.state code.names units)
    ∙ ap (λ (x : Turns). ended (Reported c.in-Reported.value) (at_site x.site (state_of code.names c.args.hands.now units))) c.get.ensures
    ∙ sym (ap (λ (e : Exit). resumed code prev (frame.Asked c.args.node c.args.index c.args.turns) (ended e (state_of code.names c.args.hands.now units))) c.in-Reported.is)
