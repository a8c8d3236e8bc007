-- Who is asked, and then the first turn.
use Rattle.std.proofs.Common.{Bool, Err, ap, ◌∙◌, sym, subst}
use Rattle.nl_fixed.specs.declared.span.Span.{Span}
use Rattle.nl_value.specs.Views.{plain}
use Rattle.nl_exec_acts.specs.declared.fail.ActFail.{ActFail}
use Rattle.nl_exec_acts.specs.declared.fail.ErrorKind.{ErrorKind}
use Rattle.nl_tree.specs.Tree.{span}
use Rattle.nl_exec_meaning.specs.Code.{node_at}
use Rattle.nl_exec_meaning.specs.State.{State, Outcome, fails}
use Rattle.nl_exec_meaning.specs.Walks as walks
use Rattle.nl_exec_meaning.specs.Walks.{walk_group}
use Rattle.nl_exec_meaning.specs.Frames.{resumed, walked_on}
use Rattle.nl_exec_meaning.specs.Seen.{ended, state_of}
use Rattle.nl_exec_meaning.specs.declared.exits.Exit.{Exit}
use Rattle.nl_exec_meaning.specs.declared.exits.Exit.TheVariants.{Error}
use Rattle.nl_exec_meaning.specs.declared.frames.Frame.TheVariants as frame
use Rattle.nl_exec_meaning.specs.declared.turns.Turns.{Turns}
use Rattle.nl_exec_walks.specs.Groups.{asked_of, asking}
use Rattle.nl_exec_walks.specs.Telling.{Tells}
use Rattle.nl_exec_walks.proofs.walking.resume_ask.Goals as goal

pub returns-clause-meaning : goal.returns-clause-meaning
returns-clause-meaning g c = λ prev units thrifty.
    let code = c.args.code.now in
    let hands = c.args.hands.now in
    let t = node_at code c.args.node in
    let s = state_of code.names hands units in
    let first : Bool × walks.Group → State → Outcome = λ who x. walk_group prev t 1 who.1 x in
    c.next_turn.ensures.meaning prev units thrifty
    ∙ ap (λ (x : Turns). walked_on prev t 1 x (state_of code.names c.agents_in.new.hands units)) c.in_ok-turns.ensures
    ∙ sym (c.in-Ok.ensures.told code.names units (span t) first)
    ∙ sym (ap (λ (e : Exit). resumed code prev (frame.AskWho c.args.node) (ended e s)) c.in-Gives.is)

pub returns-in-Err-Error-clause-meaning : goal.returns-in-Err-Error-clause-meaning
returns-in-Err-Error-clause-meaning g c = λ prev units thrifty.
    let code = c.args.code.now in
    let t = node_at code c.args.node in
    let s = state_of code.names c.args.hands.now units in
    let after = state_of code.names c.agents_in.new.hands units in
    let first : Bool × walks.Group → State → Outcome = λ who x. walk_group prev t 1 who.1 x in
    let told = subst (λ (fail : ActFail). Tells asked_of (Err fail) c.agents_in.new.hands c.args.hands.now (asking (plain c.in-Gives.value))) c.in-Err-Error.field-0-is c.in-Err-Error.ensures.told in
    ap (λ (e : Exit). ended e after) c.fault.ensures
    ∙ ap (λ (k : ErrorKind). ended (Error k c.span.result c.agents_in.new.hands.site.body) after) c.in-Err-Error.kind-is
    ∙ ap (λ (p : Span). fails c.in-Err-Error.kind p after) c.span.ensures
    ∙ sym (told code.names units (span t) first)
    ∙ sym (ap (λ (e : Exit). resumed code prev (frame.AskWho c.args.node) (ended e s)) c.in-Gives.is)
