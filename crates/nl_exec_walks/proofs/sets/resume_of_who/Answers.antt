-- Those who are asked, from the first one on.
use Rattle.std.proofs.Common.{Bool, Err, List, ap, ◌∙◌, sym, subst}
use Rattle.std.proofs.lemmas.Result.{IfOk-weaker}
use Rattle.nl_fixed.specs.declared.span.Span.{Span}
use Rattle.nl_value.specs.Views.{plain}
use Rattle.nl_exec_acts.specs.declared.fail.ActFail.{ActFail}
use Rattle.nl_exec_acts.specs.declared.fail.ErrorKind.{ErrorKind}
use Rattle.nl_tree.specs.Tree.{span}
use Rattle.nl_exec_meaning.specs.Code.{node_at}
use Rattle.nl_exec_meaning.specs.declared.words.Over.TheVariants as over
use Rattle.nl_exec_meaning.specs.State.{State, Outcome, fails}
use Rattle.nl_exec_meaning.specs.Walks as walks
use Rattle.nl_exec_meaning.specs.Walks.{Answer, collect_group}
use Rattle.nl_exec_meaning.specs.Frames.{finished, gathered_from, resumed}
use Rattle.nl_exec_meaning.specs.Seen.{ended, state_of}
use Rattle.nl_exec_meaning.specs.declared.exits.Exit.{Exit}
use Rattle.nl_exec_meaning.specs.declared.exits.Exit.TheVariants.{Error}
use Rattle.nl_exec_meaning.specs.declared.frames.Frame.TheVariants as frame
use Rattle.nl_exec_meaning.specs.declared.turns.Gathered.TheVariants as gathered
use Rattle.nl_exec_meaning.specs.declared.turns.Turns.{Turns}
use Rattle.nl_exec_walks.specs.Groups.{asked_of, asking}
use Rattle.nl_exec_walks.specs.Telling.{Tells}
use Rattle.nl_exec_walks.proofs.sets.resume_of_who.Goals as goal

pub returns-in-Ok-clause-meaning : goal.returns-in-Ok-clause-meaning
returns-in-Ok-clause-meaning g c =
    let code = c.args.code.now in
    let t = node_at code c.args.node in
    let who = c.in-Ok.group in
    let turns : Turns = record { which = who.which; members = who.members; at = 0; site = c.agents_in.new.hands.site } in
    IfOk-weaker c.next_answer.result _ _
    (λ next meant. λ prev units thrifty.
    let first : Bool × walks.Group → State → Outcome = λ group x. collect_group over.Of prev t 0 group.1 x (λ all s2. finished (gathered.OfAll group.0) group.1.which (span t) all s2) in
    meant prev units thrifty
    ∙ ap (λ (x : Turns). gathered_from prev t 0 over.Of (gathered.OfAll who.several) x c.in_ok-none-in-Ok.none (state_of code.names c.agents_in.new.hands units)) c.in_ok-turns-in-Ok.ensures
    ∙ ap (λ (made : List Answer). gathered_from prev t 0 over.Of (gathered.OfAll who.several) turns made (state_of code.names c.agents_in.new.hands units)) c.in_ok-none-in-Ok.ensures
    ∙ sym (c.in-Ok.ensures.told code.names units (span t) first)
    ∙ sym (ap (λ (e : Exit). resumed code prev (frame.OfWho c.args.node) (ended e (state_of code.names c.args.hands.now units))) c.in-Gives.is))
    c.next_answer.ensures.meaning

pub returns-in-Err-Error-clause-meaning : goal.returns-in-Err-Error-clause-meaning
returns-in-Err-Error-clause-meaning g c = λ prev units thrifty.
    let code = c.args.code.now in
    let t = node_at code c.args.node in
    let after = state_of code.names c.agents_in.new.hands units in
    let first : Bool × walks.Group → State → Outcome = λ group x. collect_group over.Of prev t 0 group.1 x (λ all s2. finished (gathered.OfAll group.0) group.1.which (span t) all s2) in
    let told = subst (λ (fail : ActFail). Tells asked_of (Err fail) c.agents_in.new.hands c.args.hands.now (asking (plain c.in-Gives.value))) c.in-Err-Error.field-0-is c.in-Err-Error.ensures.told in
    ap (λ (e : Exit). ended e after) c.fault.ensures
    ∙ ap (λ (k : ErrorKind). ended (Error k c.span.result c.agents_in.new.hands.site.body) after) c.in-Err-Error.kind-is
    ∙ ap (λ (p : Span). fails c.in-Err-Error.kind p after) c.span.ensures
    ∙ sym (told code.names units (span t) first)
    ∙ sym (ap (λ (e : Exit). resumed code prev (frame.OfWho c.args.node) (ended e (state_of code.names c.args.hands.now units))) c.in-Gives.is)
