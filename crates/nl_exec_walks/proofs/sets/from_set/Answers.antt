-- The members of the set, from the first one on.
use Rattle.std.proofs.Common.{Err, List, ap, ◌∙◌, sym, subst}
use Rattle.std.proofs.lemmas.Result.{IfOk-weaker}
use Rattle.nl_fixed.specs.declared.span.Span.{Span}
use Rattle.nl_value.specs.Views.{plain}
use Rattle.nl_exec_acts.specs.declared.fail.ActFail.{ActFail}
use Rattle.nl_exec_acts.specs.declared.fail.ErrorKind.{ErrorKind}
use Rattle.nl_tree.specs.Tree.{span}
use Rattle.nl_exec_meaning.specs.Code.{node_at}
use Rattle.nl_exec_meaning.specs.State.{State, Outcome, fails}
use Rattle.nl_exec_meaning.specs.Walks.{Answer, Group, collect_group}
use Rattle.nl_exec_meaning.specs.Frames.{finished, gathered_from}
use Rattle.nl_exec_meaning.specs.Seen.{ended, state_of}
use Rattle.nl_exec_meaning.specs.declared.exits.Exit.{Exit}
use Rattle.nl_exec_meaning.specs.declared.exits.Exit.TheVariants.{Error}
use Rattle.nl_exec_meaning.specs.declared.turns.Turns.{Turns}
use Rattle.nl_exec_walks.specs.Groups.{group_of, listing}
use Rattle.nl_exec_walks.specs.Telling.{Tells}
use Rattle.nl_exec_walks.proofs.sets.from_set.Goals as goal

pub returns-in_ok-none-in-Ok-clause-meaning : goal.returns-in_ok-none-in-Ok-clause-meaning
returns-in_ok-none-in-Ok-clause-meaning g c =
    let code = c.args.code.now in
    let t = node_at code c.args.node in
    let turns : Turns = record { which = c.in-Ok.group.which; members = c.in-Ok.group.members; at = 0; site = c.args.hands.now.site } in
    IfOk-weaker c.next_answer.result _ _
    (λ next meant. λ prev units thrifty.
    let s = state_of code.names c.args.hands.now units in
    let first : Group → State → Outcome = λ group x. collect_group c.args.word prev t c.args.index group x (λ all s2. finished c.args.gathered group.which (span t) all s2) in
    meant prev units thrifty
    ∙ ap (λ (x : Turns). gathered_from prev t c.args.index c.args.word c.args.gathered x c.in_ok-none-in-Ok.none s) c.in_ok-turns-in-Ok.ensures
    ∙ ap (λ (made : List Answer). gathered_from prev t c.args.index c.args.word c.args.gathered turns made s) c.in_ok-none-in-Ok.ensures
    ∙ sym (c.in-Ok.ensures.told code.names units (span t) first))
    c.next_answer.ensures.meaning

pub returns-in-Err-Error-clause-meaning : goal.returns-in-Err-Error-clause-meaning
returns-in-Err-Error-clause-meaning g c = λ prev units thrifty.
    let code = c.args.code.now in
    let t = node_at code c.args.node in
    let s = state_of code.names c.args.hands.now units in
    let first : Group → State → Outcome = λ group x. collect_group c.args.word prev t c.args.index group x (λ all s2. finished c.args.gathered group.which (span t) all s2) in
    let told = subst (λ (fail : ActFail). Tells group_of (Err fail) c.args.hands.now c.args.hands.now (listing (plain c.args.value.now))) c.in-Err-Error.field-0-is c.in-Err-Error.ensures.told in
    ap (λ (e : Exit). ended e s) c.fault.ensures
    ∙ ap (λ (k : ErrorKind). ended (Error k c.span.result c.args.hands.now.site.body) s) c.in-Err-Error.kind-is
    ∙ ap (λ (p : Span). fails c.in-Err-Error.kind p s) c.span.ensures
    ∙ sym (told code.names units (span t) first)
