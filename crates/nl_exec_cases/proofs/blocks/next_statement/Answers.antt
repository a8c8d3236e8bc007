-- No statement is left, or the agent has died.
use Rattle.std.proofs.Common.{List, ap, ◌∙◌, sym}
use Rattle.nl_tree.specs.Tree.{Node}
use Rattle.nl_value.specs.declared.values.Value.TheVariants.{Nobody}
use Rattle.nl_exec_meaning.specs.State.{State}
use Rattle.nl_exec_meaning.specs.Blocks.{statements}
use Rattle.nl_exec_meaning.specs.Seen.{ended, state_of}
use Rattle.nl_exec_meaning.specs.declared.exits.Exit.TheVariants.{Gives, Left}
use Rattle.nl_exec_cases.proofs.Statements.{dead_statement}
use Rattle.nl_exec_cases.proofs.blocks.next_statement.Goals as goal

pub returns-in_default-clause-meaning : goal.returns-in_default-clause-meaning
returns-in_default-clause-meaning g c = λ prev units thrifty.
    let code = c.args.code.now in
    let s = state_of code.names c.args.hands.now units in
    ap (λ (x : State). ended (Gives Nobody) x) (c.cut.ensures.state code units)
    ∙ sym (ap (λ (ts : List Node). statements prev c.args.kept ts s) c.in_default.ensures.rest)

pub returns-then-is_dead-clause-meaning : goal.returns-then-is_dead-clause-meaning
returns-then-is_dead-clause-meaning g c = λ prev units thrifty.
    let code = c.args.code.now in
    let s = state_of code.names c.args.hands.now units in
    ap (λ (x : State). ended Left x) (c.cut-then-is_dead.ensures.state code units)
    ∙ sym (dead_statement prev c.args.kept _ _ s (sym c.is_dead.ensures ∙ c.if-is_dead.true))
    ∙ sym (ap (λ (ts : List Node). statements prev c.args.kept ts s) c.in-Some.ensures.rest)
