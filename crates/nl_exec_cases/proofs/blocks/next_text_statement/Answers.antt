-- No statement is left, or the agent has died.
use Rattle.std.proofs.Common.{List, ap, ◌∙◌, sym}
use Rattle.nl_tree.specs.Tree.{Node}
use Rattle.nl_exec_meaning.specs.State.{State}
use Rattle.nl_exec_meaning.specs.Blocks.{cut_to}
use Rattle.nl_exec_meaning.specs.Meaning.{text_statements}
use Rattle.nl_exec_meaning.specs.Seen.{ended, state_of}
use Rattle.nl_exec_meaning.specs.declared.exits.Exit.TheVariants.{Left}
use Rattle.nl_exec_cases.proofs.Statements.{dead_text_statement}
use Rattle.nl_exec_cases.proofs.blocks.next_text_statement.Goals as goal

pub returns-in_default-clause-meaning : goal.returns-in_default-clause-meaning
returns-in_default-clause-meaning g c = λ prev units thrifty.
    let code = c.args.code.now in
    let s = state_of code.names c.args.hands.now units in
    ap (λ (x : State). ended c.text_end.result x) (c.cut.ensures.state code units)
    ∙ c.text_end.ensures.meaning (cut_to 0 s)
    ∙ sym (ap (λ (ts : List Node). text_statements prev ts c.args.stopped s) c.in_default.ensures.rest)

pub returns-in_default-clause-fits : goal.returns-in_default-clause-fits
returns-in_default-clause-fits g c = c.text_end.ensures.fits _

pub returns-then-is_dead-clause-meaning : goal.returns-then-is_dead-clause-meaning
returns-then-is_dead-clause-meaning g c = λ prev units thrifty.
    let code = c.args.code.now in
    let s = state_of code.names c.args.hands.now units in
    ap (λ (x : State). ended Left x) (c.cut-then-is_dead.ensures.state code units)
    ∙ sym (dead_text_statement prev _ _ c.args.stopped s (sym c.is_dead.ensures ∙ c.if-is_dead.true))
    ∙ sym (ap (λ (ts : List Node). text_statements prev ts c.args.stopped s) c.in-Some.ensures.rest)
