-- The next turn wants its unit, or the word is over.
use Rattle.std.proofs.Common.{◌≡◌, Bool, false, ap, ◌∙◌, sym}
use Rattle.nl_fixed.specs.declared.span.Span.{Span}
use Rattle.nl_exec_acts.specs.declared.fail.ErrorKind.TheVariants.{WrongType}
use Rattle.nl_exec_meaning.specs.Code.{node_at}
use Rattle.nl_exec_meaning.specs.Rounds.{is_over}
use Rattle.nl_exec_meaning.specs.Seen.{ended, state_of}
use Rattle.nl_exec_meaning.specs.State.{fails}
use Rattle.nl_exec_meaning.specs.declared.exits.Exit.{Exit}
use Rattle.nl_exec_meaning.specs.declared.rounds.Rounds.{Rounds}
use Rattle.nl_exec_arrows.proofs.Running.{no_block, unit_wanted}
use Rattle.nl_exec_arrows.proofs.rounds.next_round.Goals as goal

pub returns-in-Some-clause-meaning : goal.returns-in-Some-clause-meaning
returns-in-Some-clause-meaning g c = λ prev units thrifty.
    let code = c.args.code.now in
    let s = state_of code.names c.args.hands.now units in
    let more : is_over c.args.word c.args.rounds ≡ false = ap (is_over c.args.word) (sym c.get.ensures) ∙ sym c.is_over.ensures ∙ c.if-is_over.false in
    unit_wanted code prev c.args.node c.args.index c.args.word c.args.rounds s _ c.requires.rounds.stand more c.in-Some.ensures.value

pub returns-in-None-clause-meaning : goal.returns-in-None-clause-meaning
returns-in-None-clause-meaning g c = λ prev units thrifty.
    let code = c.args.code.now in
    let s = state_of code.names c.args.hands.now units in
    let more : is_over c.args.word c.args.rounds ≡ false = ap (is_over c.args.word) (sym c.get.ensures) ∙ sym c.is_over.ensures ∙ c.if-is_over.false in
    ap (λ (e : Exit). ended e s) c.fault.ensures
    ∙ ap (λ (p : Span). fails WrongType p s) c.span.ensures
    ∙ no_block code prev c.args.node c.args.index c.args.word c.args.rounds s c.requires.rounds.stand more c.in-None.ensures.value
