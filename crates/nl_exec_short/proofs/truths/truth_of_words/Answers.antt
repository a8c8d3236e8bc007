-- The node is `and` or `or`.
use Rattle.std.proofs.Common.{true, false, refl, ap, ◌∙◌, sym}
use Rattle.nl_tree.specs.Tree.{span}
use Rattle.nl_exec_meaning.specs.declared.words.Built.TheVariants as built
use Rattle.nl_exec_meaning.specs.declared.words.Control.TheVariants as control
use Rattle.nl_exec_meaning.specs.Cases.{Word}
use Rattle.nl_exec_meaning.specs.Code.{node_at}
use Rattle.nl_exec_meaning.specs.Seen.{state_of}
use Rattle.nl_exec_short.proofs.Deciding.{truths_had}
use Rattle.nl_exec_short.proofs.truths.truth_of_words.Goals as goal

pub returns-then-may_run : goal.returns-then-may_run
returns-then-may_run g c =
    let code = c.args.code.now in
    let t = node_at code c.args.node in
    let w = c.in-Word-default-default-Control-And in
    let is = ap (Word w.runs w.breed) (sym (w.word-is ∙ ap built.Control w.word-0-is)) ∙ w.ensures.op in
    truths_had code.program t (λ n. state_of code.names c.args.hands.now n) 7 w.runs w.breed control.And false c.of_two_truths.result is
    (λ n. c.if-may_run.ensures.allowed refl code n (span t)) (λ n prev. refl) c.of_two_truths.ensures

pub returns-then-may_run-2 : goal.returns-then-may_run-2
returns-then-may_run-2 g c =
    let code = c.args.code.now in
    let t = node_at code c.args.node in
    let w = c.in-Word-default-default-Control-Or in
    let is = ap (Word w.runs w.breed) (sym (w.word-is ∙ ap built.Control w.word-0-is)) ∙ w.ensures.op in
    truths_had code.program t (λ n. state_of code.names c.args.hands.now n) 7 w.runs w.breed control.Or true c.of_two_truths-then-may_run-2.result is
    (λ n. c.if-may_run-2.ensures.allowed refl code n (span t)) (λ n prev. refl) c.of_two_truths-then-may_run-2.ensures
