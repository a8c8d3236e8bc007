-- The node is a word that compares.
use Rattle.std.proofs.Common.{refl, ap, ◌∙◌, sym}
use Rattle.nl_value.specs.Plain.{PlainNumber}
use Rattle.nl_exec_acts.specs.declared.words.Act.TheVariants as act
use Rattle.nl_exec_meaning.specs.declared.words.Built.TheVariants as built
use Rattle.nl_exec_meaning.specs.Cases.{Word}
use Rattle.nl_exec_meaning.specs.Code.{node_at}
use Rattle.nl_tree.specs.Tree.{span}
use Rattle.nl_exec_meaning.specs.Seen.{state_of}
use Rattle.nl_exec_short.proofs.Words.{truth_had}
use Rattle.nl_exec_short.proofs.truths.word_that_compares.Goals as goal

pub returns-in-Some : goal.returns-in-Some
returns-in-Some g c room n a b truth first second tells =
    let code = c.args.code.now in
    let s = state_of code.names c.args.hands.now n in
    let t = node_at code c.args.node in
    let w = c.in-Word-default-default-Act-Value-Compare in
    let is = ap (Word w.runs w.breed) (sym (w.word-is ∙ ap built.Act (w.word-0-is ∙ ap act.Value w.word-0-0-is))) ∙ w.ensures.op in
    truth_had code.program room t (node_at code c.in-Some.left) (node_at code c.in-Some.right) s w.runs w.breed w.which (PlainNumber a) (PlainNumber b) truth
    is c.in-Some.ensures (c.if-not-may_run.ensures.allowed refl code n (span t)) (c.if-not-may_run.ensures.stays refl code n)
    first second tells
