-- What each word does where it is done at once.
use Rattle.std.proofs.Common.{◌+◌, false, Option, None, refl, ap, ap₂, ◌∙◌, sym, arith}
use Rattle.nl_tree.specs.Tree.{span}
use Rattle.nl_agents_layout.specs.Nouns.{BreedNumber}
use Rattle.nl_exec_meaning.specs.Cases as case
use Rattle.nl_exec_meaning.specs.Code.{node_at}
use Rattle.nl_exec_acts.specs.declared.words.Act.{Act}
use Rattle.nl_exec_meaning.specs.declared.words.Control.{Control}
use Rattle.nl_exec_meaning.specs.declared.words.Built.{Built}
use Rattle.nl_exec_meaning.specs.declared.words.Built.TheVariants as built
use Rattle.nl_exec_meaning.specs.declared.words.Making.TheVariants as the_making
use Rattle.nl_exec_meaning.specs.Seen.{state_of}
use Rattle.nl_exec_at_once.proofs.Controls.{word_goes_on}
use Rattle.nl_exec_at_once.proofs.statements.do_plain.Goals as goal

pub returns-in-Set-clause-done : goal.returns-in-Set-clause-done
returns-in-Set-clause-done g c = λ done room n enough.
    let code = c.args.code.now in
    let k = c.in-Word in
    let is = c.in-Control.is ∙ ap (λ (w : Control). built.Control w) c.in-Set.is in
    word_goes_on code.program (node_at code c.args.node) k.runs k.breed _
    (state_of code.names c.args.hands.now (c.args.units.now + n)) (state_of code.names c.set.new.hands (c.args.units.now + n))
    (ap (λ (b : Built). case.Word k.runs k.breed b) (sym is) ∙ k.ensures.op)
    (λ next. c.if-not-may_run.ensures.allowed refl code (c.args.units.now + n) (span (node_at code c.args.node)) next)
    (λ r inside. c.set.ensures.done done r (c.args.units.now + n) inside)
    room enough

pub returns-in-Set-clause-not : goal.returns-in-Set-clause-not
returns-in-Set-clause-not g c = λ not. (c.set.ensures.not not, refl)

pub returns-in-Forward-clause-done : goal.returns-in-Forward-clause-done
returns-in-Forward-clause-done g c = λ done room n enough.
    let code = c.args.code.now in
    let k = c.in-Word in
    let is = c.in-Control.is ∙ ap (λ (w : Control). built.Control w) c.in-Forward.is in
    word_goes_on code.program (node_at code c.args.node) k.runs k.breed _
    (state_of code.names c.args.hands.now (c.args.units.now + n)) (state_of code.names c.walk.new.hands (c.walk.new.units + n))
    (ap (λ (b : Built). case.Word k.runs k.breed b) (sym is) ∙ k.ensures.op)
    (λ next. c.if-not-may_run.ensures.allowed refl code (c.args.units.now + n) (span (node_at code c.args.node)) next)
    (λ r inside. c.walk.ensures.done done r n (omega (arith, inside)))
    room enough

pub returns-in-Back-clause-done : goal.returns-in-Back-clause-done
returns-in-Back-clause-done g c = λ done room n enough.
    let code = c.args.code.now in
    let k = c.in-Word in
    let is = c.in-Control.is ∙ ap (λ (w : Control). built.Control w) c.in-Back.is in
    word_goes_on code.program (node_at code c.args.node) k.runs k.breed _
    (state_of code.names c.args.hands.now (c.args.units.now + n)) (state_of code.names c.walk-in-Back.new.hands (c.walk-in-Back.new.units + n))
    (ap (λ (b : Built). case.Word k.runs k.breed b) (sym is) ∙ k.ensures.op)
    (λ next. c.if-not-may_run.ensures.allowed refl code (c.args.units.now + n) (span (node_at code c.args.node)) next)
    (λ r inside. c.walk-in-Back.ensures.done done r n (omega (arith, inside)))
    room enough

pub returns-in-Move-clause-done : goal.returns-in-Move-clause-done
returns-in-Move-clause-done g c = λ done room n enough.
    let code = c.args.code.now in
    let k = c.in-Word in
    let is = c.in-Act.is ∙ ap (λ (a : Act). built.Act a) c.in-Move.is in
    word_goes_on code.program (node_at code c.args.node) k.runs k.breed _
    (state_of code.names c.args.hands.now (c.args.units.now + n)) (state_of code.names c.do_move.new.hands (c.args.units.now + n))
    (ap (λ (b : Built). case.Word k.runs k.breed b) (sym is) ∙ k.ensures.op)
    (λ next. c.if-not-may_run.ensures.allowed refl code (c.args.units.now + n) (span (node_at code c.args.node)) next)
    (λ r inside. c.do_move.ensures.done done k.breed r (c.args.units.now + n) inside)
    room enough

pub returns-in-Move-clause-not : goal.returns-in-Move-clause-not
returns-in-Move-clause-not g c = λ not. (c.do_move.ensures.not not, refl)

pub returns-in-Some-clause-done : goal.returns-in-Some-clause-done
returns-in-Some-clause-done g c = λ done room n enough.
    let code = c.args.code.now in
    let k = c.in-Word in
    let way = c.in-Some.way in
    word_goes_on code.program (node_at code c.args.node) k.runs None (built.Making (the_making.Link way false))
    (state_of code.names c.args.hands.now (c.args.units.now + n)) (state_of code.names c.do_link.new.hands (c.args.units.now + n))
    (ap₂ (λ (b : Option BreedNumber) (w : Built). case.Word k.runs b w) (sym c.in-Some.ensures.breed) (sym c.in-Some.ensures.word) ∙ k.ensures.op)
    (λ next. c.if-not-may_run.ensures.allowed refl code (c.args.units.now + n) (span (node_at code c.args.node)) next)
    (λ r inside. c.do_link.ensures.done done r (c.args.units.now + n) inside)
    room enough

pub returns-in-Some-clause-not : goal.returns-in-Some-clause-not
returns-in-Some-clause-not g c = λ not. (c.do_link.ensures.not not, refl)
