-- What each word makes of the answers.
use Rattle.std.proofs.Common.{true, false, List, ap, ◌∙◌, sym}
use Rattle.std.proofs.lemmas.Result.{IfOk-weaker}
use Rattle.nl_tree.specs.Tree.{span}
use Rattle.nl_exec_meaning.specs.Code.{node_at}
use Rattle.nl_exec_meaning.specs.declared.words.Over.{Over}
use Rattle.nl_exec_meaning.specs.Walks.{Answer, one_extreme}
use Rattle.nl_exec_meaning.specs.Frames.{finished}
use Rattle.nl_exec_meaning.specs.Seen.{ground, state_of}
use Rattle.nl_exec_meaning.specs.declared.turns.Gathered.TheVariants as gathered
use Rattle.nl_exec_walks.proofs.finishing.of_set.Goals as goal

pub returns-in-With-clause-meaning : goal.returns-in-With-clause-meaning
returns-in-With-clause-meaning g c =
    IfOk-weaker c.all_members.result _ _
    (λ exit meant. λ units.
    let s = state_of c.args.code.now.names c.args.hands.now units in
    meant s ∙ sym (ap (λ (word : Over). finished (gathered.OfSet word) c.args.which (span (node_at c.args.code.now c.args.node)) c.args.made s) c.in-With.is))
    c.all_members.ensures.meaning

pub returns-in-WithMax-clause-meaning : goal.returns-in-WithMax-clause-meaning
returns-in-WithMax-clause-meaning g c =
    IfOk-weaker c.all_extremes.result _ _
    (λ exit meant. λ units.
    let s = state_of c.args.code.now.names c.args.hands.now units in
    meant s ∙ sym (ap (λ (word : Over). finished (gathered.OfSet word) c.args.which (span (node_at c.args.code.now c.args.node)) c.args.made s) c.in-WithMax.is))
    c.all_extremes.ensures.meaning

pub returns-in-WithMin-clause-meaning : goal.returns-in-WithMin-clause-meaning
returns-in-WithMin-clause-meaning g c =
    IfOk-weaker c.all_extremes-in-WithMin.result _ _
    (λ exit meant. λ units.
    let s = state_of c.args.code.now.names c.args.hands.now units in
    meant s ∙ sym (ap (λ (word : Over). finished (gathered.OfSet word) c.args.which (span (node_at c.args.code.now c.args.node)) c.args.made s) c.in-WithMin.is))
    c.all_extremes-in-WithMin.ensures.meaning

pub returns-in-MaxOneOf-clause-meaning : goal.returns-in-MaxOneOf-clause-meaning
returns-in-MaxOneOf-clause-meaning g c =
    IfOk-weaker c.one_extreme.result _ _
    (λ exit meant. λ units.
    let s = state_of c.args.code.now.names c.args.hands.now units in
    meant c.args.code.now units
    ∙ ap (λ (made : List Answer). one_extreme true c.args.which made s) c.as_slice.ensures
    ∙ sym (ap (λ (word : Over). finished (gathered.OfSet word) c.args.which (span (node_at c.args.code.now c.args.node)) c.args.made s) c.in-MaxOneOf.is))
    c.one_extreme.ensures.meaning

pub returns-in-MinOneOf-clause-meaning : goal.returns-in-MinOneOf-clause-meaning
returns-in-MinOneOf-clause-meaning g c =
    IfOk-weaker c.one_extreme-in-MinOneOf.result _ _
    (λ exit meant. λ units.
    let s = state_of c.args.code.now.names c.args.hands.now units in
    meant c.args.code.now units
    ∙ ap (λ (made : List Answer). one_extreme false c.args.which made s) c.as_slice-in-MinOneOf.ensures
    ∙ sym (ap (λ (word : Over). finished (gathered.OfSet word) c.args.which (span (node_at c.args.code.now c.args.node)) c.args.made s) c.in-MinOneOf.is))
    c.one_extreme-in-MinOneOf.ensures.meaning

pub returns-in-SortOn-clause-meaning : goal.returns-in-SortOn-clause-meaning
returns-in-SortOn-clause-meaning g c =
    IfOk-weaker c.sorted_on.result _ _
    (λ exit meant. λ units.
    let s = state_of c.args.code.now.names c.args.hands.now units in
    meant units ∙ sym (ap (λ (word : Over). finished (gathered.OfSet word) c.args.which (span (node_at c.args.code.now c.args.node)) c.args.made s) c.in-SortOn.is))
    c.sorted_on.ensures.meaning

pub returns-in-With-clause-fits : goal.returns-in-With-clause-fits
returns-in-With-clause-fits g c = IfOk-weaker c.all_members.result _ _ (λ exit fit. fit (ground c.args.hands.now) c.requires.members) c.all_members.ensures.fits

pub returns-in-WithMax-clause-fits : goal.returns-in-WithMax-clause-fits
returns-in-WithMax-clause-fits g c = IfOk-weaker c.all_extremes.result _ _ (λ exit fit. fit (ground c.args.hands.now) c.requires.members) c.all_extremes.ensures.fits

pub returns-in-WithMin-clause-fits : goal.returns-in-WithMin-clause-fits
returns-in-WithMin-clause-fits g c = IfOk-weaker c.all_extremes-in-WithMin.result _ _ (λ exit fit. fit (ground c.args.hands.now) c.requires.members) c.all_extremes-in-WithMin.ensures.fits
