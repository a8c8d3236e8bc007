-- A node is one of the cases.
use Rattle.std.specs.Prelude.{[]}
use Rattle.std.proofs.Common.{ap, ◌∙◌, refl}
use Rattle.nl_tree.specs.Tree.{label, span}
use Rattle.nl_value.specs.Plain.{PlainNumber}
use Rattle.nl_exec_acts.specs.declared.fail.ErrorKind.TheVariants.{WrongType}
use Rattle.nl_exec_meaning.specs.Cases as case
use Rattle.nl_exec_meaning.specs.Code.{node_at, name_of, written}
use Rattle.nl_exec_meaning.specs.State.{fails}
use Rattle.nl_exec_meaning.specs.Running.{allowed}
use Rattle.nl_exec_meaning.specs.Variables.{read_local, read_global, read_owned, read_apart}
use Rattle.nl_exec_meaning.specs.Meaning.{built_case, cases}
use Rattle.nl_exec_meaning.specs.Frames.{parts_from}
use Rattle.nl_exec_meaning.specs.Seen.{ended, state_of}
use Rattle.nl_exec_meaning.specs.Work.{next_work}
use Rattle.nl_exec_dispatch.proofs.Entering.{call_out, cases_out, falls_below, items_out, means_too, next_falls, none_falls}
use Rattle.nl_exec_dispatch.proofs.dispatch.enter.Goals as goal

pub returns-in-Number-clause-meaning : goal.returns-in-Number-clause-meaning
returns-in-Number-clause-meaning g c = λ prev units thrifty.
    let code = c.args.code.now in
    let t = node_at code c.args.node in
    let s = state_of code.names c.args.hands.now units in
    cases_out code.program prev t s (case.Constant (PlainNumber c.in-Number.number)) c.in-Number.ensures.op

pub returns-in-Number-clause-falls : goal.returns-in-Number-clause-falls
returns-in-Number-clause-falls g c = none_falls (node_at c.args.code.now c.args.node) 0 refl

pub returns-in_ok-read_words-in-Words-clause-meaning : goal.returns-in_ok-read_words-in-Words-clause-meaning
returns-in_ok-read_words-in-Words-clause-meaning g c = λ prev units thrifty.
    let code = c.args.code.now in
    let t = node_at code c.args.node in
    let s = state_of code.names c.args.hands.now units in
    c.in_ok-read_words-in-Words.ensures.meaning prev units ∙ cases_out code.program prev t s (written (label t)) c.in-Words.ensures.op

pub returns-in_ok-read_words-in-Words-clause-falls : goal.returns-in_ok-read_words-in-Words-clause-falls
returns-in_ok-read_words-in-Words-clause-falls g c = none_falls (node_at c.args.code.now c.args.node) 0 refl

pub returns-in-Items-clause-meaning : goal.returns-in-Items-clause-meaning
returns-in-Items-clause-meaning g c =
    let code = c.args.code.now in
    let t = node_at code c.args.node in
    means_too code c.enter_parts.result c.enter_parts.new.hands c.args.hands.now
    (λ prev s. parts_from code prev t 0 [] s) (λ prev s. cases code.program prev t s)
    (λ prev s. items_out code prev t s c.in-Items.ensures.op) c.enter_parts.ensures.meaning

pub returns-in-Items-clause-falls : goal.returns-in-Items-clause-falls
returns-in-Items-clause-falls g c =
    let code = c.args.code.now in
    let t = node_at code c.args.node in
    next_falls code t case.Items c.enter_parts.result c.in-Items.ensures.op tt c.enter_parts.ensures.falls

pub returns-in-Procedure-clause-meaning : goal.returns-in-Procedure-clause-meaning
returns-in-Procedure-clause-meaning g c =
    let code = c.args.code.now in
    let t = node_at code c.args.node in
    means_too code c.enter_parts-in-Procedure.result c.enter_parts-in-Procedure.new.hands c.args.hands.now
    (λ prev s. parts_from code prev t 0 [] s) (λ prev s. cases code.program prev t s)
    (λ prev s. call_out code prev t s c.in-Procedure.field-0 c.in-Procedure.ensures.op) c.enter_parts-in-Procedure.ensures.meaning

pub returns-in-Procedure-clause-falls : goal.returns-in-Procedure-clause-falls
returns-in-Procedure-clause-falls g c =
    let code = c.args.code.now in
    let t = node_at code c.args.node in
    next_falls code t (case.Procedure c.in-Procedure.field-0) c.enter_parts-in-Procedure.result c.in-Procedure.ensures.op tt c.enter_parts-in-Procedure.ensures.falls

pub returns-in-Negation-clause-meaning : goal.returns-in-Negation-clause-meaning
returns-in-Negation-clause-meaning g c = λ prev units thrifty.
    let code = c.args.code.now in
    let t = node_at code c.args.node in
    let s = state_of code.names c.args.hands.now units in
    c.enter_negation.ensures.meaning prev units thrifty ∙ cases_out code.program prev t s case.Negation c.in-Negation.ensures.op

pub returns-in-Negation-clause-falls : goal.returns-in-Negation-clause-falls
returns-in-Negation-clause-falls g c =
    let code = c.args.code.now in
    let t = node_at code c.args.node in
    falls_below code.program.declared t case.Negation (next_work code c.enter_negation.result) c.in-Negation.ensures.op tt c.enter_negation.ensures.falls

pub returns-in-Inside-clause-meaning : goal.returns-in-Inside-clause-meaning
returns-in-Inside-clause-meaning g c = λ prev units thrifty.
    let code = c.args.code.now in
    let t = node_at code c.args.node in
    let s = state_of code.names c.args.hands.now units in
    c.enter_inside.ensures.meaning prev units thrifty ∙ cases_out code.program prev t s case.Inside c.in-Inside.ensures.op

pub returns-in-Inside-clause-falls : goal.returns-in-Inside-clause-falls
returns-in-Inside-clause-falls g c =
    let code = c.args.code.now in
    let t = node_at code c.args.node in
    falls_below code.program.declared t case.Inside (next_work code c.enter_inside.result) c.in-Inside.ensures.op tt c.enter_inside.ensures.falls

pub returns-in-Statements-clause-meaning : goal.returns-in-Statements-clause-meaning
returns-in-Statements-clause-meaning g c = λ prev units thrifty.
    let code = c.args.code.now in
    let t = node_at code c.args.node in
    let s = state_of code.names c.args.hands.now units in
    c.enter_statements.ensures.meaning prev units thrifty ∙ cases_out code.program prev t s case.Statements c.in-Statements.ensures.op

pub returns-in-Statements-clause-falls : goal.returns-in-Statements-clause-falls
returns-in-Statements-clause-falls g c = none_falls (node_at c.args.code.now c.args.node) (next_work c.args.code.now c.enter_statements.result) c.enter_statements.ensures.falls

pub returns-in_ok-read_local-in-Local-clause-meaning : goal.returns-in_ok-read_local-in-Local-clause-meaning
returns-in_ok-read_local-in-Local-clause-meaning g c = λ prev units thrifty.
    let code = c.args.code.now in
    let t = node_at code c.args.node in
    let s = state_of code.names c.args.hands.now units in
    c.in_ok-read_local-in-Local.ensures.meaning units
    ∙ ap (λ x. read_local (name_of code.names c.in-Local.id) x s) c.span-place.ensures
    ∙ cases_out code.program prev t s (case.Local (name_of code.names c.in-Local.id)) c.in-Local.ensures.op

pub returns-in_ok-read_local-in-Local-clause-falls : goal.returns-in_ok-read_local-in-Local-clause-falls
returns-in_ok-read_local-in-Local-clause-falls g c = none_falls (node_at c.args.code.now c.args.node) 0 refl

pub returns-in_ok-read_global-in-Global-clause-meaning : goal.returns-in_ok-read_global-in-Global-clause-meaning
returns-in_ok-read_global-in-Global-clause-meaning g c = λ prev units thrifty.
    let code = c.args.code.now in
    let t = node_at code c.args.node in
    let s = state_of code.names c.args.hands.now units in
    c.in_ok-read_global-in-Global.ensures.meaning units
    ∙ ap (λ x. read_global c.in-Global.slot x s) c.span-place.ensures
    ∙ cases_out code.program prev t s (case.Global c.in-Global.slot) c.in-Global.ensures.op

pub returns-in_ok-read_global-in-Global-clause-falls : goal.returns-in_ok-read_global-in-Global-clause-falls
returns-in_ok-read_global-in-Global-clause-falls g c = none_falls (node_at c.args.code.now c.args.node) 0 refl

pub returns-in_ok-read_owned-in-Owned-clause-meaning : goal.returns-in_ok-read_owned-in-Owned-clause-meaning
returns-in_ok-read_owned-in-Owned-clause-meaning g c = λ prev units thrifty.
    let code = c.args.code.now in
    let t = node_at code c.args.node in
    let s = state_of code.names c.args.hands.now units in
    c.in_ok-read_owned-in-Owned.ensures.meaning units
    ∙ ap (λ x. read_owned c.in-Owned.runs c.in-Owned.slot x s) c.span-place.ensures
    ∙ cases_out code.program prev t s (case.Owned c.in-Owned.runs c.in-Owned.slot) c.in-Owned.ensures.op

pub returns-in_ok-read_owned-in-Owned-clause-falls : goal.returns-in_ok-read_owned-in-Owned-clause-falls
returns-in_ok-read_owned-in-Owned-clause-falls g c = none_falls (node_at c.args.code.now c.args.node) 0 refl

pub returns-in_ok-read_apart-in-Aside-clause-meaning : goal.returns-in_ok-read_apart-in-Aside-clause-meaning
returns-in_ok-read_apart-in-Aside-clause-meaning g c = λ prev units thrifty.
    let code = c.args.code.now in
    let t = node_at code c.args.node in
    let s = state_of code.names c.args.hands.now units in
    c.in_ok-read_apart-in-Aside.ensures.meaning units
    ∙ ap (λ x. read_apart c.in-Aside.runs c.in-Aside.which x s) c.span-place.ensures
    ∙ cases_out code.program prev t s (case.Aside c.in-Aside.runs c.in-Aside.which) c.in-Aside.ensures.op

pub returns-in_ok-read_apart-in-Aside-clause-falls : goal.returns-in_ok-read_apart-in-Aside-clause-falls
returns-in_ok-read_apart-in-Aside-clause-falls g c = none_falls (node_at c.args.code.now c.args.node) 0 refl

pub returns-in-Word-clause-meaning : goal.returns-in-Word-clause-meaning
returns-in-Word-clause-meaning g c =
    let code = c.args.code.now in
    let t = node_at code c.args.node in
    let k = case.Word c.in-Word.runs c.in-Word.breed c.in-Word.word in
    means_too code c.enter_word.result c.enter_word.new.hands c.args.hands.now
    (λ prev s. allowed c.in-Word.runs (span t) s (built_case c.in-Word.word c.in-Word.breed code.program c.in-Word.runs prev t s))
    (λ prev s. cases code.program prev t s) (λ prev s. cases_out code.program prev t s k c.in-Word.ensures.op) c.enter_word.ensures.meaning

pub returns-in-Word-clause-falls : goal.returns-in-Word-clause-falls
returns-in-Word-clause-falls g c =
    let code = c.args.code.now in
    let t = node_at code c.args.node in
    let k = case.Word c.in-Word.runs c.in-Word.breed c.in-Word.word in
    next_falls code t k c.enter_word.result c.in-Word.ensures.op tt c.enter_word.ensures.falls

pub returns-in-Nothing-clause-meaning : goal.returns-in-Nothing-clause-meaning
returns-in-Nothing-clause-meaning g c = λ prev units thrifty.
    let code = c.args.code.now in
    let t = node_at code c.args.node in
    let s = state_of code.names c.args.hands.now units in
    ap (λ e. ended e s) c.fault.ensures
    ∙ ap (λ x. fails WrongType x s) c.span-place.ensures
    ∙ cases_out code.program prev t s case.Nothing c.in-Nothing.ensures.op

pub returns-in-Nothing-clause-falls : goal.returns-in-Nothing-clause-falls
returns-in-Nothing-clause-falls g c = none_falls (node_at c.args.code.now c.args.node) 0 refl
