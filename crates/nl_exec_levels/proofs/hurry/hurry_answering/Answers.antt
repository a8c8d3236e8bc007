-- Members have answered.
use Rattle.std.proofs.Common.{◌<◌, ◌+◌, ◌-◌, ℕ, suc, List, Option, length, ap, ◌∙◌, sym, arith}
use Rattle.std.specs.Option.{option_map}
use Rattle.nl_value.specs.Views.{plain}
use Rattle.nl_value.specs.declared.values.Value.{Value}
use Rattle.nl_exec_meaning.specs.Meaning.{evaluator}
use Rattle.nl_exec_meaning.specs.Walks.{Answer}
use Rattle.nl_exec_meaning.specs.Seen.{state_of}
use Rattle.nl_exec_meaning.specs.declared.exits.Exit.TheVariants.{Gives}
use Rattle.nl_exec_meaning.specs.declared.frames.Frame.TheVariants as frame
use Rattle.nl_exec_meaning.specs.declared.turns.Turns.{Turns}
use Rattle.nl_exec_at_once.specs.AtOnce.{value_or_block}
use Rattle.nl_exec_at_once.specs.declared.statements.TheConstants.{MOST_NESTED}
use Rattle.nl_exec_levels.specs.declared.levels.Level.{Level}
use Rattle.nl_exec_levels.specs.declared.focus.Focus.TheVariants.{Enter, Give}
use Rattle.nl_exec_levels.specs.Rest.{rest}
use Rattle.nl_exec_levels.proofs.Hurrying.{answers_hurried}
use Rattle.nl_exec_levels.proofs.Steadying.{steady_again, steady_top}
use Rattle.nl_exec_levels.proofs.hurry.hurry_answering.Goals as goal

pub do_answers-value-requires-clause-answering : goal.do_answers-value-requires-clause-answering
do_answers-value-requires-clause-answering g c =
    let level : Level = record { node = c.args.top; frame = frame.Answering c.args.whose c.args.index c.args.word c.args.member c.args.turns c.args.made c.args.gathered } in
    (steady_top c.args.code.now c.args.hands.now c.args.levels.now.items level c.requires.steady).0

pub returns-in-Some-clause-rest : goal.returns-in-Some-clause-rest
returns-in-Some-clause-rest g c = λ n.
    let code = c.args.code.now in
    let limit = c.args.limit in
    let ls = c.args.levels.now.items in
    let new = c.do_answers-value.new in
    let room = limit - suc (length ls) in
    let enough : MOST_NESTED < room = omega (arith, c.requires.room, c.args.levels.now.ok.0) in
    let last = state_of code.names new.hands (new.units + n) in
    let focus = Give (Gives c.in-Some.value) in
    ap (λ (all : List Level). rest code limit all focus last) c.in_ok-push.ensures.items
    ∙ answers_hurried code limit ls c.args.top c.args.whose c.args.index c.args.node c.args.member new.member c.args.word c.args.gathered
    c.args.turns new.turns c.args.made new.made (option_map plain c.do_answers-value.result) focus
    (state_of code.names c.args.hands.now (c.args.units.now + n)) last (c.do_answers-value.ensures.done c.args.gathered room n enough)
    (sym (ap (λ (o : Option Value). value_or_block code (evaluator code.program room) c.args.node (option_map plain o) last) c.in-Some.is))

pub returns-in-Some-clause-steady : goal.returns-in-Some-clause-steady
returns-in-Some-clause-steady g c =
    let code = c.args.code.now in
    let ls = c.args.levels.now.items in
    let new = c.do_answers-value.new in
    let level : (ℕ → Turns → List Answer → Level) = λ member turns made.
    record { node = c.args.top; frame = frame.Answering c.args.whose c.args.index c.args.word member turns made c.args.gathered } in
    let was = level c.args.member c.args.turns c.args.made in
    let ascend = c.do_answers-value.ensures.ascend c.args.gathered (steady_top code c.args.hands.now ls was c.requires.steady).1 in
    steady_again code new.hands c.args.hands.now ls c.push.new.self.items was (level new.member new.turns new.made)
    c.requires.steady c.do_answers-value.ensures.stands (c.do_answers-value.ensures.answering, ascend) c.in_ok-push.ensures.items

pub returns-in-None-clause-rest : goal.returns-in-None-clause-rest
returns-in-None-clause-rest g c = λ n.
    let code = c.args.code.now in
    let limit = c.args.limit in
    let ls = c.args.levels.now.items in
    let new = c.do_answers-value.new in
    let room = limit - suc (length ls) in
    let enough : MOST_NESTED < room = omega (arith, c.requires.room, c.args.levels.now.ok.0) in
    let last = state_of code.names new.hands (new.units + n) in
    ap (λ (all : List Level). rest code limit all (Enter c.args.node) last) c.in_ok-push.ensures.items
    ∙ answers_hurried code limit ls c.args.top c.args.whose c.args.index c.args.node c.args.member new.member c.args.word c.args.gathered
    c.args.turns new.turns c.args.made new.made (option_map plain c.do_answers-value.result) (Enter c.args.node)
    (state_of code.names c.args.hands.now (c.args.units.now + n)) last (c.do_answers-value.ensures.done c.args.gathered room n enough)
    (sym (ap (λ (o : Option Value). value_or_block code (evaluator code.program room) c.args.node (option_map plain o) last) c.in-None.is))

pub returns-in-None-clause-steady : goal.returns-in-None-clause-steady
returns-in-None-clause-steady g c =
    let code = c.args.code.now in
    let ls = c.args.levels.now.items in
    let new = c.do_answers-value.new in
    let level : (ℕ → Turns → List Answer → Level) = λ member turns made.
    record { node = c.args.top; frame = frame.Answering c.args.whose c.args.index c.args.word member turns made c.args.gathered } in
    let was = level c.args.member c.args.turns c.args.made in
    let ascend = c.do_answers-value.ensures.ascend c.args.gathered (steady_top code c.args.hands.now ls was c.requires.steady).1 in
    steady_again code new.hands c.args.hands.now ls c.push.new.self.items was (level new.member new.turns new.made)
    c.requires.steady c.do_answers-value.ensures.stands (c.do_answers-value.ensures.answering, ascend) c.in_ok-push.ensures.items
